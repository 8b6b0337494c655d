-- Reading and writing a line, or the rows, undo each other: what is read is what was written (`back`), and what is written is read (`read`).
-- Assumes nothing.
use mathlib.Core.Path.{◌≡◌, refl, sym, ap, subst, ◌∙◌}
use mathlib.Core.List.{List, [], ◌∷◌, ◌++◌, map, append_assoc, append-nil, flatten}
use mathlib.Core.Bool.{Bool, true, false, cond}
use Prim.Native.Nat.{ℕ, zero, suc, ◌+◌, ◌≤◌, ◌<◌}
use native.Mathlib.Omega.{arith}
use native.Mathlib.Nat.{add-zero}
use borrow.Author.Tests.{ne_eqb}
use lib.Dec.{eqb}
use lib.ListN.{length, drop, length-append}
use Rattle.numbers.specs.declared.Parsed.{Parsed}
use Rattle.std.specs.Prelude.{Option, Some, None}
use Rattle.numbers.specs.Numbers.{parsed, item_at, digit_of, starts_at}
use Rattle.numbers.specs.Printed.{decimal, continued, commas}
use Rattle.numbers.proofs.Laws.{item_fit}
use Rattle.numbers.proofs.Round.{item_back, item_read, after, positive, key_back, key_read}
use Rattle.lines.specs.Printed.{line, row_key, Fit, FitRows}
use Rattle.lines.specs.Lines.{Numbers, all, cut, mark_of, before, then, values_at, line_at, head_at}
use Rattle.lines.specs.Lines.{Table, whole, wrong, above, then_rows, rows_at}
use Rattle.lines.proofs.Laws.{rows_bad}
use Rattle.lines.proofs.Reach.{mark_some}

-- ---- a line's numbers, each with the byte after it

-- the same bytes as `commas vs ++ (10 ∷ [])`, number by number, as they are read
printed : List ℕ → List ℕ
printed [] = []
printed (v ∷ vs) = decimal v ++ mark_of (length (v ∷ vs)) ∷ printed vs

printed_is : (v : ℕ) (vs : List ℕ) → printed (v ∷ vs) ≡ commas (v ∷ vs) ++ (10 ∷ [])
unfolding printed commas continued mark_of
printed_is v [] = ap (λ (l : List ℕ). l ++ (10 ∷ [])) (sym (append-nil (decimal v)))
printed_is v (w ∷ vs) =
    ap (λ (b : Bool). decimal v ++ cond b 10 44 ∷ printed (w ∷ vs)) (ne_eqb (suc (suc (length vs))) 1 (λ e. omega arith))
    ∙ ap (λ (l : List ℕ). decimal v ++ 44 ∷ l) (printed_is w vs) ∙ sym (append_assoc (decimal v) (44 ∷ commas (w ∷ vs)) (10 ∷ []))

mark_case : (b : Bool) → digit_of (cond b 10 44) ≡ None
unfolding digit_of
mark_case true = refl
mark_case false = refl

mark_stops : (k : ℕ) → digit_of (mark_of k) ≡ None
unfolding mark_of
mark_stops k = mark_case (eqb k 1)

-- what is read of k numbers from i on: as many, each below 65536, and in print
record Back (text : List ℕ) (k i : ℕ) (vs : List ℕ) (next : ℕ) : Type 0 where
  pub count : length vs ≡ k
  pub fit : Fit vs
  pub text_is : drop i text ≡ printed vs ++ drop next text

back_before :
    (text : List ℕ) (v : ℕ) (rest : Numbers) (vs : List ℕ) (next i m k : ℕ) → v ≤ 65535 →
    ((ws : List ℕ) (n : ℕ) → rest ≡ all ws n → Back text k m ws n) →
    drop i text ≡ decimal v ++ mark_of (suc k) ∷ drop m text →
    before v rest ≡ all vs next → Back text (suc k) i vs next
unfolding before printed Fit
back_before text v (cut ws) vs next i m k h f here e = absurd cc
back_before text v (all ws n) vs next i m k h f here e =
    let g = f ws n refl in
    let same : n ≡ next = cc in
    let list : v ∷ ws ≡ vs = cc in
    let print : drop i text ≡ printed (v ∷ ws) ++ drop n text =
    here
    ∙ ap (λ (l : List ℕ). decimal v ++ mark_of (suc k) ∷ l) g.text_is
    ∙ sym (append_assoc (decimal v) (mark_of (suc k) ∷ printed ws) (drop n text))
    ∙ ap (λ (j : ℕ). decimal v ++ mark_of (suc j) ∷ printed ws ++ drop n text) (sym g.count) in
    record {
      count = ap length (sym list) ∙ ap suc g.count;
      fit = subst Fit list (h, g.fit);
      text_is = print ∙ ap (λ (l : List ℕ). printed l ++ drop n text) list ∙ ap (λ (j : ℕ). printed vs ++ drop j text) same;
    }

back_then :
    (text : List ℕ) (got : Option Parsed) (f : ℕ → Numbers) (vs : List ℕ) (next i k : ℕ) →
    ((v m : ℕ) → got ≡ parsed v m → (v ≤ 65535) × (drop i text ≡ decimal v ++ mark_of (suc k) ∷ drop m text)) →
    ((m : ℕ) (ws : List ℕ) (n : ℕ) → f m ≡ all ws n → Back text k m ws n) →
    then got f ≡ all vs next → Back text (suc k) i vs next
unfolding then
back_then text None f vs next i k item more e = absurd cc
back_then text (Some p) f vs next i k item more e =
    let (fits, here) = item p.value p.next refl in
    back_before text p.value (f p.next) vs next i p.next k fits (more p.next) here e

values_back : (text : List ℕ) (k i : ℕ) (vs : List ℕ) (next : ℕ) → values_at text k i ≡ all vs next → Back text k i vs next
unfolding values_at printed Fit
values_back text zero i vs next e =
    let same : i ≡ next = cc in
    let list : [] ≡ vs = cc in
    record {
      count = ap length (sym list);
      fit = subst Fit list tt;
      text_is = ap (λ (j : ℕ). drop j text) same ∙ ap (λ (l : List ℕ). printed l ++ drop next text) list;
    }
values_back text (suc k) i vs next e =
    back_then text (item_at text (mark_of (suc k)) i) (λ m. values_at text k m) vs next i k
    (λ v m g. (item_fit text (mark_of (suc k)) i v m g, item_back text (mark_of (suc k)) i v m (mark_some (suc k)) g))
    (λ m ws n g. values_back text k m ws n g)
    e

-- ---- a line

only_line : (b : Bool) (v : Numbers) (vs : List ℕ) (next : ℕ) → cond b v (cut []) ≡ all vs next → (b ≡ true) × (v ≡ all vs next)
only_line true v vs next e = (refl, e)
only_line false v vs next e = absurd cc

-- a line in print, with what stands after it
line_print : (key vs s : List ℕ) → 0 < length vs → key ++ (printed vs ++ s) ≡ line key vs ++ s
line_print key [] s h = absurd (omega arith)
line_print key (v ∷ vs) s h =
    ap (λ (l : List ℕ). key ++ (l ++ s)) (printed_is v vs) ∙ sym (append_assoc key (commas (v ∷ vs) ++ (10 ∷ [])) s)

-- what is read as a line is that line in print
pub line_back : (text key : List ℕ) (k i : ℕ) (vs : List ℕ) (next : ℕ) → 0 < k → positive key ≡ true → line_at text key k i ≡ all vs next
    → (length vs ≡ k) × Fit vs × (drop i text ≡ line key vs ++ drop next text)
line_back text key k i vs next h p e =
    let (s, v) = only_line (starts_at text i key) (values_at text k (i + length key)) vs next e in
    let B = values_back text k (i + length key) vs next v in (
      B.count,
      B.fit,
      key_back key text i p s ∙ ap (λ (l : List ℕ). key ++ l) B.text_is
          ∙ line_print key vs (drop next text) (omega (arith, B.count)),
    )

values_read : (vs text : List ℕ) (i : ℕ) (s : List ℕ) → Fit vs → drop i text ≡ printed vs ++ s
    → values_at text (length vs) i ≡ all vs (i + length (printed vs))
unfolding values_at printed Fit then before
values_read [] text i s h e = rw add-zero
values_read (v ∷ vs) text i s h e =
    let mark = mark_of (length (v ∷ vs)) in
    let here : drop i text ≡ decimal v ++ mark ∷ (printed vs ++ s) = e ∙ append_assoc (decimal v) (mark ∷ printed vs) s in
    let one : item_at text mark i ≡ parsed v (i + length (decimal v) + 1) =
    item_read text mark i v (printed vs ++ s) h.0 (mark_stops (length (v ∷ vs))) here in
    let step : drop (i + length (decimal v)) text ≡ mark ∷ (printed vs ++ s) = after text i (decimal v) (mark ∷ (printed vs ++ s)) here in
    let next : drop (i + length (decimal v) + 1) text ≡ printed vs ++ s = after text (i + length (decimal v)) (mark ∷ []) (printed vs ++ s) step in
    let rest = values_read vs text (i + length (decimal v) + 1) s h.1 next in
    let size : length (decimal v ++ mark ∷ printed vs) ≡ length (decimal v) + suc (length (printed vs)) = length-append (decimal v)
    (mark ∷ printed vs) in
    let far : i + length (decimal v) + 1 + length (printed vs) ≡ i + length (decimal v ++ mark ∷ printed vs) = omega (arith, size) in
    rw (one, rest, far)

-- a line in print is read, up to its end
pub line_read : (text key : List ℕ) (i : ℕ) (vs s : List ℕ) → 0 < length vs → Fit vs → drop i text ≡ line key vs ++ s
    → (j : ℕ) × (line_at text key (length vs) i ≡ all vs j) × (drop j text ≡ s)
line_read text key i vs s some h e =
    let here : drop i text ≡ key ++ (printed vs ++ s) = e ∙ sym (line_print key vs s some) in
    let mid : drop (i + length key) text ≡ printed vs ++ s = after text i key (printed vs ++ s) here in (
      i + length key + length (printed vs),
      rw (key_read key text i (printed vs ++ s) here) (values_read vs text (i + length key) s h mid),
      after text (i + length key) (printed vs) s mid,
    )

-- ---- a line with one number

only_head : (b : Bool) (p : Option Parsed) (v next : ℕ) → cond b p None ≡ parsed v next → (b ≡ true) × (p ≡ parsed v next)
only_head true p v next e = (refl, e)
only_head false p v next e = absurd cc

head_print : (key : List ℕ) (v : ℕ) (s : List ℕ) → key ++ (decimal v ++ 10 ∷ s) ≡ line key (v ∷ []) ++ s
unfolding commas continued
head_print key v s =
    ap (λ (l : List ℕ). key ++ l) (sym (append_assoc (decimal v) (10 ∷ []) s))
    ∙ ap (λ (l : List ℕ). key ++ (l ++ (10 ∷ []) ++ s)) (sym (append-nil (decimal v)))
    ∙ sym (append_assoc key (commas (v ∷ []) ++ (10 ∷ [])) s)

pub head_back : (text key : List ℕ) (i v next : ℕ) → positive key ≡ true → head_at text key i ≡ parsed v next
    → (v ≤ 65535) × (drop i text ≡ line key (v ∷ []) ++ drop next text)
head_back text key i v next p e =
    let (s, f) = only_head (starts_at text i key) (item_at text 10 (i + length key)) v next e in
    let ten : 0 < 10 = omega arith in (
      item_fit text 10 (i + length key) v next f,
      key_back key text i p s ∙ ap (λ (l : List ℕ). key ++ l) (item_back text 10 (i + length key) v next ten f) ∙ head_print key v (drop next text),
    )

pub head_read : (text key : List ℕ) (i v : ℕ) (s : List ℕ) → v ≤ 65535 → drop i text ≡ line key (v ∷ []) ++ s
    → (j : ℕ) × (head_at text key i ≡ parsed v j) × (drop j text ≡ s)
unfolding digit_of
head_read text key i v s h e =
    let stop : digit_of 10 ≡ None = refl in
    let here : drop i text ≡ key ++ (decimal v ++ 10 ∷ s) = e ∙ sym (head_print key v s) in
    let mid : drop (i + length key) text ≡ decimal v ++ 10 ∷ s = after text i key (decimal v ++ 10 ∷ s) here in (
      i + length key + length (decimal v) + 1,
      rw (key_read key text i (decimal v ++ 10 ∷ s) here) (item_read text 10 (i + length key) v s h stop mid),
      after text (i + length key + length (decimal v)) (10 ∷ []) s (after text (i + length key) (decimal v) (10 ∷ s) mid),
    )

-- ---- the rows

row_positive : positive row_key ≡ true
unfolding positive
row_positive = refl

-- the rows in print
abbrev pub row_lines : List (List ℕ) → List ℕ
row_lines rs = flatten (map (line row_key) rs)

-- what is read of k rows from i on: as many, in size, and in print
pub record RowsBack (text : List ℕ) (width k i : ℕ) (rs : List (List ℕ)) (next : ℕ) : Type 0 where
  pub count : length rs ≡ k
  pub fit : FitRows width rs
  pub text_is : drop i text ≡ row_lines rs ++ drop next text

-- a row and then others
more_rows : (text : List ℕ) (width k i m : ℕ) (row : List ℕ) (rs : List (List ℕ)) (next : ℕ)
    → (length row ≡ width) × Fit row × (drop i text ≡ line row_key row ++ drop m text) → RowsBack text width k m rs next
    → RowsBack text width (suc k) i (row ∷ rs) next
unfolding flatten FitRows
more_rows text width k i m row rs next (size, fit, here) B =
    record {
      count = ap suc B.count;
      fit = (size, fit, B.fit);
      text_is = here ∙ ap (λ (l : List ℕ). line row_key row ++ l) B.text_is ∙ sym (append_assoc (line row_key row) (row_lines rs) (drop next text));
    }

no_rows : (text : List ℕ) (width i : ℕ) → RowsBack text width 0 i [] i
unfolding flatten FitRows
no_rows text width i = record { count = refl; fit = tt; text_is = refl }

back_above :
    (text : List ℕ) (width k i m : ℕ) (row : List ℕ) (rest : Table) (rs : List (List ℕ)) (next : ℕ) →
    (length row ≡ width) × Fit row × (drop i text ≡ line row_key row ++ drop m text) →
    ((qs : List (List ℕ)) (n : ℕ) → rest ≡ whole qs n → RowsBack text width k m qs n) →
    above row rest ≡ whole rs next → RowsBack text width (suc k) i rs next
unfolding above
back_above text width k i m row (wrong l vs) rs next here f e = absurd cc
back_above text width k i m row (whole qs n) rs next here f e =
    let same : n ≡ next = cc in
    let list : row ∷ qs ≡ rs = cc in
    subst (RowsBack text width (suc k) i rs) same
    (subst (λ l. RowsBack text width (suc k) i l n) list (more_rows text width k i m row qs n here (f qs n refl)))

back_rows :
    (text : List ℕ) (width k i : ℕ) (got : Numbers) (l : ℕ) (f : ℕ → Table) (rs : List (List ℕ)) (next : ℕ) →
    ((vs : List ℕ) (m : ℕ) → got ≡ all vs m → (length vs ≡ width) × Fit vs × (drop i text ≡ line row_key vs ++ drop m text)) →
    ((m : ℕ) (qs : List (List ℕ)) (n : ℕ) → f m ≡ whole qs n → RowsBack text width k m qs n) →
    then_rows got l f ≡ whole rs next → RowsBack text width (suc k) i rs next
unfolding then_rows
back_rows text width k i (cut vs) l f rs next line more e = absurd cc
back_rows text width k i (all vs m) l f rs next line more e = back_above text width k i m vs (f m) rs next (line vs m refl) (more m) e

-- what is read as rows is those rows in print
pub rows_back : (text : List ℕ) (width : ℕ) → 0 < width → (k l i : ℕ) (rs : List (List ℕ)) (next : ℕ) → rows_at text width k l i ≡ whole rs next
    → RowsBack text width k i rs next
unfolding rows_at
rows_back text width w zero l i rs next e =
    let same : i ≡ next = cc in
    let list : [] ≡ rs = cc in
    subst (RowsBack text width 0 i rs) same (subst (λ q. RowsBack text width 0 i q i) list (no_rows text width i))
rows_back text width w (suc k) l i rs next e =
    back_rows text width k i (line_at text row_key width i) l (λ m. rows_at text width k (l + 1) m) rs next
    (λ vs m g. line_back text row_key width i vs m w row_positive g)
    (λ m qs n g. rows_back text width w k (l + 1) m qs n g)
    e

rows_step : (text : List ℕ) (width k l i : ℕ) (row : List ℕ) (m : ℕ) (rest : Table) → line_at text row_key width i ≡ all row m
    → rows_at text width k (l + 1) m ≡ rest → rows_at text width (suc k) l i ≡ above row rest
unfolding rows_at then_rows
rows_step text width k l i row m rest e f = rw (e, f)

-- rows in print are read, up to their end
pub rows_read : (text : List ℕ) (width : ℕ) → 0 < width → (rs : List (List ℕ)) (l i : ℕ) (s : List ℕ) → FitRows width rs
    → drop i text ≡ row_lines rs ++ s → (j : ℕ) × (rows_at text width (length rs) l i ≡ whole rs j) × (drop j text ≡ s)
unfolding rows_at flatten FitRows above
rows_read text width w [] l i s h e = (i, refl, e)
rows_read text width w (row ∷ rs) l i s (size, fit, h) e =
    let here : drop i text ≡ line row_key row ++ (row_lines rs ++ s) = e ∙ append_assoc (line row_key row) (row_lines rs) s in
    let (m, got, rest) = line_read text row_key i row (row_lines rs ++ s) (omega arith) fit here in
    let (j, more, last) = rows_read text width w rs (l + 1) m s h rest in
    (j, rows_step text width (length rs) l i row m (whole rs j) (ap (λ k. line_at text row_key k i) (sym size) ∙ got) more, last)

-- ---- rows that are not in form

-- Of k rows from i on the first t are in form and the next is not: it is line l + t.
pub record RowsCut (text : List ℕ) (width k l i m : ℕ) : Type 0 where
  pub t : ℕ
  pub rows : List (List ℕ)
  pub next : ℕ
  pub numbers : List ℕ
  pub line_is : m ≡ l + t
  pub within : t < k
  pub back : RowsBack text width t i rows next
  pub stops : rows_at text width (suc t) l i ≡ wrong m numbers

cut-first : (text : List ℕ) (width k l i m : ℕ) (vs us : List ℕ) → line_at text row_key width i ≡ cut vs → wrong l vs ≡ wrong m us
    → RowsCut text width (suc k) l i m
cut-first text width k l i m vs us g e =
    let same : l ≡ m = cc in
    record {
      t = 0;
      rows = [];
      next = i;
      numbers = vs;
      line_is = omega arith;
      within = omega arith;
      back = no_rows text width i;
      stops = rows_bad text width 1 l i vs (omega arith) g ∙ ap (λ n. wrong n vs) same;
    }

cut_later : (text : List ℕ) (width k l i m j : ℕ) (row : List ℕ) → line_at text row_key width i ≡ all row j
    → (length row ≡ width) × Fit row × (drop i text ≡ line row_key row ++ drop j text) → RowsCut text width k (l + 1) j m
    → RowsCut text width (suc k) l i m
unfolding above
cut_later text width k l i m j row g here C =
    record {
      t = suc C.t;
      rows = row ∷ C.rows;
      next = C.next;
      numbers = row ++ C.numbers;
      line_is = omega (arith, C.line_is);
      within = omega (arith, C.within);
      back = more_rows text width C.t i j row C.rows C.next here C.back;
      stops = rows_step text width (suc C.t) l i row j (wrong m C.numbers) g C.stops;
    }

above-wrong : (row : List ℕ) (rest : Table) (m : ℕ) (us : List ℕ) → above row rest ≡ wrong m us → (vs : List ℕ) × (rest ≡ wrong m vs)
unfolding above
above-wrong row (whole rs next) m us e = absurd cc
above-wrong row (wrong l vs) m us e = (vs, let z : l ≡ m = cc in ap (λ n. wrong n vs) z)

cut_case :
    (text : List ℕ) (width k l i m : ℕ) (got : Numbers) (us : List ℕ) → line_at text row_key width i ≡ got →
    ((vs : List ℕ) (j : ℕ) → got ≡ all vs j → (length vs ≡ width) × Fit vs × (drop i text ≡ line row_key vs ++ drop j text)) →
    ((j : ℕ) (vs : List ℕ) → rows_at text width k (l + 1) j ≡ wrong m vs → RowsCut text width k (l + 1) j m) →
    then_rows got l (λ next. rows_at text width k (l + 1) next) ≡ wrong m us → RowsCut text width (suc k) l i m
unfolding then_rows
cut_case text width k l i m (cut vs) us g line more e = cut-first text width k l i m vs us g e
cut_case text width k l i m (all row j) us g line more e =
    let (vs, f) = above-wrong row (rows_at text width k (l + 1) j) m us e in
    cut_later text width k l i m j row g (line row j refl) (more j vs f)

pub rows_cut : (text : List ℕ) (width : ℕ) → 0 < width → (k l i m : ℕ) (vs : List ℕ) → rows_at text width k l i ≡ wrong m vs
    → RowsCut text width k l i m
unfolding rows_at
rows_cut text width w zero l i m vs e = absurd cc
rows_cut text width w (suc k) l i m vs e =
    cut_case text width k l i m (line_at text row_key width i) vs refl
    (λ us j g. line_back text row_key width i us j w row_positive g)
    (λ j us g. rows_cut text width w k (l + 1) j m us g)
    e
