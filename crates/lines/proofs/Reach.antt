-- How far a line and the rows reach in a text, and how many numbers they have. Each number takes two bytes or more.
-- Assumes nothing.
use mathlib.Core.Path.{◌≡◌, refl, sym, ap, ◌∙◌}
use mathlib.Core.List.{List, [], ◌∷◌, flatten}
use mathlib.Core.Bool.{Bool, true, false, cond}
use Prim.Native.Nat.{ℕ, zero, suc, ◌+◌, ◌*◌, ◌≤◌, ◌<◌}
use native.Mathlib.Omega.{arith}
use native.Mathlib.Nat.{suc-mul, zero-mul}
use lib.Dec.{eqb}
use lib.ListN.{length, length-append}
use Rattle.numbers.specs.declared.Parsed.{Parsed}
use Rattle.std.specs.Prelude.{Option, Some, None}
use Rattle.numbers.specs.Numbers.{parsed, item_at, starts_at}
use Rattle.numbers.proofs.Laws.{item_long}
use Rattle.lines.specs.Printed.{row_key}
use Rattle.lines.specs.Lines.{Numbers, all, cut, mark_of, before, then, values_at, line_at, head_at}
use Rattle.lines.specs.Lines.{Table, whole, wrong, above, then_rows, rows_at}

mark_case : (b : Bool) → 0 < cond b 10 44
mark_case true = omega arith
mark_case false = omega arith

pub mark_some : (left : ℕ) → 0 < mark_of left
unfolding mark_of
mark_some left = mark_case (eqb left 1)

-- ---- a line

reach-before :
    (v : ℕ) (rest : Numbers) (vs : List ℕ) (next m k len : ℕ) →
    ((ws : List ℕ) (n : ℕ) → rest ≡ all ws n → (length ws ≡ k) × (m + 2 * k ≤ n) × (n ≤ len)) →
    before v rest ≡ all vs next → (length vs ≡ suc k) × (m + 2 * k ≤ next) × (next ≤ len)
unfolding before
reach-before v (cut ws) vs next m k len f e = absurd cc
reach-before v (all ws n) vs next m k len f e =
    let g = f ws n refl in
    let same : n ≡ next = cc in
    let list : v ∷ ws ≡ vs = cc in
    (ap length (sym list) ∙ ap suc g.0, omega (arith, g.1), omega (arith, g.2))

reach-then :
    (got : Option Parsed) (f : ℕ → Numbers) (vs : List ℕ) (next i k len : ℕ) →
    ((v m : ℕ) → got ≡ parsed v m → (i + 2 ≤ m) × (m ≤ len)) →
    ((m : ℕ) → m ≤ len → (ws : List ℕ) (n : ℕ) → f m ≡ all ws n → (length ws ≡ k) × (m + 2 * k ≤ n) × (n ≤ len)) →
    then got f ≡ all vs next → (length vs ≡ suc k) × (i + 2 * suc k ≤ next) × (next ≤ len)
unfolding then
reach-then None f vs next i k len item more e = absurd cc
reach-then (Some p) f vs next i k len item more e =
    let here = item p.value p.next refl in
    let g = reach-before p.value (f p.next) vs next p.next k len (more p.next here.1) e in
    (g.0, omega (arith, here.0, g.1), g.2)

-- with one number or more the line is within the text wherever it begins
values_reach :
    (text : List ℕ) (k i : ℕ) → (k ≡ 0 → i ≤ length text) → (vs : List ℕ) (next : ℕ) → values_at text k i ≡ all vs next →
    (length vs ≡ k) × (i + 2 * k ≤ next) × (next ≤ length text)
unfolding values_at
values_reach text zero i h vs next e =
    let same : i ≡ next = cc in
    let list : [] ≡ vs = cc in
    (ap length (sym list), omega arith, omega (arith, h refl))
values_reach text (suc k) i h vs next e =
    reach-then (item_at text (mark_of (suc k)) i) (λ m. values_at text k m) vs next i k (length text)
    (λ v m g. item_long text (mark_of (suc k)) i v m (mark_some (suc k)) g)
    (λ m l ws n g. values_reach text k m (λ _. l) ws n g)
    e

only_line : (b : Bool) (v : Numbers) (vs : List ℕ) (next : ℕ) → cond b v (cut []) ≡ all vs next → v ≡ all vs next
only_line true v vs next e = e
only_line false v vs next e = absurd cc

pub line-reach :
    (text key : List ℕ) (k i : ℕ) → 0 < k → (vs : List ℕ) (next : ℕ) → line_at text key k i ≡ all vs next →
    (length vs ≡ k) × (i + 2 * k ≤ next) × (next ≤ length text)
line-reach text key k i h vs next e =
    let g = values_reach text k (i + length key) (λ z. absurd (omega arith)) vs next (only_line (starts_at text i key) _ vs next e) in
    (g.0, omega (arith, g.1), g.2)

only_head : (b : Bool) (p : Option Parsed) (v next : ℕ) → cond b p None ≡ parsed v next → p ≡ parsed v next
only_head true p v next e = e
only_head false p v next e = absurd cc

pub head_reach : (text key : List ℕ) (i v next : ℕ) → head_at text key i ≡ parsed v next → next ≤ length text
head_reach text key i v next e =
    (item_long text 10 (i + length key) v next (omega arith) (only_head (starts_at text i key) (item_at text 10 (i + length key)) v next e)).1

-- ---- the rows

reach-above :
    (row : List ℕ) (rest : Table) (rs : List (List ℕ)) (next m k width len : ℕ) → length row ≡ width →
    ((qs : List (List ℕ)) (n : ℕ) → rest ≡ whole qs n → (length (flatten qs) ≡ k * width) × (m + 2 * (k * width) ≤ n) × (n ≤ len)) →
    above row rest ≡ whole rs next → (length (flatten rs) ≡ suc k * width) × (m + 2 * (k * width) ≤ next) × (next ≤ len)
unfolding above flatten
reach-above row (wrong l vs) rs next m k width len h f e = absurd cc
reach-above row (whole qs n) rs next m k width len h f e =
    let g = f qs n refl in
    let same : n ≡ next = cc in
    let list : row ∷ qs ≡ rs = cc in
    let size : length (flatten rs) ≡ length row + length (flatten qs) = ap (λ l. length (flatten l)) (sym list) ∙ length-append row (flatten qs) in
    (omega (arith, size, g.0, suc-mul k width), omega (arith, g.1), omega (arith, g.2))

reach-rows :
    (got : Numbers) (f : ℕ → Table) (l : ℕ) (rs : List (List ℕ)) (next i k width len : ℕ) →
    ((vs : List ℕ) (m : ℕ) → got ≡ all vs m → (length vs ≡ width) × (i + 2 * width ≤ m) × (m ≤ len)) →
    ((m : ℕ) → m ≤ len → (qs : List (List ℕ)) (n : ℕ) → f m ≡ whole qs n → (length (flatten qs) ≡ k * width) × (m + 2 * (k * width) ≤ n) × (n ≤ len))
    →
    then_rows got l f ≡ whole rs next → (length (flatten rs) ≡ suc k * width) × (i + 2 * (suc k * width) ≤ next) × (next ≤ len)
unfolding then_rows
reach-rows (cut vs) f l rs next i k width len line more e = absurd cc
reach-rows (all vs m) f l rs next i k width len line more e =
    let here = line vs m refl in
    let g = reach-above vs (f m) rs next m k width len here.0 (more m here.2) e in
    (g.0, omega (arith, here.1, g.1, suc-mul k width), g.2)

pub rows-reach :
    (text : List ℕ) (width : ℕ) → 0 < width → (k l i : ℕ) → i ≤ length text → (rs : List (List ℕ)) (next : ℕ) →
    rows_at text width k l i ≡ whole rs next → (length (flatten rs) ≡ k * width) × (i + 2 * (k * width) ≤ next) × (next ≤ length text)
unfolding rows_at flatten
rows-reach text width w zero l i h rs next e =
    let same : i ≡ next = cc in
    let list : [] ≡ rs = cc in
    let none : length (flatten rs) ≡ 0 = ap (λ q. length (flatten q)) (sym list) in
    (omega (arith, none, zero-mul width), omega (arith, zero-mul width), omega arith)
rows-reach text width w (suc k) l i h rs next e =
    reach-rows (line_at text row_key width i) (λ m. rows_at text width k (l + 1) m) l rs next i k width (length text)
    (λ vs m g. line-reach text row_key width i w vs m g)
    (λ m p qs n g. rows-reach text width w k (l + 1) m p qs n g)
    e
