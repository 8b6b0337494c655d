-- A line that is not read is not in form, and the lines before it are: so it is the lowest, and document 01's refusal.
-- Assumes nothing.
use mathlib.Core.Path.{◌≡◌, refl, sym, ap, subst, ◌∙◌}
use mathlib.Core.Logic.{◌⊎◌, inl, inr}
use mathlib.Core.List.{List, [], ◌∷◌, ◌++◌, map, flatten, append-nil}
use Prim.Native.Nat.{ℕ, zero, suc, ◌+◌, ◌-◌, ◌*◌, ◌≤◌, ◌<◌}
use native.Mathlib.Omega.{arith}
use lib.ListN.{length, take, drop, length-append, take-append-drop}
use lib.Seq.{length-take-le}
use Rattle.choices.specs.declared.Resolve.{Resolve}
use Rattle.choices.specs.declared.Resolve.TheVariants.{Acctran, Deltran}
use Rattle.refusals.specs.declared.Reason.TheVariants.{Limits, Form, Long}
use Rattle.refusals.specs.Search.{Lowest}
use Rattle.refusals.specs.Checks.{at, lowest, Clear, Refuses}
use Rattle.refusals.proofs.Order.{clear_at, clear-lowest}
use Rattle.std.specs.Prelude.{None}
use Rattle.numbers.specs.Numbers.{parsed}
use Rattle.lines.specs.Printed.{line, row_key, FitRows}
use Rattle.lines.specs.Lines.{head_at, line_at, all, cut, rows_at, whole, wrong}
use Rattle.lines.proofs.Round.{head_read, line_read, rows_read, row_lines, RowsBack, RowsCut}
use Rattle.forms.specs.Sheets.{Sheet, Last, unsaid, said, Within, lines_of, last_lines, resolve_line, InForm}
use Rattle.forms.specs.Sheets.{taxa_key, characters_key, ancestors_key}
use Rattle.forms.specs.Faults.{TooLong, NotInForm, Outside, text_checks}
use Rattle.forms.specs.Parts.{Heads, NoResolve, Followed}
use Rattle.forms.proofs.Lines.{rows_and_last, after_third, first_rows, count_lines}
use Rattle.forms.proofs.Forms.{earlier, first_in_form, heads_in_form, Third, rows_in_form, resolve_in_form}
use Rattle.forms.proofs.Agreement.{agree-first, agree_heads, agree_third, agree-rows}

module _ (text : List ℕ) where
  -- ---- the lowest line

  -- line k + 1 is not in form, and those before it are
  pub lowest-line : (m k : ℕ) → suc k ≤ m → (0 < k → InForm text k) → NotInForm text (suc k) → Lowest (NotInForm text) m (suc k)
  lowest-line m k h f n =
      record {
        some = omega arith;
        most = h;
        holds = n;
        first = λ j p q r. r (earlier text j k (omega arith) (f (omega arith)));
      }

  -- ---- checks that are passed

  pub clear-long : length text ≤ 32768 → Clear (at 12 0 (TooLong text))
  clear-long h = clear_at 12 0 (TooLong text) (λ l. omega arith)

  pub clear_lines : (m : ℕ) → InForm text m → Clear (lowest 11 (NotInForm text) m)
  clear_lines m f = clear-lowest 11 (NotInForm text) m (λ k p q n. n (earlier text k m q f))

  pub clear_outside : (n c i : ℕ) → Heads text n c i → Within n c → Clear (at 1 0 (Outside text))
  clear_outside n c i H W =
      clear_at 1 0 (Outside text) λ (s, B, out).
      let (taxa, characters, e) = agree_heads text n c i H s 0 B in
      out (subst (λ m. Within m s.characters) (sym taxa) (subst (Within n) (sym characters) W))

  -- ---- the first two lines

  first_not : head_at text taxa_key 0 ≡ None → NotInForm text 1
  unfolding flatten
  first_not bad (s, B) =
      let e : text ≡ line taxa_key (s.taxa ∷ []) ++ B.rest =
      B.text_is ∙ ap (λ (t : List ℕ). t ++ B.rest) (append-nil (line taxa_key (s.taxa ∷ []))) in
      let (j, got, rest) = head_read text taxa_key 0 s.taxa B.rest B.sized.taxa_fit e in
      let f : None ≡ parsed s.taxa j = sym bad ∙ got in
      cc

  second_not : (n a : ℕ) → n ≤ 65535 → text ≡ line taxa_key (n ∷ []) ++ drop a text → head_at text characters_key a ≡ None → NotInForm text 2
  second_not n a h e bad (s, B) =
      let (taxa, f) = agree-first text n (drop a text) h e s 0 B in
      let (j, got, rest) = head_read text characters_key a s.characters _ B.sized.characters_fit (sym f) in
      let g : None ≡ parsed s.characters j = sym bad ∙ got in
      cc

  -- ---- the third

  third_not : (n c i : ℕ) (vs : List ℕ) → Heads text n c i → Within n c → line_at text ancestors_key (2 * n - 2) i ≡ cut vs → NotInForm text 3
  third_not n c i vs H W bad (s, B) =
      let (taxa, characters, e) = agree_heads text n c i H s 1 B in
      let size : length s.ancestors ≡ 2 * n - 2 = B.sized.nodes ∙ ap (λ m. 2 * m - 2) taxa in
      let some : 0 < length s.ancestors = omega (arith, W.least_taxa) in
      let (j, got, rest) = line_read text ancestors_key i s.ancestors _ some B.sized.ancestors_fit (e ∙ after_third s 0 B.rest) in
      let f : cut vs ≡ all s.ancestors j = sym bad ∙ ap (λ k. line_at text ancestors_key k i) (sym size) ∙ got in
      cc

  -- ---- the refusals of the first three lines

  pub refused-long : 32768 < length text → Refuses (text_checks text) (record { reason = Long; place = 0 })
  refused-long h = inl (refl, (refl, h))

  module _ (short : length text ≤ 32768) where
    pub refused-first : head_at text taxa_key 0 ≡ None → Refuses (text_checks text) (record { reason = Form; place = 1 })
    refused-first bad = inr (clear-long short, inl (refl, lowest-line 2 0 (omega arith) (λ p. absurd (omega arith)) (first_not bad)))

    pub refused-second : (n a : ℕ) → n ≤ 65535 → text ≡ line taxa_key (n ∷ []) ++ drop a text → head_at text characters_key a ≡ None
        → Refuses (text_checks text) (record { reason = Form; place = 2 })
    refused-second n a h e bad =
        inr (clear-long short, inl (refl, lowest-line 2 1 (omega arith) (λ p. first_in_form text n (drop a text) h e) (second_not n a h e bad)))

    module _ (n c i : ℕ) (H : Heads text n c i) where
      pub refused_outside : (Within n c → ⊥) → Refuses (text_checks text) (record { reason = Limits; place = 0 })
      refused_outside out =
          let (s, B) = heads_in_form text n c i H in
          let (taxa, characters, e) = agree_heads text n c i H s 0 B in
          inr (
            clear-long short,
            inr (
              clear_lines 2 (heads_in_form text n c i H),
              inl (
                refl,
                (
                  refl,
                  (s, B, λ W. out (subst (λ m. Within m c) taxa (subst (Within s.taxa) characters W))),
                ),
              ),
            ),
          )

      -- a line from the third on
      refused-line : (k : ℕ) → Within n c → Lowest (NotInForm text) 261 k → Refuses (text_checks text) (record { reason = Form; place = k })
      refused-line k W L =
          inr (clear-long short, inr (clear_lines 2 (heads_in_form text n c i H), inr (clear_outside n c i H W, inl (refl, L))))

      pub refused_third : (vs : List ℕ) → Within n c → line_at text ancestors_key (2 * n - 2) i ≡ cut vs
          → Refuses (text_checks text) (record { reason = Form; place = 3 })
      refused_third vs W bad = refused-line 3 W (lowest-line 261 2 (omega arith) (λ p. heads_in_form text n c i H) (third_not n c i vs H W bad))

-- ---- the rows

pub fit_front : (c k : ℕ) (rs : List (List ℕ)) → FitRows c rs → FitRows c (take k rs)
unfolding FitRows
fit_front c zero rs h = tt
fit_front c (suc k) [] h = tt
fit_front c (suc k) (r ∷ rs) (size, fit, h) = (size, fit, fit_front c k rs h)

-- the first t rows of a sheet in print
pub front_print : (s : Sheet) (t : ℕ) → t ≤ length s.rows → flatten (take t (rows_and_last s)) ≡ row_lines (take t s.rows)
front_print s t h =
    ap (λ (rs : List (List ℕ)). flatten (take t (rows_of rs))) (sym (take-append-drop t s.rows))
    ∙ first_rows (take t s.rows) (drop t s.rows) (last_lines s.last) t (length-take-le t s.rows h)
  where
    rows_of : List (List ℕ) → List (List ℕ)
    rows_of rs = map (line row_key) rs ++ last_lines s.last

-- ---- the resolve line

pub one_last : (last : Last) → length (last_lines last) ≤ 1
one_last unsaid = omega arith
one_last (said r) = omega arith

pub resolve_length : (r : Resolve) → length (resolve_line r) ≡ 16
resolve_length Acctran = refl
resolve_length Deltran = refl

no_length : (l : List ℕ) → length l ≤ 0 → l ≡ []
no_length [] h = refl
no_length (v ∷ l) h = absurd (omega arith)

-- a resolve line and something else, where a sheet has its last line: then the something is nothing
nothing_more : (last : Last) (r : Resolve) (more : List ℕ) → resolve_line r ++ more ≡ flatten (take 2 (last_lines last)) ++ [] → more ≡ []
unfolding flatten
nothing_more unsaid r more e = no_length more (omega (arith, resolve_length r, length-append (resolve_line r) more, ap length e))
nothing_more (said q) r more e =
    let all : length ((resolve_line q ++ []) ++ []) ≡ 16 =
    ap length (append-nil (resolve_line q ++ []) ∙ append-nil (resolve_line q)) ∙ resolve_length q in
    no_length more (omega (arith, resolve_length r, length-append (resolve_line r) more, ap length e))

module _ (text : List ℕ) (short : length text ≤ 32768) (n c : ℕ) (tree : List ℕ) (i j : ℕ) (T : Third text n c tree i j) where
  row_not : (m : ℕ) (C : RowsCut text c n 4 j m) → NotInForm text (suc (suc (suc (suc C.t))))
  row_not m C (s, B) =
      let t = C.t in
      let (taxa, characters, ancestors, e) = agree_third text n c tree i j T s (suc t) B in
      let enough : suc t ≤ length s.rows = omega (arith, B.sized.each_taxon, C.within) in
      let (k, got, rest) =
      rows_read text c T.within.least_characters (take (suc t) s.rows) 4 j B.rest
      (fit_front c (suc t) s.rows (subst (λ w. FitRows w s.rows) characters B.sized.rows_fit))
      (e ∙ ap (λ (l : List ℕ). l ++ B.rest) (front_print s (suc t) enough)) in
      let f : wrong m C.numbers ≡ whole (take (suc t) s.rows) k =
      sym C.stops ∙ ap (λ q. rows_at text c q 4 j) (sym (length-take-le (suc t) s.rows enough)) ∙ got in
      cc

  pub refused_row : (m : ℕ) → RowsCut text c n 4 j m → Refuses (text_checks text) (record { reason = Form; place = m })
  refused_row m C =
      let place : suc (suc (suc (suc C.t))) ≡ m = omega (arith, C.line_is) in
      let most : suc (suc (suc (suc C.t))) ≤ 261 = omega (arith, C.within, T.within.most_taxa) in
      refused-line text short n c i T.heads m T.within
      (subst (Lowest (NotInForm text) 261) place
      (lowest-line text 261 (suc (suc (suc C.t))) most
      (λ p. rows_in_form text n c tree i j T C.t C.rows C.next C.back (omega (arith, C.within))) (row_not m C)))

  -- ---- what stands after the rows

  module _ (rs : List (List ℕ)) (next : ℕ) (R : RowsBack text c n j rs next) where
    -- with no resolve line nothing stands there, and with one that line
    no_resolve : NoResolve (drop next text) → NotInForm text (suc (suc (suc (length rs + 1))))
    unfolding flatten
    no_resolve N (s, B) =
        let (taxa, characters, ancestors, rows, e) = agree-rows text n c tree i j T rs next R s 1 B in
        go s.last refl e rows
      where
        go : (last : Last) → s.last ≡ last → drop next text ≡ flatten (take 1 (last_lines last)) ++ B.rest → s.rows ≡ rs → ⊥
        go unsaid l e rows =
            let few : length (lines_of s) < suc (suc (suc (length rs + 1))) =
            omega (arith, count_lines s, ap length rows, ap (λ (x : Last). length (last_lines x)) l) in
            N.some (e ∙ B.over few)
        go (said r) l e rows = N.other r B.rest (e ∙ ap (λ (l : List ℕ). l ++ B.rest) (append-nil (resolve_line r)))

    -- after the resolve line nothing stands
    followed : Followed (drop next text) → NotInForm text (suc (suc (suc (length rs + 2))))
    unfolding flatten
    followed F (s, B) =
        let (taxa, characters, ancestors, rows, e) = agree-rows text n c tree i j T rs next R s 2 B in
        let few : length (lines_of s) < suc (suc (suc (length rs + 2))) = omega (arith, count_lines s, ap length rows, one_last s.last) in
        F.some (nothing_more s.last F.choice_said F.more (sym F.rest_is ∙ e ∙ ap
        (λ (l : List ℕ). flatten (take 2 (last_lines s.last)) ++ l) (B.over few)))

    pub refused_end : (l : ℕ) → ((l ≡ 4 + n) × NoResolve (drop next text)) ⊎ ((l ≡ 4 + n + 1) × Followed (drop next text))
        → Refuses (text_checks text) (record { reason = Form; place = l })
    refused_end l (inl (e, N)) =
        let place : suc (suc (suc (length rs + 1))) ≡ l = omega (arith, R.count) in
        let most : suc (suc (suc (length rs + 1))) ≤ 261 = omega (arith, R.count, T.within.most_taxa) in
        let before : suc (suc (suc n)) ≡ suc (suc (length rs + 1)) = omega (arith, R.count) in
        refused-line text short n c i T.heads l T.within
        (subst (Lowest (NotInForm text) 261) place
        (lowest-line text 261 (suc (suc (length rs + 1))) most
        (λ p. subst (InForm text) before (rows_in_form text n c tree i j T n rs next R (omega arith))) (no_resolve N)))
    refused_end l (inr (e, F)) =
        let place : suc (suc (suc (length rs + 2))) ≡ l = omega (arith, R.count) in
        let most : suc (suc (suc (length rs + 2))) ≤ 261 = omega (arith, R.count, T.within.most_taxa) in
        let before : suc (suc (suc (length rs + 1))) ≡ suc (suc (length rs + 2)) = omega arith in
        refused-line text short n c i T.heads l T.within
        (subst (Lowest (NotInForm text) 261) place
        (lowest-line text 261 (suc (suc (length rs + 2))) most
        (λ p. subst (InForm text) before (resolve_in_form text n c tree i j T rs next R F.choice_said F.more F.rest_is)) (followed F)))
