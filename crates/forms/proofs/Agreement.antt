-- A text begins as one sheet only: whatever sheet it begins as says what was read.
-- Assumes nothing.
use mathlib.Core.Path.{◌≡◌, sym, ap, subst, ◌∙◌}
use mathlib.Core.List.{List, [], ◌∷◌, ◌++◌, flatten}
use Prim.Native.Nat.{ℕ, suc, ◌+◌, ◌-◌, ◌*◌, ◌≤◌, ◌<◌}
use native.Mathlib.Omega.{arith}
use lib.ListN.{length, take, drop}
use Rattle.lines.specs.Printed.{line, FitRows}
use Rattle.lines.proofs.Round.{RowsBack}
use Rattle.lines.proofs.Unambiguous.{one_head, one_line, one_table}
use Rattle.forms.specs.Sheets.{Sheet, last_lines, Begins, taxa_key, characters_key, ancestors_key}
use Rattle.forms.specs.Parts.{Heads}
use Rattle.forms.proofs.Lines.{rows_and_last, third_and_more, after_heads, after_third, all-rows}
use Rattle.forms.proofs.Forms.{Third}

-- the first line
pub agree-first : (text : List ℕ) (n : ℕ) (more : List ℕ) → n ≤ 65535 → text ≡ line taxa_key (n ∷ []) ++ more →
    (s : Sheet) (k : ℕ) (B : Begins text s (suc (suc k))) →
    (s.taxa ≡ n) × (line characters_key (s.characters ∷ []) ++ (flatten (take k (third_and_more s)) ++ B.rest) ≡ more)
agree-first text n more h e s k B =
    one_head taxa_key s.taxa n _ more B.sized.taxa_fit h (sym (after_heads s k B.rest) ∙ sym B.text_is ∙ e)

-- the first two lines
pub agree_heads : (text : List ℕ) (n c i : ℕ) → Heads text n c i → (s : Sheet) (k : ℕ) (B : Begins text s (suc (suc k))) →
    (s.taxa ≡ n) × (s.characters ≡ c) × (drop i text ≡ flatten (take k (third_and_more s)) ++ B.rest)
agree_heads text n c i H s k B =
    let (taxa, e) = agree-first text n (line characters_key (c ∷ []) ++ drop i text) H.taxa_fit H.text_is s k B in
    let (characters, f) = one_head characters_key s.characters c _ (drop i text) B.sized.characters_fit H.characters_fit e in
    (taxa, characters, sym f)

module _ (text : List ℕ) (n c : ℕ) (tree : List ℕ) (i j : ℕ) (T : Third text n c tree i j) where
  -- the first three
  pub agree_third : (s : Sheet) (k : ℕ) (B : Begins text s (suc (suc (suc k)))) →
      (s.taxa ≡ n) × (s.characters ≡ c) × (s.ancestors ≡ tree) × (drop j text ≡ flatten (take k (rows_and_last s)) ++ B.rest)
  agree_third s k B =
      let (taxa, characters, e) = agree_heads text n c i T.heads s (suc k) B in
      let size : length s.ancestors ≡ length tree = B.sized.nodes ∙ ap (λ m. 2 * m - 2) taxa ∙ sym T.nodes in
      let some : 0 < length s.ancestors = omega (arith, T.nodes, T.within.least_taxa) in
      let (ancestors, f) =
      one_line ancestors_key s.ancestors tree _ (drop j text) some size B.sized.ancestors_fit T.fit
      (sym (after_third s k B.rest) ∙ sym e ∙ T.text_is) in
      (taxa, characters, ancestors, sym f)

  -- and all rows
  pub agree-rows : (rs : List (List ℕ)) (next : ℕ) → RowsBack text c n j rs next → (s : Sheet) (m : ℕ)
      (B : Begins text s (suc (suc (suc (length rs + m))))) →
      (s.taxa ≡ n) × (s.characters ≡ c) × (s.ancestors ≡ tree) × (s.rows ≡ rs) × (drop next text
      ≡ flatten (take m (last_lines s.last)) ++ B.rest)
  agree-rows rs next R s m B =
      let (taxa, characters, ancestors, e) = agree_third s (length rs + m) B in
      let size : length s.rows ≡ length rs = B.sized.each_taxon ∙ taxa ∙ sym R.count in
      let (rows, f) =
      one_table c T.within.least_characters s.rows rs _ (drop next text) size
      (subst (λ w. FitRows w s.rows) characters B.sized.rows_fit) R.fit
      (sym (all-rows s m B.rest) ∙ ap (λ k. flatten (take (k + m) (rows_and_last s)) ++ B.rest) size ∙ sym e ∙ R.text_is) in
      (taxa, characters, ancestors, rows, sym f)
