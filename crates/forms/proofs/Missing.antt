-- A line that is missing: a text that stops after some lines of a sheet, before its last row, is in form as far as those lines and no further.
-- Assumes nothing.
use mathlib.Core.Path.{◌≡◌, refl, sym, ap, subst, ◌∙◌}
use mathlib.Core.Logic.{inl, inr}
use mathlib.Core.List.{List, [], ◌∷◌, ◌++◌, map, flatten, append_assoc, append-nil, map-append}
use Prim.Native.Nat.{ℕ, zero, suc, ◌+◌, ◌≤◌, ◌<◌}
use native.Mathlib.Omega.{arith}
use lib.ListN.{length, take, drop, get_or}
use lib.Seq.{take-suc, length-take-le}
use Rattle.refusals.specs.declared.Reason.TheVariants.{Form}
use Rattle.refusals.specs.Search.{Lowest}
use Rattle.refusals.specs.Checks.{Refuses}
use Rattle.lines.specs.Printed.{line, row_key, FitRows}
use Rattle.lines.specs.Lines.{line_at}
use Rattle.lines.proofs.Round.{head_read, line_read, row_lines}
use Rattle.lines.proofs.Unambiguous.{one_table}
use Rattle.forms.specs.Sheets.{Sheet, Sized, Within, lines_of, Begins, taxa_key, characters_key, ancestors_key}
use Rattle.forms.specs.Faults.{NotInForm, text_checks}
use Rattle.forms.specs.Parts.{Heads}
use Rattle.forms.proofs.Lines.{flatten_append, rows_and_last, third_and_more}
use Rattle.forms.proofs.Forms.{Third, begins_earlier}
use Rattle.forms.proofs.Agreement.{agree-first, agree_heads, agree_third}
use Rattle.forms.proofs.Faults.{fit_front, front_print, lowest-line, clear-long, clear_lines, clear_outside}
use Rattle.forms.proofs.Reading.{heads_read, third_read}

something : (b : ℕ) (l : List ℕ) → [] ≡ b ∷ l → ⊥
something b l e = let z : ◌≡◌ {A = ℕ} 0 (suc (length l)) = ap length e in omega arith

row_lines_append : (rs qs : List (List ℕ)) → row_lines (rs ++ qs) ≡ row_lines rs ++ row_lines qs
row_lines_append rs qs = ap flatten (map-append (line row_key) rs qs) ∙ flatten_append (map (line row_key) rs) (map (line row_key) qs)

-- A text that is the first k lines of s.
module _ (text : List ℕ) (s : Sheet) (Z : Sized s) (W : Within s.taxa s.characters) where
  -- where its lines end
  heads_of : (more : List ℕ) → text ≡ line taxa_key (s.taxa ∷ []) ++ (line characters_key (s.characters ∷ []) ++ more)
      → (i : ℕ) × Heads text s.taxa s.characters i × (drop i text ≡ more)
  heads_of more e =
      let (i₁, h₁, e₁) = head_read text taxa_key 0 s.taxa (line characters_key (s.characters ∷ []) ++ more) Z.taxa_fit e in
      let (i₂, h₂, e₂) = head_read text characters_key i₁ s.characters more Z.characters_fit e₁ in
      (i₂, heads_read text s.taxa i₁ s.characters i₂ h₁ h₂, e₂)

  third_of : (i : ℕ) → Heads text s.taxa s.characters i → (more : List ℕ) → drop i text ≡ line ancestors_key s.ancestors ++ more
      → (j : ℕ) × Third text s.taxa s.characters s.ancestors i j × (drop j text ≡ more)
  third_of i H more e =
      let (j, h, f) = line_read text ancestors_key i s.ancestors more (omega (arith, Z.nodes, W.least_taxa)) Z.ancestors_fit e in
      (j, third_read text s.taxa s.characters i H W s.ancestors j (ap (λ k. line_at text ancestors_key k i) (sym Z.nodes) ∙ h), f)

  -- the next line is missing
  row_missing : (t : ℕ) → t < length s.rows → (i j : ℕ) → Third text s.taxa s.characters s.ancestors i j
      → drop j text ≡ row_lines (take t s.rows) → NotInForm text (suc (suc (suc (suc t))))
  unfolding flatten
  row_missing t h i j T e (q, B) =
      let (taxa, characters, ancestors, f) = agree_third text s.taxa s.characters s.ancestors i j T q (suc t) B in
      let count : length q.rows ≡ length s.rows = B.sized.each_taxon ∙ taxa ∙ sym Z.each_taxon in
      let row = get_or q.rows t [] in
      let front : take (suc t) q.rows ≡ take t q.rows ++ (row ∷ []) = take-suc q.rows t [] (omega arith) in
      let print : row_lines (take t s.rows) ++ [] ≡ row_lines (take t q.rows) ++ (row_lines (row ∷ []) ++ B.rest) =
      append-nil (row_lines (take t s.rows)) ∙ sym e ∙ f
      ∙ ap (λ (l : List ℕ). l ++ B.rest) (front_print q (suc t) (omega arith) ∙ ap row_lines front ∙ row_lines_append (take t q.rows) (row ∷ []))
      ∙ append_assoc (row_lines (take t q.rows)) (row_lines (row ∷ [])) B.rest in
      let same : length (take t s.rows) ≡ length (take t q.rows) =
      length-take-le t s.rows (omega arith) ∙ sym (length-take-le t q.rows (omega arith)) in
      let (rows, g) =
      one_table s.characters W.least_characters (take t s.rows) (take t q.rows) [] (row_lines (row ∷ []) ++ B.rest) same
      (fit_front s.characters t s.rows Z.rows_fit)
      (fit_front s.characters t q.rows (subst (λ w. FitRows w q.rows) characters B.sized.rows_fit)) print in
      something 114 _ g

  missing : (k : ℕ) → k < 3 + length s.rows → text ≡ flatten (take k (lines_of s)) → NotInForm text (suc k)
  unfolding flatten
  missing zero h e (q, B) = something 116 _ (sym e ∙ B.text_is)
  missing (suc zero) h e (q, B) =
      let (taxa, f) = agree-first text s.taxa [] Z.taxa_fit e q 0 B in
      something 99 _ (sym f)
  missing (suc (suc zero)) h e (q, B) =
      let (i, H, f) = heads_of [] e in
      let (taxa, characters, g) = agree_heads text s.taxa s.characters i H q 1 B in
      something 97 _ (sym f ∙ g)
  missing (suc (suc (suc t))) h e (q, B) =
      let (i, H, f) = heads_of (line ancestors_key s.ancestors ++ flatten (take t (rows_and_last s))) e in
      let (j, T, g) = third_of i H (flatten (take t (rows_and_last s))) f in
      row_missing t (omega arith) i j T (g ∙ front_print s t (omega arith)) (q, B)

  begun : (k : ℕ) → text ≡ flatten (take k (lines_of s)) → Begins text s k
  begun k e = record { sized = Z; rest = []; text_is = e ∙ sym (append-nil (flatten (take k (lines_of s)))); over = λ l. refl }

  -- so the missing line is the lowest that is not in form
  lowest_missing : (m k : ℕ) → suc k ≤ m → k < 3 + length s.rows → text ≡ flatten (take k (lines_of s)) → Lowest (NotInForm text) m (suc k)
  lowest_missing m k h l e = lowest-line text m k h (λ p. (s, begun k e)) (missing k l e)

  pub refused_missing : length text ≤ 32768 → (k : ℕ) → k < 3 + length s.rows → text ≡ flatten (take k (lines_of s))
      → Refuses (text_checks text) (record { reason = Form; place = suc k })
  unfolding flatten
  refused_missing short zero l e = inr (clear-long text short, inl (refl, lowest_missing 2 0 (omega arith) l e))
  refused_missing short (suc zero) l e = inr (clear-long text short, inl (refl, lowest_missing 2 1 (omega arith) l e))
  refused_missing short (suc (suc t)) l e =
      let (i, H, f) = heads_of (flatten (take t (third_and_more s))) e in
      let two = begins_earlier text s 2 (suc (suc t)) (omega arith) (begun (suc (suc t)) e) in
      inr (
        clear-long text short,
        inr (
          clear_lines text 2 (s, two),
          inr (
            clear_outside text s.taxa s.characters i H W,
            inl (
              refl,
              lowest_missing 261 (suc (suc t))
                  (omega (arith, Z.each_taxon, W.most_taxa)) l e,
            ),
          ),
        ),
      )
