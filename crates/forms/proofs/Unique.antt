-- A text is one sheet only; a sheet passes every check; and its numbers fit the slices of the call.
-- Assumes nothing.
use mathlib.Core.Path.{◌≡◌, refl, sym, ap, subst, ◌∙◌}
use mathlib.Core.List.{List, [], ◌++◌, map, flatten, append-nil}
use Prim.Native.Nat.{ℕ, ◌+◌, ◌-◌, ◌*◌, ◌≤◌}
use native.Mathlib.Omega.{arith}
use lib.ListN.{length, get_or}
use Rattle.choices.specs.declared.Resolve.{Resolve}
use Rattle.choices.specs.declared.Resolve.TheVariants.{Acctran, Deltran}
use Rattle.refusals.specs.Checks.{Passes}
use Rattle.refusals.proofs.Order.{clear_at}
use Rattle.lines.specs.Printed.{line, row_key, FitRows}
use Rattle.lines.specs.Lines.{line_at, rows_at}
use Rattle.lines.proofs.Round.{head_read, line_read, rows_read}
use Rattle.lines.proofs.Unambiguous.{one_head, one_line, one_table}
use Rattle.forms.specs.Sheets.{Sheet, Last, unsaid, said, Within, lines_of, last_lines, resolve_line, IsSheet, Begins}
use Rattle.forms.specs.Sheets.{taxa_key, characters_key, ancestors_key}
use Rattle.forms.specs.Faults.{Outside, text_checks}
use Rattle.forms.proofs.Lines.{flatten_append, after_heads, count_lines}
use Rattle.forms.proofs.Forms.{begins_earlier, sheet_begins}
use Rattle.forms.proofs.Faults.{one_last, resolve_length, clear-long, clear_lines}
use Rattle.forms.proofs.Reading.{heads_read, rows-room}

-- ---- one sheet

choices_apart : resolve_line Acctran ++ [] ≡ resolve_line Deltran ++ [] → ⊥
choices_apart e =
    let z : get_or (resolve_line Acctran ++ []) 8 0 ≡ get_or (resolve_line Deltran ++ []) 8 0 = ap (λ (l : List ℕ). get_or l 8 0) e in omega arith

one_choice : (r q : Resolve) → resolve_line r ++ [] ≡ resolve_line q ++ [] → r ≡ q
one_choice Acctran Acctran e = refl
one_choice Acctran Deltran e = absurd (choices_apart e)
one_choice Deltran Acctran e = absurd (choices_apart (sym e))
one_choice Deltran Deltran e = refl

line-some : (r : Resolve) → resolve_line r ++ [] ≡ [] → ⊥
line-some r e = omega (arith, resolve_length r, ap length (append-nil (resolve_line r)), ap length e)

one_end : (l m : Last) → flatten (last_lines l) ≡ flatten (last_lines m) → l ≡ m
unfolding flatten
one_end unsaid unsaid e = refl
one_end unsaid (said r) e = absurd (line-some r (sym e))
one_end (said r) unsaid e = absurd (line-some r e)
one_end (said r) (said q) e = ap said (one_choice r q e)

same-sheet : (s t : Sheet) → s.taxa ≡ t.taxa → s.characters ≡ t.characters → s.ancestors ≡ t.ancestors → s.rows ≡ t.rows → s.last ≡ t.last
    → s ≡ t
same-sheet s t a b c d e = λ i. record { taxa = a i; characters = b i; ancestors = c i; rows = d i; last = e i }

pub one-sheet : (text : List ℕ) (s t : Sheet) → IsSheet text s → IsSheet text t → s ≡ t
unfolding flatten
one-sheet text s t S T =
    let (taxa, e₁) = one_head taxa_key s.taxa t.taxa _ _ S.sized.taxa_fit T.sized.taxa_fit (sym S.text_is ∙ T.text_is) in
    let (characters, e₂) = one_head characters_key s.characters t.characters _ _ S.sized.characters_fit T.sized.characters_fit e₁ in
    let (ancestors, e₃) =
    one_line ancestors_key s.ancestors t.ancestors _ _ (omega (arith, S.sized.nodes, S.within.least_taxa))
    (S.sized.nodes ∙ ap (λ n. 2 * n - 2) taxa ∙ sym T.sized.nodes) S.sized.ancestors_fit T.sized.ancestors_fit e₂ in
    let (rows, e₄) =
    one_table s.characters S.within.least_characters s.rows t.rows (flatten (last_lines s.last)) (flatten (last_lines t.last))
    (S.sized.each_taxon ∙ taxa ∙ sym T.sized.each_taxon) S.sized.rows_fit
    (subst (λ c. FitRows c t.rows) (sym characters) T.sized.rows_fit)
    (sym (flatten_append (map (line row_key) s.rows) (last_lines s.last)) ∙ e₃
    ∙ flatten_append (map (line row_key) t.rows) (last_lines t.last)) in
    same-sheet s t taxa characters ancestors rows (one_end s.last t.last e₄)

-- ---- a sheet is not refused

-- whatever sheet a text begins as, its n and c are the same
one_size : (text : List ℕ) (s t : Sheet) → Begins text s 2 → Begins text t 2 → (s.taxa ≡ t.taxa) × (s.characters ≡ t.characters)
one_size text s t A B =
    let (taxa, e) =
    one_head taxa_key s.taxa t.taxa _ _ A.sized.taxa_fit B.sized.taxa_fit
    (sym (after_heads s 0 A.rest) ∙ sym A.text_is ∙ B.text_is ∙ after_heads t 0 B.rest) in
    (taxa, (one_head characters_key s.characters t.characters _ _ A.sized.characters_fit B.sized.characters_fit e).0)

pub few_lines : (text : List ℕ) (s : Sheet) → IsSheet text s → length (lines_of s) ≤ 261
few_lines text s S = omega (arith, count_lines s, S.sized.each_taxon, S.within.most_taxa, one_last s.last)

pub sheet-passes : (text : List ℕ) (s : Sheet) → IsSheet text s → Passes (text_checks text)
sheet-passes text s S =
    let all : Begins text s 261 = sheet_begins text s 261 S (few_lines text s S) in
    let two : Begins text s 2 = begins_earlier text s 2 261 (omega arith) all in (
      clear-long text S.short,
      (
        clear_lines text 2 (s, two),
        (
          clear_at 1 0 (Outside text)
              (λ (t, B, out). let (taxa, characters) = one_size text s t two B in
              out (subst (λ n. Within n t.characters) taxa (subst (Within s.taxa) characters S.within))),
          (clear_lines text 261 (s, all), tt),
        ),
      ),
    )

-- ---- its numbers fit

pub sheet-room : (text : List ℕ) (s : Sheet) → IsSheet text s → (length s.ancestors ≤ 510)
    × (length s.ancestors + length (flatten s.rows) ≤ 16384)
unfolding flatten
sheet-room text s S =
    let W = S.within in
    let (i₁, h₁, e₁) = head_read text taxa_key 0 s.taxa _ S.sized.taxa_fit S.text_is in
    let (i₂, h₂, e₂) = head_read text characters_key i₁ s.characters _ S.sized.characters_fit e₁ in
    let H = heads_read text s.taxa i₁ s.characters i₂ h₁ h₂ in
    let (i₃, h₃, e₃) = line_read text ancestors_key i₂ s.ancestors _ (omega (arith, S.sized.nodes, W.least_taxa)) S.sized.ancestors_fit e₂ in
    let (i₄, h₄, e₄) =
    rows_read text s.characters W.least_characters s.rows 4 i₃ (flatten (last_lines s.last)) S.sized.rows_fit
    (e₃ ∙ flatten_append (map (line row_key) s.rows) (last_lines s.last)) in (
      omega (arith, S.sized.nodes, W.most_taxa),
      rows-room text s.taxa s.characters i₂ H W s.ancestors i₃ (ap (λ k. line_at text ancestors_key k i₂) (sym S.sized.nodes) ∙ h₃)
          s.rows i₄ (ap (λ k. rows_at text s.characters k 4 i₃) (sym S.sized.each_taxon) ∙ h₄) S.short,
    )
