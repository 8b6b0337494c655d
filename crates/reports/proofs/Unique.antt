-- The call has one outcome: from the contract alone, one answer and one content of the slice afterwards.
-- Assumes nothing.
use mathlib.Core.Path.{◌≡◌, sym, ◌∙◌, ap, subst}
use mathlib.Core.List.{List, [], ◌∷◌, ◌++◌, flatten}
use Prim.Native.Nat.{ℕ, ◌≤◌}
use lib.ListN.{length, drop}
use Rattle.std.specs.Prelude.{Result, Ok, Err}
use Rattle.refusals.specs.declared.Refusal.{Refusal}
use Rattle.refusals.specs.Reasons.{number}
use Rattle.refusals.specs.Checks.{Refuses, slices}
use Rattle.refusals.proofs.Order.{AllSure, sure_at, sure_lowest, sure_slices, one-refusal, not_refused, clear_slice}
use Rattle.choices.specs.declared.Resolve.{Resolve}
use Rattle.checks.specs.Calls.{matrix_checks}
use Rattle.checks.proofs.Orders.{sure_matrix}
use Rattle.forms.specs.Sheets.{Sheet, choice, IsSheet}
use Rattle.forms.specs.Faults.{TooLong, NotInForm, Outside, text_checks}
use Rattle.forms.proofs.Unique.{one-sheet, sheet-passes}
use Rattle.scores.specs.declared.Scores.{Scores}
use Rattle.scores.specs.Scores.{Results}
use Rattle.characters.proofs.Unique.{one_character_outcome, all-characters-answer}
use Rattle.summaries.specs.Report.{tree_lines, refused_line}
use Rattle.reports.specs.Says.{report_text, Means, Scored, report, refusal, Says, sheet, none, out_slice, Reports}
use Rattle.turns.specs.Lines.{Found, lines_to, Ready}
use Rattle.turns.proofs.Ready.{ready, scored-one}
use Rattle.turns.proofs.Writing.{lines_alike}

same-scores : (s s' : Scores) → ◌≡◌ {A = Result Scores Refusal} (Ok s) (Ok s') → s ≡ s'
same-scores s s' e = cc

same_line : (q q' : Refusal) → q ≡ q' → refused_line (number q) q.place ≡ refused_line (number q') q'.place
same_line q q' e = ap (λ (x : Refusal). refused_line (number x) x.place) e

-- equal texts leave the same behind them
pub kept-behind : (out a b : List ℕ) → a ≡ b → a ++ drop (length a) out ≡ b ++ drop (length b) out
kept-behind out a b e = ap (λ (l : List ℕ). l ++ drop (length l) out) e

-- ---- a tree and a matrix

module _ (n c : ℕ) (r : Resolve) (tree matrix : List ℕ) where
  module _ (s s' : Scores) (found found' : ℕ → Found) (M : Means n c r tree matrix s found) (M' : Means n c r tree matrix s' found') where
    one-tree : s ≡ s'
    one-tree = same-scores s s' (all-characters-answer n c tree matrix (Ok s) (Ok s') M.scored M'.scored)

    one_found : (j : ℕ) → 1 ≤ j → j ≤ c → found j ≡ found' j
    one_found j p q =
        let R : Ready n c tree matrix = ready n c tree matrix s M.scored in
        let (e, d) =
        one_character_outcome n c j r tree matrix (found j).results (found j).results (found' j).results (Ok (found j).scores)
        (Ok (found' j).scores)
        (scored-one n c tree matrix R j p q r (found j).results (found j).results (M.each j p q).long (found j).scores M.scored.ρ
        M.scored.δ M.scored.accepted (M.each j p q))
        (scored-one n c tree matrix R j p q r (found j).results (found' j).results (M.each j p q).long (found' j).scores M'.scored.ρ
        M'.scored.δ M'.scored.accepted (M'.each j p q)) in
        made (same-scores (found j).scores (found' j).scores d) e
      where
        made : {a a' : Scores} {b b' : Results} → a ≡ a' → b ≡ b'
            → ◌≡◌ {A = Found} (record { scores = a; results = b }) (record { scores = a'; results = b' })
        made x y = cc

    one-report : report_text n c r s found ≡ report_text n c r s' found'
    one-report =
        ap (λ (x : Scores). tree_lines n c x r ++ lines_to found c) one-tree
        ∙ ap (λ (l : List ℕ). tree_lines n c s' r ++ l) (lines_alike found found' c one_found)

  pub one-scored : {a b : List ℕ} → Scored n c r tree matrix a → Scored n c r tree matrix b → a ≡ b
  one-scored (report s found M) (report s' found' M') = one-report s s' found found' M M'
  one-scored (report s found M) (refusal q h) = absurd (not_refused (matrix_checks n c tree matrix []) M.scored.passes q h)
  one-scored (refusal q h) (report s found M) = absurd (not_refused (matrix_checks n c tree matrix []) M.scored.passes q h)
  one-scored (refusal q h) (refusal q' h') =
      same_line q q' (one-refusal (matrix_checks n c tree matrix []) (sure_matrix n c tree matrix []) q q' h h')

-- ---- a text

module _ (text : List ℕ) where
  sure_text : AllSure (text_checks text)
  sure_text =
      (sure_at 12 0 (TooLong text), (sure_lowest 11 (NotInForm text) 2, (sure_at 1 0 (Outside text), (sure_lowest 11 (NotInForm text) 261, tt))))

  abbrev on : Sheet → List ℕ → Type 0
  on s a = Scored s.taxa s.characters (choice s.last) s.ancestors (flatten s.rows) a

  pub one-said : {a b : List ℕ} → Says text a → Says text b → a ≡ b
  one-said (sheet s S a W) (sheet s' S' b W') =
      one-scored s.taxa s.characters (choice s.last) s.ancestors (flatten s.rows) W
      (subst (λ (x : Sheet). on x b) (sym (one-sheet text s s' S S')) W')
  one-said (sheet s S a W) (none q h) = absurd (not_refused (text_checks text) (sheet-passes text s S) q h)
  one-said (none q h) (sheet s S a W) = absurd (not_refused (text_checks text) (sheet-passes text s S) q h)
  one-said (none q h) (none q' h') = same_line q q' (one-refusal (text_checks text) sure_text q q' h h')

  -- what is written of a sheet is what is written of its tree and matrix
  pub said_of_sheet : (s : Sheet) → IsSheet text s → {w : List ℕ} → Says text w → on s w
  said_of_sheet s S (sheet s' S' w W) = subst (λ (x : Sheet). on x w) (one-sheet text s' s S' S) W
  said_of_sheet s S (none q h) = absurd (not_refused (text_checks text) (sheet-passes text s S) q h)

  -- ---- the call

  module _ (out : List ℕ) where
    pub not_both : (q : Refusal) → length out ≡ 524288 → Refuses (slices 1 (out_slice out ∷ [])) q → ⊥
    not_both q h x = not_refused (slices 1 (out_slice out ∷ [])) (clear_slice 1 (length out) 524288 h, tt) q x

    pub one_outcome : (a a' : Result ℕ Refusal) (o o' : List ℕ) → Reports text out o a → Reports text out o' a' → (a ≡ a') × (o ≡ o')
    one_outcome (Ok k) (Ok k') o o' (h, P) (h', P') =
        let e : P.written ≡ P'.written = one-said P.says P'.says in (
          ap Ok (P.size_is ∙ ap length e ∙ sym P'.size_is),
          P.after ∙ kept-behind out P.written P'.written e ∙ sym P'.after,
        )
    one_outcome (Ok k) (Err q) o o' (h, P) (x, e) = absurd (not_both q h x)
    one_outcome (Err q) (Ok k) o o' (x, e) (h, P) = absurd (not_both q h x)
    one_outcome (Err q) (Err q') o o' (x, e) (x', e') =
        (ap Err (one-refusal (slices 1 (out_slice out ∷ [])) (sure_slices 1 (out_slice out ∷ [])) q q' x x'), e ∙ sym e')
