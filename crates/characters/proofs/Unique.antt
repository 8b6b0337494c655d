-- Each call has one outcome: from the contract alone, any two answers are equal, and so is what the lent slices hold afterwards.
-- Assumes nothing.
use mathlib.Core.Path.{◌≡◌, sym, ◌∙◌, ap, subst}
use mathlib.Core.List.{List, []}
use Prim.Native.Nat.{ℕ, ◌-◌, ◌*◌}
use lib.ListN.{length}
use Rattle.std.specs.Prelude.{Result, Ok, Err}
use Rattle.parsimony.specs.Matrix.{state_of}
use Rattle.refusals.specs.declared.Refusal.{Refusal}
use Rattle.refusals.proofs.Order.{one-refusal, not_refused}
use Rattle.trees.proofs.Unique.{one-shape}
use Rattle.choices.specs.declared.Resolve.{Resolve}
use Rattle.limits.proofs.Lending.{exact-clear}
use Rattle.checks.specs.Calls.{character_checks, matrix_checks}
use Rattle.checks.proofs.Orders.{sure_character, sure_matrix}
use Rattle.scores.specs.declared.Scores.{Scores}
use Rattle.scores.specs.Scores.{TreeScores, Results, CharacterMeans}
use Rattle.scores.proofs.Unique.{one-scores, one-results, one-tree-scores}
use Rattle.characters.specs.Afresh.{result_slices, OneScored, OneAnswers, AllScored, AllAnswers}

-- ---- one character

-- One character afresh: any two outcomes are equal, the answer and all six slices.
module _ (n c j : ℕ) (resolve : Resolve) (tree matrix : List ℕ) (before : Results) where
  both-scored : (after after' : Results) (s s' : Scores) → OneScored n c j resolve tree matrix before after s
      → OneScored n c j resolve tree matrix before after' s' → (after ≡ after') × (s ≡ s')
  both-scored after after' s s' O O' =
      let (p, q) = one-shape n tree O.ρ O.δ O.accepted O'.ρ O'.δ O'.accepted in
      let M' : CharacterMeans n (state_of matrix c j) tree O.ρ resolve after' s' =
      subst (λ x. CharacterMeans n (state_of matrix c j) tree x resolve after' s') (sym p) O'.means in
      let nodes : length tree ≡ 2 * n - 2 = exact-clear 1 (length tree) (2 * n - 2) O.passes.1.0 in (
        one-results n (state_of matrix c j) tree O.ρ O.δ O.accepted nodes resolve after after' s s' O.means M',
        one-scores n (state_of matrix c j) tree O.ρ O.δ O.accepted nodes s s' O.means.scores M'.scores,
      )

  pub one_character_outcome : (after after' : Results) (r r' : Result Scores Refusal) → OneAnswers n c j resolve tree matrix before after r
      → OneAnswers n c j resolve tree matrix before after' r' → (after ≡ after') × (r ≡ r')
  one_character_outcome after after' (Ok s) (Ok s') h h' =
      let (p, q) = both-scored after after' s s' h h' in
      (p, ap Ok q)
  one_character_outcome after after' (Ok s) (Err q) h h' =
      absurd (not_refused (character_checks n c j tree matrix (result_slices n before)) h.passes q h'.0)
  one_character_outcome after after' (Err q) (Ok s) h h' =
      absurd (not_refused (character_checks n c j tree matrix (result_slices n before)) h'.passes q h.0)
  one_character_outcome after after' (Err q) (Err q') h h' = (
    h.1 ∙ sym h'.1,
    ap Err
        (one-refusal (character_checks n c j tree matrix (result_slices n before)) (sure_character n c tree matrix (result_slices n before) j) q q'
        h.0 h'.0),
  )

-- ---- all characters

-- All characters afresh: any two answers are equal.
module _ (n c : ℕ) (tree matrix : List ℕ) where
  both_totals : (s s' : Scores) → AllScored n c tree matrix s → AllScored n c tree matrix s' → s ≡ s'
  both_totals s s' O O' =
      let (p, q) = one-shape n tree O.ρ O.δ O.accepted O'.ρ O'.δ O'.accepted in
      one-tree-scores n c matrix tree O.ρ s s' O.means (subst (λ x. TreeScores n c matrix tree x s') (sym p) O'.means)

  pub all-characters-answer : (r r' : Result Scores Refusal) → AllAnswers n c tree matrix r → AllAnswers n c tree matrix r' → r ≡ r'
  all-characters-answer (Ok s) (Ok s') h h' = ap Ok (both_totals s s' h h')
  all-characters-answer (Ok s) (Err q) h h' = absurd (not_refused (matrix_checks n c tree matrix []) h.passes q h')
  all-characters-answer (Err q) (Ok s) h h' = absurd (not_refused (matrix_checks n c tree matrix []) h'.passes q h)
  all-characters-answer (Err q) (Err q') h h' =
      ap Err (one-refusal (matrix_checks n c tree matrix []) (sure_matrix n c tree matrix []) q q' h h')
