-- Each C function has one outcome: from the contract alone, any two answers are equal, and so is what the lent slices hold afterwards.
-- Assumes nothing.
use mathlib.Core.Path.{◌≡◌, sym, ◌∙◌, ap}
use mathlib.Core.List.{List, [], ◌∷◌, ◌++◌}
use Prim.Native.Nat.{ℕ}
use lib.ListN.{length}
use Rattle.std.specs.Prelude.{Result, Ok, Err}
use Rattle.refusals.specs.declared.Refusal.{Refusal}
use Rattle.refusals.proofs.Order.{one-refusal, not_refused}
use Rattle.choices.specs.declared.Resolve.{Resolve}
use Rattle.checks.specs.Calls.{character_checks, matrix_checks}
use Rattle.checks.proofs.Orders.{sure_character, sure_matrix}
use Rattle.scores.specs.declared.Scores.{Scores}
use Rattle.scores.specs.Scores.{Results}
use Rattle.characters.specs.Afresh.{result_slices}
use Rattle.characters.proofs.Unique.{one_character_outcome, all-characters-answer}
use Rattle.answers.specs.Coded.{value, results, Gives, resolve_of}
use Rattle.outcomes.specs.Outcomes.{seven_slice, TreeAnswers, TreeOutcome, CharacterAnswers, CharacterOutcome}
use Rattle.outcomes.proofs.Lasts.{tree-passes, character-passes}

-- what a caller is given is known by the answer
same-given : (a a' : Result Scores Refusal) (before after after' : List ℕ) (r r' : ℕ) → a ≡ a' → Gives a before after r → Gives a' before after' r'
    → (after ≡ after') × (r ≡ r')
same-given a a' before after after' r r' e G G' =
    (G.results ∙ ap (λ x. results x before) e ∙ sym G'.results, G.value ∙ ap value e ∙ sym G'.value)

-- ---- all characters

module _ (n c : ℕ) (tree matrix result : List ℕ) where
  one-tree-answer : (a a' : Result Scores Refusal) → TreeAnswers n c tree matrix result a → TreeAnswers n c tree matrix result a' → a ≡ a'
  one-tree-answer (Ok s) (Ok s') (e, h) (e', h') =
      all-characters-answer n c tree matrix (Ok s) (Ok s') h h'
  one-tree-answer (Ok s) (Err q) (e, h) h' =
      absurd
      (not_refused (matrix_checks n c tree matrix (seven_slice (length result) ∷ [])) (tree-passes n c tree matrix result e h.passes) q h')
  one-tree-answer (Err q) (Ok s) h (e, h') =
      absurd
      (not_refused (matrix_checks n c tree matrix (seven_slice (length result) ∷ [])) (tree-passes n c tree matrix result e h'.passes) q h)
  one-tree-answer (Err q) (Err q') h h' =
      ap Err
      (one-refusal (matrix_checks n c tree matrix (seven_slice (length result) ∷ []))
      (sure_matrix n c tree matrix (seven_slice (length result) ∷ [])) q q' h h')

  -- `badrumello_tree`: any two outcomes are equal, the number and the result slice.
  pub one_tree_outcome : (after after' : List ℕ) (r r' : ℕ) → TreeOutcome n c tree matrix result after r
      → TreeOutcome n c tree matrix result after' r' → (after ≡ after') × (r ≡ r')
  one_tree_outcome after after' r r' O O' =
      same-given O.answer O'.answer result after after' r r' (one-tree-answer O.answer O'.answer O.answers O'.answers)
      O.gives O'.gives

-- ---- one character

module _ (n c j : ℕ) (resolve : Resolve) (tree matrix : List ℕ) (before : Results) (result : List ℕ) where
  one_answer : (after after' : Results) (a a' : Result Scores Refusal) → CharacterAnswers n c j resolve tree matrix before after result a
      → CharacterAnswers n c j resolve tree matrix before after' result a' → (after ≡ after') × (a ≡ a')
  one_answer after after' (Ok s) (Ok s') (e, h) (e', h') =
      one_character_outcome n c j resolve tree matrix before after after' (Ok s) (Ok s') h h'
  one_answer after after' (Ok s) (Err q) (e, h) (h', _) =
      absurd
      (not_refused (character_checks n c j tree matrix (result_slices n before ++ (seven_slice (length result) ∷ [])))
      (character-passes n c tree matrix result e j resolve before h.passes) q h')
  one_answer after after' (Err q) (Ok s) (h, _) (e, h') =
      absurd
      (not_refused (character_checks n c j tree matrix (result_slices n before ++ (seven_slice (length result) ∷ [])))
      (character-passes n c tree matrix result e j resolve before h'.passes) q h)
  one_answer after after' (Err q) (Err q') (h, e) (h', e') = (
    e ∙ sym e',
    ap Err
        (one-refusal (character_checks n c j tree matrix (result_slices n before ++ (seven_slice (length result) ∷ [])))
        (sure_character n c tree matrix (result_slices n before ++ (seven_slice (length result) ∷ [])) j) q q' h h'),
  )

-- `badrumello_character`: any two outcomes are equal, the six slices, the result slice and the number.
pub one_character_result : (n c j resolve : ℕ) (tree matrix : List ℕ) (before after after' : Results) (result result' result'' : List ℕ) (r r' : ℕ)
    → CharacterOutcome n c j resolve tree matrix before after result result' r
    → CharacterOutcome n c j resolve tree matrix before after' result result'' r' → (after ≡ after') × (result' ≡ result'') × (r ≡ r')
one_character_result n c j resolve tree matrix before after after' result result' result'' r r' O O' =
    let (p, q) =
    one_answer n c j (resolve_of resolve) tree matrix before result after after' O.answer O'.answer O.answers O'.answers in
    let (x, y) = same-given O.answer O'.answer result result' result'' r r' q O.gives O'.gives in
    (p, x, y)
