-- What a caller may conclude from the number: below 2^32 it is the answer, and otherwise value / 2^32 and value mod 2^32 are the number and the
-- place of the refusal.
-- Assumes nothing.
use mathlib.Core.Path.{◌≡◌, subst}
use mathlib.Core.List.{List, [], ◌∷◌, ◌++◌}
use Prim.Native.Nat.{ℕ, ◌≤◌, ◌<◌}
use lib.ListN.{length}
use Rattle.std.specs.Prelude.{Result, Ok, Err}
use Rattle.refusals.specs.declared.Refusal.{Refusal}
use Rattle.refusals.specs.Checks.{Refuses, Slice}
use Rattle.checks.specs.Calls.{character_checks, matrix_checks}
use Rattle.scores.specs.declared.Scores.{Scores}
use Rattle.scores.specs.Scores.{Results}
use Rattle.characters.specs.Afresh.{result_slices, OneScored, AllScored}
use Rattle.answers.specs.Coded.{limit, seven, Gives, resolve_of}
use Rattle.answers.proofs.Reading.{Said, below, above}
use Rattle.outcomes.specs.Outcomes.{seven_slice, TreeAnswers, TreeOutcome, CharacterAnswers, CharacterOutcome}

-- ---- all characters

module _ (n c : ℕ) (tree matrix result after : List ℕ) (r : ℕ) (O : TreeOutcome n c tree matrix result after r) where
  -- `badrumello_tree` answers a number below 2^32: it is the length, and the result slice has the scores
  pub tree_answered : r < limit → (s : Scores) × AllScored n c tree matrix s × (r ≡ s.length) × (after ≡ seven s)
  tree_answered l =
      let (s, e) = below result after r O.answer O.gives l in
      let G : Gives (Ok s) result after r = subst (λ a. Gives a result after r) e O.gives in
      let A : TreeAnswers n c tree matrix result (Ok s) = subst (TreeAnswers n c tree matrix result) e O.answers in
      (s, A.1, G.value, G.results)

  -- and any other is a refusal, with nothing changed
  pub tree-refused : limit ≤ r
      → (q : Refusal) × Said r q × Refuses (matrix_checks n c tree matrix (seven_slice (length result) ∷ [])) q × (after ≡ result)
  tree-refused l =
      let (q, S, e) = above result after r O.answer O.gives l in
      let G : Gives (Err q) result after r = subst (λ a. Gives a result after r) e O.gives in
      (q, S, subst (TreeAnswers n c tree matrix result) e O.answers, G.results)

-- ---- one character

module _ (n c j resolve : ℕ) (tree matrix : List ℕ) (before after : Results) (result result' : List ℕ) (r : ℕ)
    (O : CharacterOutcome n c j resolve tree matrix before after result result' r) where
  abbrev Answered : Result Scores Refusal → Type 0
  Answered a = CharacterAnswers n c j (resolve_of resolve) tree matrix before after result a

  abbrev rest : List Slice
  rest = result_slices n before ++ (seven_slice (length result) ∷ [])

  -- `badrumello_character` answers a number below 2^32: it is the length, and the slices have what was found
  pub character_answered : r < limit
      → (s : Scores) × OneScored n c j (resolve_of resolve) tree matrix before after s × (r ≡ s.length) × (result' ≡ seven s)
  character_answered l =
      let (s, e) = below result result' r O.answer O.gives l in
      let G : Gives (Ok s) result result' r = subst (λ a. Gives a result result' r) e O.gives in
      let A : Answered (Ok s) = subst Answered e O.answers in
      (s, A.1, G.value, G.results)

  -- and any other is a refusal, with nothing changed
  pub character-refused : limit ≤ r
      → (q : Refusal) × Said r q × Refuses (character_checks n c j tree matrix rest) q × (after ≡ before) × (result' ≡ result)
  character-refused l =
      let (q, S, e) = above result result' r O.answer O.gives l in
      let G : Gives (Err q) result result' r = subst (λ a. Gives a result result' r) e O.gives in
      let A : Answered (Err q) = subst Answered e O.answers in
      (q, S, A.0, A.1, G.results)
