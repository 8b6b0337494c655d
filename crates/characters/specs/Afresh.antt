-- What one character afresh answers, and what all characters afresh do: the scores or a refusal, and for each lent slice.
-- Assumes nothing.
use Rattle.std.specs.Prelude.{◌≡◌, List, [], ◌∷◌, ℕ, length, Result, Ok, Err}
use Rattle.parsimony.specs.Table.{Accepted}
use Rattle.parsimony.specs.Matrix.{state_of}
use Rattle.refusals.specs.declared.Refusal.{Refusal}
use Rattle.refusals.specs.Checks.{Refuses, Passes, Slice}
use Rattle.choices.specs.declared.Resolve.{Resolve}
use Rattle.limits.specs.Limits.{node_slice}
use Rattle.checks.specs.Calls.{character_checks, matrix_checks}
use Rattle.scores.specs.declared.Scores.{Scores}
use Rattle.scores.specs.Scores.{TreeScores, Results, CharacterMeans}

-- ---- one character afresh

-- the six slices that receive what is found, as lent slices: six lengths, and an entry asked for each interior node
abbrev pub six : (n a b d e f g : ℕ) → List Slice
six n a b d e f g = node_slice n a ∷ node_slice n b ∷ node_slice n d ∷ node_slice n e ∷ node_slice n f ∷ node_slice n g ∷ []

-- and those of six lists
abbrev pub result_slices : ℕ → Results → List Slice
result_slices n r =
    six n (length r.first_lows) (length r.first_highs) (length r.subtree) (length r.final_lows) (length r.final_highs)
    (length r.states)

-- no check applies, and everything has its meaning
pub record OneScored (n c j : ℕ) (resolve : Resolve) (tree matrix : List ℕ) (before after : Results) (s : Scores) : Type 0 where
  pub passes : Passes (character_checks n c j tree matrix (result_slices n before))
  pub ρ : ℕ
  pub δ : ℕ
  pub accepted : Accepted n tree ρ δ
  pub means : CharacterMeans n (state_of matrix c j) tree ρ resolve after s

-- The answer: the scores, and the results in their slices; or a refusal, by the first check that applies, and nothing is changed.
abbrev pub OneAnswers : (n c j : ℕ) → Resolve → (tree matrix : List ℕ) (before after : Results) → Result Scores Refusal → Type 0
OneAnswers n c j resolve tree matrix before after (Ok s) = OneScored n c j resolve tree matrix before after s
OneAnswers n c j resolve tree matrix before after (Err q) =
    Refuses (character_checks n c j tree matrix (result_slices n before)) q × (after ≡ before)

-- ---- all characters afresh

-- no check applies, and the scores are the tree's
pub record AllScored (n c : ℕ) (tree matrix : List ℕ) (s : Scores) : Type 0 where
  pub passes : Passes (matrix_checks n c tree matrix [])
  pub ρ : ℕ
  pub δ : ℕ
  pub accepted : Accepted n tree ρ δ
  pub means : TreeScores n c matrix tree ρ s

-- The answer: the scores; or a refusal, by the first check that applies. Both slices are lent to be read only.
abbrev pub AllAnswers : (n c : ℕ) (tree matrix : List ℕ) → Result Scores Refusal → Type 0
AllAnswers n c tree matrix (Ok s) = AllScored n c tree matrix s
AllAnswers n c tree matrix (Err q) = Refuses (matrix_checks n c tree matrix []) q
