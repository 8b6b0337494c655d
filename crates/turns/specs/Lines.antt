-- The lines for the characters of a report, in print; and what the steps that write them ask and leave.
-- Assumes nothing.
use Rattle.std.specs.Prelude.{◌≡◌, List, [], ◌++◌, ℕ, zero, suc, ◌-◌, ◌*◌, ◌≤◌, length}
use Rattle.parsimony.specs.Table.{Accepted}
use Rattle.parsimony.specs.Matrix.{state_of}
use Rattle.refusals.specs.Search.{Never}
use Rattle.cells.specs.Above.{AboveAt}
use Rattle.choices.specs.declared.Resolve.{Resolve}
use Rattle.limits.specs.Limits.{InLimits}
use Rattle.scores.specs.declared.Scores.{Scores}
use Rattle.scores.specs.Scores.{Results, CharacterMeans}
use Rattle.fields.specs.Fitting.{Fitting}
use Rattle.layouts.specs.Report.{character_lines}
use Rattle.layouts.specs.Rooms.{character_room}

-- what is found of a character: its scores, and its ranges and states
pub record Found : Type 0 where
  pub scores : Scores
  pub results : Results

-- the lines for the characters 1 to k
abbrev pub lines_to : (ℕ → Found) → ℕ → List ℕ
lines_to found zero = []
lines_to found (suc k) = lines_to found k ++ character_lines (suc k) (found (suc k)).scores (found (suc k)).results

-- ---- the steps

-- an accepted tree, and a matrix without a state above 9999
pub record Ready (n c : ℕ) (tree matrix : List ℕ) : Type 0 where
  pub limits : InLimits n c
  pub nodes : length tree ≡ 2 * n - 2
  pub cells : length matrix ≡ n * c
  pub small : Never (AboveAt matrix) (n * c)
  pub ρ : ℕ
  pub δ : ℕ
  pub accepted : Accepted n tree ρ δ

-- one character's lines are written, of results that have their meaning
pub record One (n c j : ℕ) (r : Resolve) (tree matrix : List ℕ) (results : Results) (before after : List ℕ) (at next : ℕ) : Type 0 where
  pub scores : Scores
  pub ρ : ℕ
  pub δ : ℕ
  pub accepted : Accepted n tree ρ δ
  pub means : CharacterMeans n (state_of matrix c j) tree ρ r results scores
  pub fitting : Fitting before after at next (character_lines j scores results) (character_room (n - 2))

-- the lines for the characters 1 to k are written, of what is found of each, which has its meaning
pub record Some (n c k : ℕ) (r : Resolve) (tree matrix : List ℕ) (before after : List ℕ) (at next : ℕ) : Type 0 where
  pub found : ℕ → Found
  pub each : (ρ δ : ℕ) → Accepted n tree ρ δ → (j : ℕ) → 1 ≤ j → j ≤ k
      → CharacterMeans n (state_of matrix c j) tree ρ r (found j).results (found j).scores
  pub fitting : Fitting before after at next (lines_to found k) (k * character_room (n - 2))
