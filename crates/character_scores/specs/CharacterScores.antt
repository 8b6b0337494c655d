-- What the passes over one character ask.
-- Assumes nothing.
use Rattle.std.specs.Prelude.{◌≡◌, List, ℕ, ◌*◌, ◌≤◌, length}
use Rattle.parsimony.specs.Table.{Accepted}
use Rattle.parsimony.specs.Matrix.{state_of}
use Rattle.trees.specs.Answers.{Sized}
use Rattle.scores.specs.Scores.{Results, AllLong}

-- an accepted tree, a matrix, and a character of it without a state above 9999
pub record GivenOne (n c j ρ δ : ℕ) (tree matrix : List ℕ) (r : Results) : Type 0 where
  pub sized : Sized n tree
  pub accepted : Accepted n tree ρ δ
  pub some : 1 ≤ j
  pub most : j ≤ c
  pub rows : length matrix ≡ n * c
  pub small : (k : ℕ) → 1 ≤ k → k ≤ n → state_of matrix c j k ≤ 9999
  pub long : AllLong n r
