-- A matrix whose characters can be summed over.
-- Assumes nothing.
use Rattle.std.specs.Prelude.{◌≡◌, List, ℕ, ◌*◌, ◌≤◌, length}
use Rattle.parsimony.specs.Matrix.{state_of}

-- no state of the c characters is above 9999
abbrev pub Small : (n c : ℕ) (matrix : List ℕ) → Type 0
Small n c matrix = (j k : ℕ) → 1 ≤ j → j ≤ c → 1 ≤ k → k ≤ n → state_of matrix c j k ≤ 9999

-- a matrix of n taxa and c characters
pub record Cells (n c : ℕ) (matrix : List ℕ) : Type 0 where
  pub least : 1 ≤ n
  pub most : n ≤ 256
  pub few : c ≤ 512
  pub rows : length matrix ≡ n * c
  pub small : Small n c matrix
