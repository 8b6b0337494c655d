-- The cells of a matrix, and which of them hold a state above 9999, the highest that document 01 allows: refusal 7.
-- Assumes nothing.
use Rattle.std.specs.Prelude.{List, ℕ, ◌*◌, ◌≤◌, ◌<◌, length}
use Rattle.parsimony.specs.Matrix.{cell_at, state_of}

-- the cell of the taxon t in the character j is one of the matrix
pub record InMatrix (c j t : ℕ) (matrix : List ℕ) : Type 0 where
  pub some : 1 ≤ j
  pub most : j ≤ c
  pub taxon : 1 ≤ t
  pub rows : t * c ≤ length matrix

-- the cell i has a state above 9999
abbrev pub AboveAt : List ℕ → ℕ → Type 0
AboveAt matrix i = 9999 < cell_at matrix i

-- the cell of the taxon t in the character j, of c, does
abbrev pub AboveIn : List ℕ → (c j t : ℕ) → Type 0
AboveIn matrix c j t = 9999 < state_of matrix c j t
