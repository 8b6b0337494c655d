-- A matrix of states: a row of c cells for each taxon, one row after the other. Taxa, characters and cells are counted from 1.
-- Assumes nothing.
use Rattle.std.specs.Prelude.{List, ℕ, ◌+◌, ◌-◌, ◌*◌, get_or}

-- the number of the cell of the taxon t and the character j
abbrev pub cell_number : (c t j : ℕ) → ℕ
cell_number c t j = (t - 1) * c + j

-- the state in the cell of a number
abbrev pub cell_at : List ℕ → ℕ → ℕ
cell_at matrix i = get_or matrix (i - 1) 0

-- the state of the taxon t in the character j
abbrev pub state_of : List ℕ → (c j t : ℕ) → ℕ
state_of matrix c j t = cell_at matrix (cell_number c t j)
