-- How a line of a sheet is written, and which numbers it can hold. A text is a list of bytes; 10 is LF.
-- Assumes nothing.
use Rattle.std.specs.Prelude.{◌≡◌, List, [], ◌∷◌, ◌++◌, ℕ, ◌≤◌, length}
use Rattle.numbers.specs.Printed.{commas}

-- a line: its key, its numbers with commas between, and LF
abbrev pub line : (key values : List ℕ) → List ℕ
line key values = key ++ (commas values ++ (10 ∷ []))

-- row=
abbrev pub row_key : List ℕ
row_key = 114 ∷ 111 ∷ 119 ∷ 61 ∷ []

-- each number is one that a sheet can hold: 0 to 65535
unfoldable pub Fit : List ℕ → Type 0
Fit [] = Unit
Fit (v ∷ vs) = (v ≤ 65535) × Fit vs

-- each row has `width` numbers, and they fit
unfoldable pub FitRows : ℕ → List (List ℕ) → Type 0
FitRows width [] = Unit
FitRows width (row ∷ rows) = (length row ≡ width) × Fit row × FitRows width rows
