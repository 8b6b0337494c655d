-- Ranges in print: low-high, with commas between.
-- Assumes nothing.
use Rattle.std.specs.Prelude.{List, [], ◌∷◌, ◌++◌, ℕ}
use Rattle.numbers.specs.Printed.{decimal}
use Rattle.fields.specs.Fields.{byte}

-- low-high
abbrev pub range : (low high : ℕ) → List ℕ
range low high = decimal low ++ (byte 45 ++ decimal high)

-- ranges, each after a comma: the low ends in one list and the high ends in another
unfoldable pub more_ranges : (lows highs : List ℕ) → List ℕ
more_ranges [] highs = []
more_ranges (l ∷ ls) [] = []
more_ranges (l ∷ ls) (h ∷ hs) = byte 44 ++ (range l h ++ more_ranges ls hs)

-- ranges with commas between
unfoldable pub ranges : (lows highs : List ℕ) → List ℕ
ranges [] highs = []
ranges (l ∷ ls) [] = []
ranges (l ∷ ls) (h ∷ hs) = range l h ++ more_ranges ls hs
