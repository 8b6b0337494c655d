-- Document 01's own: the first-pass ranges of character 1.
-- Assumes nothing.
use mathlib.Core.Path.{◌≡◌, refl}
use mathlib.Core.List.{[], ◌∷◌}
use Rattle.numbers.specs.Printed.{decimal_of}
use Rattle.listings.specs.Ranges.{more_ranges, ranges}

-- "3-3,1-5"
pub handout-first : ranges (3 ∷ 1 ∷ []) (3 ∷ 5 ∷ []) ≡ 51 ∷ 45 ∷ 51 ∷ 44 ∷ 49 ∷ 45 ∷ 53 ∷ []
unfolding decimal_of more_ranges ranges
handout-first = refl
