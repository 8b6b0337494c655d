-- A struct of two numbers as a range of states, in the words of the crate `parsimony`.
-- Assumes nothing.
use Rattle.std.specs.Prelude.{◌≡◌, List, ◌≤◌}
use Rattle.parsimony.specs.Ordered as ordered
use Rattle.ranges.specs.declared.Range.{Range}

-- the range from the low end to the high end
abbrev pub range_of : Range → ordered.Range
range_of r = ordered.span r.low r.high

-- the low end is not above the high end
abbrev pub IsRange : Range → Type 0
IsRange r = r.low ≤ r.high

-- r is the join of some ranges
pub record Joined (qs : List ordered.Range) (r : Range) : Type 0 where
  pub fits : IsRange r
  pub joins : range_of r ≡ ordered.join qs
