-- `ranges::cost` meets its contract: how far the larger low end is above the smaller high end, and 0 where it is not.
use native.Mathlib.Omega.{arith}
use Rattle.ranges.proofs.Ends.{cost-ends}
use Rattle.ranges.proofs.cost.Goals as goal

pub returns : goal.returns
returns c = omega (arith, cost-ends _ _ c.requires.0 c.requires.1)
