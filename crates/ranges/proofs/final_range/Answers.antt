-- `ranges::final_range` meets its contract: the join of three, by the outer and the inner two ends of the last two.
use Rattle.std.proofs.Common.{rules}
use Rattle.ranges.proofs.Ends.{joined-three}
use Rattle.ranges.proofs.final_range.Goals as goal

pub returns : goal.returns
returns c =
    joined-three _ _ _ _ _ _ _ (search rules) (search rules) (search rules) (search rules) c.join-inner.ensures
    c.join.ensures c.join-2.ensures
