-- `length_here` reads the two ranges at the root's branch, and adds the cost of their join.
use Rattle.tallies.proofs.Counting.{length-here}
use Rattle.tallies.proofs.length_here.Goals as goal

pub returns : goal.returns
returns c =
    length-here _ _ _ _ _ c.args.matrix.now c.args.lows.now c.args.highs.now
    c.args.lengths.now c.requires _ _ c.range_at-here.ensures
    c.range_at-below.ensures _ c.cost.ensures _ c.from.ensures
