-- `finish` reads two ranges, joins three, and writes one.
use Rattle.nodes.proofs.Reading.{finished}
use Rattle.nodes.proofs.finish.Goals as goal

pub returns : goal.returns
returns c =
    finished _ _ _ _ _ c.args.matrix.now c.args.shape.now.left
    c.args.shape.now.right c.args.lows.now c.args.highs.now
    c.args.final_lows.now c.args.final_highs.now c.requires.inner _ _
    c.from.ensures c.from-2.ensures _ _ c.range_at-a.ensures
    c.range_at-b.ensures _ c.final_range-last.ensures
