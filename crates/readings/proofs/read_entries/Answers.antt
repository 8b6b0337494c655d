-- `read_entries` works out the shape of the tree, goes down it, and reads the length at the root.
use Rattle.readings.proofs.Reading.{is_read}
use Rattle.readings.proofs.read_entries.Goals as goal

pub returns : goal.returns
returns c =
    is_read _ _ _ _ _ _ _ c.from-root.ensures c.from-top.ensures
    c.args.tree.now c.args.matrix.now c.args.lows.now
    c.args.highs.now c.args.lengths.now _ _ _ c.length_here.ensures
    c.final_ranges.ensures
