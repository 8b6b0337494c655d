-- `range_at` reads one range.
use Rattle.nodes.proofs.Reading.{at-taxon}
use Rattle.nodes.proofs.range_at.Goals as goal

pub returns-then-node-n : goal.returns-then-node-n
returns-then-node-n c =
    at-taxon _ _ _ _ c.args.matrix.now c.args.lows.now c.args.highs.now _
    c.if-node-n.true c.state_of-state.ensures
