-- `mend_node` reads two ranges and two lengths, and writes one of each.
use Rattle.mending.proofs.Nodes.{mended}
use Rattle.mending.proofs.mend_node.Goals as goal

pub returns : goal.returns
returns c =
    mended c.requires _ _ c.from-a.ensures c.from-b.ensures _ _ c.range_at-x.ensures
    c.range_at-y.ensures _ _ c.length_at.ensures c.length_at-2.ensures _
    c.join-joined.ensures _ _ c.from.ensures c.cost-cost.ensures
