-- `lost_node`: no mark is given at first; where a climb leads out, one node more is passed; where it does not, the node is the lowest lost one.
use Rattle.climbs.proofs.Rounds.{unmarked, reach-none, reach-more, lost_here}
use Rattle.climbs.proofs.lost_node.Goals as goal

pub loop-k-init : goal.loop-k-init
loop-k-init c = (reach-none _ c.args.tree.now, unmarked _ c.args.tree.now)

pub loop-k-preserved : goal.loop-k-preserved
loop-k-preserved c = (reach-more _ c.args.tree.now _ c.loop-k.invariant.0 c.if-not-climbs_out.ensures.1, c.if-not-climbs_out.ensures.0)

pub returns-then-not-climbs_out : goal.returns-then-not-climbs_out
returns-then-not-climbs_out c = lost_here _ c.args.tree.now _ c.loop-k-test.true c.loop-k.invariant.0 c.if-not-climbs_out.ensures
