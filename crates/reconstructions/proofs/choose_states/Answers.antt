-- `choose_states`: the range of a node is one, so it has a nearest state; a turn gives one node more its state, and after the last turn all have
-- theirs.
use Rattle.reconstructions.proofs.Choosing.{chosen-all, range-fits-at, chosen_at}
use Rattle.reconstructions.proofs.choose_states.Goals as goal

pub nearest-requires : goal.nearest-requires
nearest-requires c = range-fits-at c.requires.0 c.loop-i.invariant c.loop-i-test.true c.from-node.ensures

pub loop-i-preserved : goal.loop-i-preserved
loop-i-preserved c =
    chosen_at c.requires.0 c.loop-i.invariant c.loop-i-test.true c.from-node.ensures _ _ c.state_above-from.ensures c.nearest.ensures

pub returns : goal.returns
returns c = chosen-all c.requires.0 c.loop-i.invariant c.loop-i-test.false
