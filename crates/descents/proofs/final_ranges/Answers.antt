-- `final_ranges`: at its turn a node sees what is above it and is finished, and so one node more is; after the last turn all are.
use Rattle.descents.proofs.Passing.{passed_all, seeing_at, finishing_at, turned_at}
use Rattle.descents.proofs.final_ranges.Goals as goal

pub see-seen-requires : goal.see-seen-requires
see-seen-requires c = seeing_at c.requires.0 c.loop-i.invariant c.loop-i-test.true _ _ c.requires.1 c.from-node.ensures

pub finish-requires : goal.finish-requires
finish-requires c =
    finishing_at c.requires.0 c.loop-i.invariant c.loop-i-test.true _ _ c.requires.1 c.from-node.ensures _ c.see-seen.ensures.fits

pub loop-i-preserved : goal.loop-i-preserved
loop-i-preserved c =
    turned_at c.requires.0 c.loop-i.invariant c.loop-i-test.true _ _ c.requires.1 c.from-node.ensures _ c.see-seen.ensures _ _ c.finish.ensures

pub returns : goal.returns
returns c = passed_all c.requires.0 c.loop-i.invariant c.loop-i-test.false
