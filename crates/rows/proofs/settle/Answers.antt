-- `settle`: a character's entries can be settled at its turn, and so one character more is.
use Rattle.rows.proofs.Rows.{placed, one_more}
use Rattle.rows.proofs.settle.Goals as goal

pub settle_one-requires : goal.settle_one-requires
settle_one-requires c = placed c.requires c.loop-i-test.true c.loop-i.invariant

pub loop-i-preserved : goal.loop-i-preserved
loop-i-preserved c = one_more c.requires c.loop-i-test.true c.loop-i.invariant c.settle_one.ensures
