-- `load_row`: a turn loads one character more.
use mathlib.Core.Path.{refl}
use Rattle.passes.proofs.Loading.{one_more}
use Rattle.passes.proofs.load_row.Goals as goal

pub loop-i-preserved : goal.loop-i-preserved
loop-i-preserved c = one_more c.requires.1 c.requires.0 c.loop-i-test.true c.loop-i.invariant _ refl
