-- `total_g`: a character's g is at most 9999 for each of 256 taxa, so the sum fits; a turn adds the g of one character more.
use native.Mathlib.Omega.{arith}
use Rattle.parsimony.proofs.Sums.{sum_next}
use Rattle.extents.proofs.Bounds.{g-small}
use Rattle.extents.proofs.total_g.Goals as goal

pub overflow_add-total : goal.overflow_add-total
overflow_add-total c = omega (arith, g-small _ _ _ c.requires.0)

pub loop-j-preserved : goal.loop-j-preserved
loop-j-preserved c = (omega (arith, sum_next), omega (arith, g-small _ _ _ c.requires.0))
