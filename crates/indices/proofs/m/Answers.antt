-- `m`: a turn takes in the next taxon's state; the lowest is never above the highest, so what is between them is a number.
use native.Mathlib.Omega.{arith}
use Rattle.indices.proofs.Taxa.{highest_next, lowest_next, lowest-highest}
use Rattle.indices.proofs.m.Goals as goal

pub loop-t-preserved : goal.loop-t-preserved
loop-t-preserved c = (omega (arith, lowest_next), omega (arith, highest_next))

pub overflow_sub-result : goal.overflow_sub-result
overflow_sub-result c = omega (arith, lowest-highest)
