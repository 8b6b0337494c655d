-- `total_m`: a character's m is 9999 at the most; a turn adds the m of one character more.
use Prim.Native.Nat.{◌+◌}
use native.Mathlib.Omega.{arith}
use Rattle.parsimony.proofs.Sums.{sum_next}
use Rattle.extents.proofs.Bounds.{m-small}
use Rattle.extents.proofs.total_m.Goals as goal

pub loop-j-preserved : goal.loop-j-preserved
loop-j-preserved c = (omega (arith, sum_next), omega (arith, m-small _ _ _ c.requires (c.loop-j.j + 1) (omega arith) (omega arith)))
