-- `ranges::join` meets its contract: in either arm the two numbers are the inner two of the four ends.
use native.Mathlib.Omega.{arith}
use Rattle.ranges.proofs.Ends.{joined-two}
use Rattle.ranges.proofs.join.Goals as goal

-- they meet
pub returns-then-from-to : goal.returns-then-from-to
returns-then-from-to c = joined-two _ _ _ c.requires.0 c.requires.1 (omega arith) (omega arith)

-- there is a gap
pub returns-else-from-to : goal.returns-else-from-to
returns-else-from-to c = joined-two _ _ _ c.requires.0 c.requires.1 (omega arith) (omega arith)
