-- `total_m` adds one number after the other.
use mathlib.Core.Path.{◌≡◌}
use Prim.Native.Nat.{◌*◌, ◌≤◌}
use Rattle.parsimony.specs.Lists.{sum, from}
use Rattle.parsimony.specs.Matrix.{state_of}
use Rattle.parsimony.specs.Index as index
use Rattle.extents.proofs.total_m.Given as goal

abbrev pub invariant-loop-j : goal.invariant-loop-j
invariant-loop-j l = (l.total ≡ sum (λ k. index.m l.n (state_of l.matrix l.c k)) (from 1 l.j)) × (l.total ≤ 9999 * l.j)
