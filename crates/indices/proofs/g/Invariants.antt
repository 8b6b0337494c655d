-- `indices::g` meets its contract: the distances of the taxa passed are summed, at most 65535 each.
use mathlib.Core.Path.{◌≡◌}
use Prim.Native.Nat.{◌*◌, ◌≤◌}
use Rattle.parsimony.specs.Matrix.{state_of}
use Rattle.parsimony.specs.Index as index
use Rattle.indices.proofs.g.Given as goal

abbrev pub invariant-loop-t : goal.invariant-loop-t
invariant-loop-t l = (l.sum ≤ 65535 * l.t) × (l.sum ≡ index.g l.t (state_of l.matrix l.c l.character) l.root)
