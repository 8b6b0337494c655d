-- `g`: what a turn adds is the distance of the next taxon's state from the root's.
use Prim.Native.Nat.{ℕ}
use native.Mathlib.Omega.{arith}
use lib.IntN.{pos}
use Rattle.parsimony.specs.Matrix.{state_of}
use Rattle.parsimony.specs.Ordered.{distance}
use Rattle.parsimony.proofs.Sums.{sum_next}
use Rattle.parsimony.proofs.Ranges.Distances.{distance_is}
use Rattle.indices.proofs.g.Goals as goal

pub loop-t-preserved : goal.loop-t-preserved
loop-t-preserved c =
    let states = state_of c.args.matrix.now c.args.c c.args.character in
    let far : ℕ → ℕ = λ k. distance (pos (states k)) (pos (states c.args.root)) in
    (omega arith, omega (arith, sum_next far c.loop-t.t, distance_is))
