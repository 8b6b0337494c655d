-- `first_pass` loads the rows and walks the tree from the root's descendant.
use native.Mathlib.Omega.{arith}
use Rattle.passes.proofs.Passing.{walks, walked}
use Rattle.passes.proofs.first_pass.Goals as goal

pub walk-requires : goal.walk-requires
walk-requires c =
    let q = c.requires in
    record {
      tree = q.tree;
      ρ = q.ρ;
      δ = c.args.top;
      walks = walks q.orders q.loads.few q.small c.load.ensures;
      allows = omega (arith, q.orders.sized.nodes, q.orders.sized.least);
    }

pub returns : goal.returns
returns c =
    λ tree ρ O.
    let few = c.requires.loads.few in
    let small = c.requires.small in
    walked O few small c.load.ensures (c.walk.ensures tree ρ _ (walks O few small c.load.ensures))
