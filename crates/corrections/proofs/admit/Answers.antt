-- `admit` looks at the state, and then beside the path.
use native.Mathlib.Omega.{arith}
use lib.ListN.{length-replicate}
use Prim.Native.Nat.{ℕ}
use Rattle.repairs.proofs.Looking.{looks, has-path}
use Rattle.corrections.proofs.admit.Goals as goal

pub look_beside-requires : goal.look_beside-requires
look_beside-requires c =
    looks _ _ _ _ c.args.tree.now c.args.matrix.now c.args.lows.now c.args.highs.now c.args.lengths.now
    c.requires _ _ _ (length-replicate {A = ℕ} 254 0) c.path_of-path.ensures

pub returns-in-None : goal.returns-in-None
returns-in-None c = (
  record {
    given = c.requires;
    small = omega arith;
    listed = has-path _ _ _ _ c.args.tree.now c.args.matrix.now c.args.lows.now c.args.highs.now c.args.lengths.now
        c.requires _ _ _ (length-replicate {A = ℕ} 254 0) c.path_of-path.ensures;
    clear = c.in-None.ensures;
  },
  c.path_of-path.ensures.number,
)
