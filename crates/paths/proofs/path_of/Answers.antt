-- `path_of`: the list has room for each interior node that the climb passes; a turn lists one more, and the walk ends at the root.
use native.Mathlib.Omega.{arith}
use mathlib.Core.Path.{◌≡◌, sym}
use Prim.Native.Nat.{ℕ, ◌<◌}
use lib.ListN.{length, replicate, length-replicate}
use Rattle.parsimony.proofs.Tables.Descendants.{entry_of}
use Rattle.paths.proofs.Paths.{walk_starts, room, walk_on, walk_ends}
use Rattle.paths.proofs.path_of.Goals as goal
use Rattle.paths.proofs.path_of.Goals.{In-climb}

blank : length {A = ℕ} (replicate 254 0) ≡ 254
blank = length-replicate {A = ℕ} 254 0

has_room : (c : In-climb) → c.climb.count < 254
has_room c =
    omega (
      arith,
      blank,
      room _ c.args.tree.now _ (replicate 254 0) blank c.requires _ _ c.climb.nodes c.climb.invariant (omega (arith, c.from.ensures, c.climb-test.true)),
      c.climb.invariant.long,
    )

pub climb-init : goal.climb-init
climb-init c =
    walk_starts _ c.args.tree.now _ (replicate 254 0) blank c.requires _
    (sym (entry_of c.args.tree.now _ c.requires.some))

pub bounds-nodes-count : goal.bounds-nodes-count
bounds-nodes-count c = has_room (goal.at.bounds-nodes-count c).In-climb

pub climb-smaller : goal.climb-smaller
climb-smaller c = omega (arith, has_room (goal.at.climb-smaller c).In-climb)

pub climb-preserved : goal.climb-preserved
climb-preserved c =
    walk_on _ c.args.tree.now _ (replicate 254 0) blank c.requires _ _
    c.climb.nodes c.climb.invariant (omega (arith, c.from.ensures, c.climb-test.true)) _
    (rw c.from-in-climb.ensures (sym (entry_of c.args.tree.now c.climb.at (omega (arith, c.from.ensures, c.climb-test.true)))))

pub returns : goal.returns
returns c =
    walk_ends _ c.args.tree.now _ (replicate 254 0) blank c.requires _ _ c.climb.nodes
    c.climb.invariant (omega (arith, c.from.ensures, c.climb-test.false))
