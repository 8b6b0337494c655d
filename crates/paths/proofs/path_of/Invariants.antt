-- `path_of` lists the interior nodes between a node and the root. The invariant: so many are listed, and the rest is the path from where the climb
-- stands. The measure is the room that is left in the list.
use Prim.Native.Nat.{◌-◌}
use lib.ListN.{replicate}
use Rattle.paths.proofs.Paths.{WalkedTo}
use Rattle.paths.proofs.path_of.Given as goal

abbrev pub invariant-climb : goal.invariant-climb
invariant-climb l = WalkedTo l.n l.tree l.node (replicate 254 0) l.count l.at l.nodes

abbrev pub decreases-climb : goal.decreases-climb
decreases-climb l = 254 - l.count
