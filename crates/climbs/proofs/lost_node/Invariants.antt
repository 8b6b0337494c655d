-- `lost_node` finds the lowest node that never comes to the root: all nodes passed do.
use Prim.Native.Nat.{◌+◌}
use Rattle.climbs.specs.Climbs.{Marked}
use Rattle.climbs.proofs.Rounds.{Reach}
use Rattle.climbs.proofs.lost_node.Given as goal

abbrev pub invariant-loop-k : goal.invariant-loop-k
invariant-loop-k l = Reach l.root l.tree l.k × Marked l.root l.tree (l.k + 1) l.marks
