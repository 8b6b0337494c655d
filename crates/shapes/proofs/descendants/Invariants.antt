-- `descendants` lists the two descendants of each interior node. After k turns the left list has the first of a node's descendants among the last
-- k nodes, and the right list the last among the first k.
use Rattle.shapes.proofs.Listing.{ListsTo}
use Rattle.shapes.proofs.descendants.Given as goal

abbrev pub invariant-loop-k : goal.invariant-loop-k
invariant-loop-k l = ListsTo l.n l.tree l.k l.shape.left l.shape.right
