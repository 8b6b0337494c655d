-- `order` lists the interior nodes, each behind its ancestor. The invariant: the first `filled` entries are a queue, of which `next` have had their
-- turn. The entries that can still have one are the measure.
use Prim.Native.Nat.{◌-◌}
use Rattle.orders.proofs.Turns.{Turning}
use Rattle.orders.proofs.order.Given as goal

abbrev pub invariant-loop-next : goal.invariant-loop-next
invariant-loop-next l = Turning l.n l.top l.shape.left l.shape.right l.order l.filled l.next

abbrev pub decreases-loop-next : goal.decreases-loop-next
decreases-loop-next l = 254 - l.next
