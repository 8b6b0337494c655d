-- `order`: the node whose turn it is is an interior node, so the lists have its place, and there is room for its descendants, which a turn puts at
-- the end.
use native.Mathlib.Omega.{arith}
use Rattle.orders.proofs.Turns.{turning_begins, turned, turning_ends, above, has-place, first-puts, second-puts}
use Rattle.orders.proofs.order.Goals as goal

pub loop-next-init : goal.loop-next-init
loop-next-init c = turning_begins _ _ _ _

pub overflow_sub-at : goal.overflow_sub-at
overflow_sub-at c = omega (arith, above c.loop-next.invariant c.loop-next-test.true c.from.ensures c.requires)

pub overflow_sub-at-in-loop-next : goal.overflow_sub-at-in-loop-next
overflow_sub-at-in-loop-next c = omega (arith, above c.loop-next.invariant c.loop-next-test.true c.from.ensures c.requires)

pub bounds-shape-at : goal.bounds-shape-at
bounds-shape-at c = has-place c.loop-next.invariant c.loop-next-test.true c.from.ensures c.requires

pub bounds-shape-at-in-loop-next : goal.bounds-shape-at-in-loop-next
bounds-shape-at-in-loop-next c = has-place c.loop-next.invariant c.loop-next-test.true c.from.ensures c.requires

pub put-first-requires : goal.put-first-requires
put-first-requires c = first-puts c.loop-next.invariant c.loop-next-test.true c.from.ensures c.requires

pub put-filled-requires : goal.put-filled-requires
put-filled-requires c = second-puts c.loop-next.invariant c.loop-next-test.true c.from.ensures c.requires c.put-first.ensures

pub loop-next-preserved : goal.loop-next-preserved
loop-next-preserved c = turned c.loop-next.invariant c.loop-next-test.true c.from.ensures c.requires c.put-first.ensures c.put-filled.ensures

pub returns : goal.returns
returns c = turning_ends c.loop-next.invariant c.loop-next-test.false
