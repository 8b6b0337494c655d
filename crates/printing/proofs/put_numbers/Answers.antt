-- `put_numbers`: the first number is written, and then a comma and a number at each turn; what is still to be written has its room throughout.
use native.Mathlib.Omega.{arith}
use mathlib.Core.Path.{◌≡◌, refl, ◌∙◌}
use Prim.Native.Nat.{◌+◌}
use lib.ListN.{length, drop, length-set}
use Rattle.numbers.specs.Printed.{decimal, continued, commas}
use Rattle.printing.proofs.Laws.{rest, commas-length, continued-length, continued-written, commas-written}
use Rattle.printing.proofs.put_numbers.Goals as goal
use Rattle.printing.proofs.put_numbers.Goals.{After-put_number-next-in-loop-v, After-from, After-from-in-loop-v, In-loop-v}

-- how long the text is: the first number and those that follow; a comma, a number and those that follow it
first : (c : After-from) → length (commas c.args.values.now)
    ≡ length (decimal c.from.result) + length (continued (rest c.args.values.now))
first c = commas-length c.args.values.now c.from.result c.from.ensures c.requires.0

more : (c : After-from-in-loop-v) → length (continued (drop c.loop-v.v-index (rest c.args.values.now)))
    ≡ 1 + (length (decimal c.from-in-loop-v.result) + length (continued (drop (c.loop-v.v-index + 1) (rest c.args.values.now))))
more c = continued-length (rest c.args.values.now) c.loop-v.v-index c.from-in-loop-v.result c.from-in-loop-v.ensures c.loop-v-test.true

-- a number that was written leaves the slice as long as it was
kept : (c : After-put_number-next-in-loop-v) → length c.put_number-next-in-loop-v.new.out ≡ length c.loop-v.out
kept c = c.put_number-next-in-loop-v.auto.out ∙ simp length-set

pub put_number-next-requires : goal.put_number-next-requires
put_number-next-requires c = omega (arith, first (goal.at.put_number-next-requires c).After-from, c.requires.1)

pub loop-v-init : goal.loop-v-init
loop-v-init c = (
  refl,
  refl,
  omega (
    arith,
    first (goal.at.loop-v-init c).After-from,
    c.requires.1,
    c.put_number-next.ensures.next_is,
    c.put_number-next.auto.out,
  ),
)

pub bounds-out-next : goal.bounds-out-next
bounds-out-next c =
    omega (arith, continued-length (rest c.args.values.now) c.loop-v.v-index _ refl c.loop-v-test.true, c.loop-v.invariant.2)

pub put_number-next-requires-in-loop-v : goal.put_number-next-requires-in-loop-v
put_number-next-requires-in-loop-v c =
    simp length-set (omega (arith, more (goal.at.put_number-next-requires-in-loop-v c).After-from-in-loop-v, c.loop-v.invariant.2))

pub loop-v-preserved : goal.loop-v-preserved
loop-v-preserved c = (
  c.loop-v.invariant.0 ∙ continued-written _ _ _ _ _ _ _ c.from-in-loop-v.ensures c.loop-v-test.true c.put_number-next-in-loop-v.ensures,
  omega (
    arith,
    more (goal.at.loop-v-preserved c).After-from-in-loop-v,
    c.loop-v.invariant.1,
    c.put_number-next-in-loop-v.ensures.next_is,
  ),
  omega (
    arith,
    kept (goal.at.loop-v-preserved c).After-put_number-next-in-loop-v,
    more (goal.at.loop-v-preserved c).After-from-in-loop-v,
    c.loop-v.invariant.2,
    c.put_number-next-in-loop-v.ensures.next_is,
  ),
)

pub returns : goal.returns
returns c =
    commas-written c.args.values.now _ _ _ _ _ _ _ _ c.from.ensures c.requires.0 c.loop-v-test.false
    c.put_number-next.ensures c.loop-v.invariant.0 c.loop-v.invariant.1
