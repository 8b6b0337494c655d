-- `put_number`: a number below 10 is one digit; another is the digits of its tenth and one more, for which there is room.
use native.Mathlib.Omega.{arith}
use Prim.Native.Nat.{ℕ, ◌<◌}
use lib.ListN.{length}
use Rattle.printing.proofs.Laws.{length-one, length_more, written_one, written-more}
use Rattle.printing.proofs.+put_number.Goals as goal
use Rattle.printing.proofs.+put_number.Goals.{After-put_number-next}

-- the tenth is written, and there is room for one digit more
end : (t : ℕ) (c : After-put_number-next t) → c.put_number-next.result < length c.args.out.now
end t c = omega (arith, c.put_number-next.ensures.next_is, length_more c.args.v (omega arith), c.requires)

pub bounds-out-at : goal.bounds-out-at
bounds-out-at t c = omega (arith, length-one c.args.v (omega arith), c.requires)

pub returns-then-v-lt10 : goal.returns-then-v-lt10
returns-then-v-lt10 t c = written_one _ _ _ (omega arith)

pub put_number-next-requires : goal.put_number-next-requires
put_number-next-requires t c = (
  omega arith,
  omega (arith, length_more c.args.v (omega arith), c.requires),
)

pub bounds-out-next : goal.bounds-out-next
bounds-out-next t c = omega (arith, end t (goal.at.bounds-out-next t c).After-put_number-next)

pub overflow_add-result-2 : goal.overflow_add-result-2
overflow_add-result-2 t c = omega (arith, end t (goal.at.overflow_add-result-2 t c).After-put_number-next)

pub returns : goal.returns
returns t c = written-more _ _ _ _ _ (omega arith) c.put_number-next.ensures
