-- `take` copies one entry after the other. The invariant: the first k of them are there.
use Rattle.entry_lists.proofs.Taking.{TakenTo}
use Rattle.entry_lists.proofs.take.Given as goal

abbrev pub invariant-loop-k : goal.invariant-loop-k
invariant-loop-k g l = TakenTo l.n l.w l.i l.k l.list l.entries
