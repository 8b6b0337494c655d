-- `wrong_count` finds the lowest node with a wrong number of descendants: none of the nodes passed has one.
use Rattle.refusals.specs.Search.{Never}
use Rattle.faults.specs.Faults.{WrongCount}
use Rattle.faults.proofs.wrong_count.Given as goal

abbrev pub invariant-loop-k : goal.invariant-loop-k
invariant-loop-k l = Never (WrongCount l.n l.tree l.root) l.k
