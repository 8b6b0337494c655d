-- `mark` marks one node after the other. The invariant: those passed are marked, and no other.
use Rattle.entries.specs.Entries.{Marked}
use Rattle.entries.proofs.mark.Given as goal

abbrev pub invariant-loop-node : goal.invariant-loop-node
invariant-loop-node l = Marked l.n l.node-index l.path l.marks
