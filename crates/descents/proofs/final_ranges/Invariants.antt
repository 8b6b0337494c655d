-- `final_ranges` takes one interior node after the other, in the order of the list. The invariant: what is written for the first i of them is the second
-- pass.
use Rattle.descents.proofs.Passing.{PassedTo}
use Rattle.descents.proofs.final_ranges.Given as goal

abbrev pub invariant-loop-i : goal.invariant-loop-i
invariant-loop-i l = PassedTo l.n l.c l.character l.root l.top l.tree l.matrix l.order l.lows l.highs l.i l.above l.final_lows l.final_highs
