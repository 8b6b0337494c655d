-- `choose_states` takes one interior node after the other, in the order of the list. The invariant: the first i of them have their states.
use Rattle.reconstructions.proofs.Choosing.{ChosenTo}
use Rattle.reconstructions.proofs.choose_states.Given as goal

abbrev pub invariant-loop-i : goal.invariant-loop-i
invariant-loop-i l = ChosenTo l.n l.c l.character l.tree l.matrix l.order l.lows l.highs l.i l.states
