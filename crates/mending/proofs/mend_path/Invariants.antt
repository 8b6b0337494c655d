-- `mend_path` settles one node of the path after the other. The invariant: those passed are settled, and nothing else is written.
use Rattle.mending.proofs.Turns.{MendedTo}
use Rattle.mending.proofs.mend_path.Given as goal

abbrev pub invariant-loop-i : goal.invariant-loop-i
invariant-loop-i l =
    MendedTo l.n l.c l.character l.taxon l.path.count l.tree l.matrix l.initial.lows l.initial.highs l.initial.lengths l.i l.lows l.highs l.lengths
