-- `cells::taxon_above` finds the lowest taxon above 9999 in a character: no taxon passed is.
use Rattle.refusals.specs.Search.{Never}
use Rattle.cells.specs.Above.{AboveIn}
use Rattle.cells.proofs.taxon_above.Given as goal

abbrev pub invariant-loop-t : goal.invariant-loop-t
invariant-loop-t l = Never (AboveIn l.matrix l.c l.character) l.t
