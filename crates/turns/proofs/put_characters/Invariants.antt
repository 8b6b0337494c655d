-- `put_characters` writes the lines of one character after another. The invariant: those of the characters so far are written.
use Rattle.turns.proofs.Writing.{Turned}
use Rattle.turns.proofs.put_characters.Given as goal

abbrev pub invariant-loop-j : goal.invariant-loop-j
invariant-loop-j l = Turned l.n l.c l.resolve l.tree l.matrix l.initial.out l.at l.out l.next l.j
