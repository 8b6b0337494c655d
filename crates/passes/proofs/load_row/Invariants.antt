-- `load_row` writes a row, one character after the other. The invariant: the first i of them are loaded, and nothing else is written.
use Rattle.passes.specs.Passes.{LoadedRow}
use Rattle.passes.proofs.load_row.Given as goal

abbrev pub invariant-loop-i : goal.invariant-loop-i
invariant-loop-i l =
    LoadedRow l.taxon l.c l.past l.w l.i l.matrix l.initial.block.lows l.initial.block.highs l.initial.block.lengths l.block.lows l.block.highs
    l.block.lengths
