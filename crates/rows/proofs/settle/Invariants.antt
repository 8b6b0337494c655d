-- `settle` settles a row, one character after the other. The invariant: the first i characters are settled, and nothing else is written.
use Rattle.rows.specs.Rows.{SettledRow}
use Rattle.rows.proofs.settle.Given as goal

abbrev pub invariant-loop-i : goal.invariant-loop-i
invariant-loop-i l =
    SettledRow l.node l.left l.right l.w l.i l.initial.block.lows l.initial.block.highs l.initial.block.lengths l.block.lows l.block.highs l.block.lengths
