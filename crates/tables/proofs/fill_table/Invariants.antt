-- `fill_table` builds one block after the other, and in it one character after the other. The invariants: the table is built as far as the characters
-- that are done.
use Prim.Native.Nat.{◌+◌, min}
use Rattle.tables.specs.Tables.{BuiltTo}
use Rattle.tables.proofs.Building.{BuildsTo}
use Rattle.tables.proofs.fill_table.Given as goal

abbrev pub invariant-loop-done : goal.invariant-loop-done
invariant-loop-done l =
    BuildsTo l.n l.c l.root l.top l.shape.left l.shape.right l.matrix (min l.done l.c) l.block.lows l.block.highs l.block.lengths l.lows l.highs l.lengths

abbrev pub invariant-loop-i : goal.invariant-loop-i
invariant-loop-i l = BuiltTo l.n l.c l.root l.top l.shape.left l.shape.right l.matrix (l.done + l.i) l.lows l.highs l.lengths
