-- `sum_blocks` takes one block after the other. The invariant: the sum is that of the least lengths of the characters that are done.
use Prim.Native.Nat.{min}
use Rattle.totals.proofs.Blocks.{SumsTo}
use Rattle.totals.proofs.sum_blocks.Given as goal

abbrev pub invariant-loop-done : goal.invariant-loop-done
invariant-loop-done l =
    SumsTo l.n l.c l.root l.top l.shape.left l.shape.right l.matrix (min l.done l.c) l.sum l.block.lows l.block.highs l.block.lengths
