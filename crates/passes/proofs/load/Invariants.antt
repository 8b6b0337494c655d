-- `load` writes one row after the other. The invariant: the first t taxa are loaded.
use Rattle.passes.specs.Passes.{Loaded}
use Rattle.passes.proofs.load.Given as goal

abbrev pub invariant-loop-t : goal.invariant-loop-t
invariant-loop-t l = Loaded l.t l.c l.past l.w l.matrix l.block.lows l.block.highs l.block.lengths
