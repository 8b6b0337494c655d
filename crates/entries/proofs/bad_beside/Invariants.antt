-- `bad_beside` looks at one interior node after the other. The invariant: none so far is beside the path with a bad entry.
use Prim.Native.Nat.{◌-◌}
use Rattle.refusals.specs.Search.{Never}
use Rattle.entries.specs.Entries.{BadMarked}
use Rattle.entries.proofs.bad_beside.Given as goal

abbrev pub invariant-loop-node : goal.invariant-loop-node
invariant-loop-node l = Never (BadMarked l.n l.tree l.marks l.lows l.highs l.lengths) (l.node - 1)
