-- `bad_node` looks at one entry after the other. The invariant: none so far is bad.
use Prim.Native.Nat.{◌+◌}
use Rattle.refusals.specs.Search.{Never}
use Rattle.entries.specs.Entries.{BadAt}
use Rattle.entries.proofs.bad_node.Given as goal

abbrev pub invariant-loop-k : goal.invariant-loop-k
invariant-loop-k l = Never (BadAt l.n l.lows l.highs l.lengths) (l.n + l.k)
