-- `starts` compares one byte after the other. The invariant: the key stands here if what is left of it stands where the comparison is.
use mathlib.Core.Path.{◌≡◌}
use Prim.Native.Nat.{◌+◌}
use lib.ListN.{drop}
use Rattle.numbers.specs.Numbers.{starts_at}
use Rattle.numbers.proofs.starts.Given as goal

abbrev pub invariant-loop-j : goal.invariant-loop-j
invariant-loop-j l = starts_at l.text l.at l.key ≡ starts_at l.text (l.at + l.j) (drop l.j l.key)
