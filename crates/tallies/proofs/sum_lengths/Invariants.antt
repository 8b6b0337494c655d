-- `sum_lengths` adds one character's length after the other. The invariant: the sum so far, and that it is small.
use mathlib.Core.Path.{◌≡◌}
use mathlib.Core.List.{List}
use Prim.Native.Nat.{ℕ, ◌*◌, ◌≤◌}
use Rattle.parsimony.specs.Lists.{sum, from}
use Rattle.tallies.specs.Tallies.{length_in}
use Rattle.tallies.proofs.sum_lengths.Given as goal

abbrev pub invariant-loop-j : goal.invariant-loop-j
invariant-loop-j l = (l.total ≤ 5099490 * l.j)
    × ((tree : List ℕ) → l.total ≡ sum (length_in l.n l.c l.root l.top tree l.matrix l.lows l.highs l.lengths) (from 1 l.j))
