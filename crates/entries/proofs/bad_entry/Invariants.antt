-- `bad_entry` looks at one character after the other. The invariant: none so far has a bad entry.
use Prim.Native.Nat.{ℕ, ◌-◌, ◌*◌, ◌≤◌}
use Rattle.refusals.specs.Search.{Never}
use Rattle.entries.specs.Entries.{BadIn}
use Rattle.entries.proofs.bad_entry.Given as goal

abbrev pub invariant-loop-j : goal.invariant-loop-j
invariant-loop-j l = (i : ℕ) → 1 ≤ i → i ≤ l.j → Never (BadIn l.n l.lows l.highs l.lengths i) (2 * l.n - 2)
