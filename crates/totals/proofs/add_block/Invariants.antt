-- `add_block` adds one length after the other.
use mathlib.Core.Path.{◌≡◌}
use Prim.Native.Nat.{◌+◌, ◌*◌, ◌≤◌}
use Rattle.totals.specs.Totals.{added}
use Rattle.totals.proofs.add_block.Given as goal

abbrev pub invariant-loop-i : goal.invariant-loop-i
invariant-loop-i l =
    (l.total ≡ added l.root l.top l.w l.block.lows l.block.highs l.block.lengths l.sum l.i) × (l.total ≤ 1305469440 + 2549745 * l.i)
