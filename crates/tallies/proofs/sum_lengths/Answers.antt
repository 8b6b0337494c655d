-- `sum_lengths`: a stretch is n-2 entries wide and holds the top's entry, and a length is small; a turn adds one character more.
use native.Mathlib.Omega.{arith}
use Prim.Native.Nat.{◌≤◌}
use Rattle.tallies.proofs.Counting.{has-top, one-small, one_more}
use Rattle.tallies.proofs.sum_lengths.Goals as goal
use Rattle.tallies.proofs.sum_lengths.Goals.{After-length_here-total}

small : (c : After-length_here-total) → c.length_here-total.result ≤ 5099490
small c =
    one-small _ _ _ _ c.args.matrix.now c.args.lows.now c.args.highs.now c.args.lengths.now c.requires _
    c.loop-j-test.true _ (omega arith) c.length_here-total.result c.length_here-total.ensures

pub length_here-total-requires : goal.length_here-total-requires
length_here-total-requires c =
    has-top _ _ _ _ c.args.matrix.now c.args.lows.now c.args.highs.now c.args.lengths.now c.requires _
    c.loop-j-test.true _ (omega arith)

pub overflow_add-total : goal.overflow_add-total
overflow_add-total c =
    omega (
      arith,
      small (goal.at.overflow_add-total c).After-length_here-total,
      c.loop-j.invariant.0,
      c.loop-j-test.true,
      c.requires.given.lists.few,
    )

pub loop-j-preserved : goal.loop-j-preserved
loop-j-preserved c = (
  omega (arith, small (goal.at.loop-j-preserved c).After-length_here-total, c.loop-j.invariant.0),
  one_more _ _ _ _ c.args.matrix.now c.args.lows.now c.args.highs.now c.args.lengths.now c.requires _
      c.loop-j-test.true _ (omega arith) c.length_here-total.result c.length_here-total.ensures _ c.loop-j.invariant.1,
)
