-- `sum_blocks`: a block that has passed can be added, and the sum is then that of its characters too; at the end it is that of all.
use native.Mathlib.Omega.{arith}
use Rattle.totals.proofs.Blocks.{sums_at, passable, sums_all, adds, sums_on}
use Rattle.totals.proofs.sum_blocks.Goals as goal

pub first_pass-requires : goal.first_pass-requires
first_pass-requires c = passable (sums_at (omega arith) c.loop-done.invariant) c.width-w.ensures c.requires

pub add_block-sum-requires : goal.add_block-sum-requires
add_block-sum-requires c = adds (sums_at (omega arith) c.loop-done.invariant) c.width-w.ensures c.requires c.first_pass.ensures

pub loop-done-preserved : goal.loop-done-preserved
loop-done-preserved c =
    let S = sums_at {k' = c.loop-done.done} (omega arith) c.loop-done.invariant in
    sums_at (omega arith) (sums_on S c.width-w.ensures c.requires c.first_pass.ensures c.add_block-sum.ensures)

pub returns : goal.returns
returns c = sums_all c.loop-done.invariant (omega arith)

pub returns-2 : goal.returns-2
returns-2 c =
    let S = sums_at {k' = c.loop-done.done} (omega arith) c.loop-done.invariant in
    sums_all (sums_on S c.width-w.ensures c.requires c.first_pass.ensures c.add_block-sum.ensures) (omega arith)
