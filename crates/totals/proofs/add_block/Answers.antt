-- `add_block`: a length is at most 9999 for each of 255 branches, so the sum fits; a turn adds one character more.
use native.Mathlib.Omega.{arith}
use Prim.Native.Nat.{◌+◌}
use Rattle.parsimony.proofs.Sums.{sum_next}
use Rattle.entry_lists.specs.EntryLists.{length_at}
use Rattle.totals.proofs.add_block.Goals as goal

pub loop-i-preserved : goal.loop-i-preserved
loop-i-preserved c =
    let small = c.requires.small (c.loop-i.i + 1) (omega arith) (omega arith) in
    let next = sum_next (λ i. length_at c.args.root c.args.top c.args.w i c.args.block.now.lows c.args.block.now.highs c.args.block.now.lengths)
    c.loop-i.i in
    (omega (arith, c.loop-i.invariant.0, c.length_of-total.ensures, next), omega (arith, small, c.length_of-total.ensures, c.loop-i.invariant.1))
