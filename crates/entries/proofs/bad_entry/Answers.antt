-- `bad_entry`: a character is looked at in its own stretch, which is n-2 entries wide; the first bad entry found is the first of all.
use native.Mathlib.Omega.{arith}
use Rattle.entries.proofs.Searching.{entry_found}
use Rattle.entries.proofs.bad_entry.Goals as goal

pub returns-in-Some : goal.returns-in-Some
returns-in-Some c =
    entry_found _ _ c.args.lows.now c.args.highs.now c.args.lengths.now c.requires _ c.loop-j-test.true _
    (omega arith) c.loop-j.invariant _ c.bad_node.ensures _ c.in-Some.is
