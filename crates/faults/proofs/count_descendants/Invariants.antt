-- `count_descendants` counts the descendants of each node: after k entries, entry v is how many of them are v.
use mathlib.Core.Path.{◌≡◌}
use lib.ListN.{length}
use Rattle.faults.proofs.Counting.{CountsTo}
use Rattle.faults.proofs.count_descendants.Given as goal

abbrev pub invariant-loop-entry : goal.invariant-loop-entry
invariant-loop-entry l = (length l.counts ≡ 511) × CountsTo l.tree l.entry-index l.counts
