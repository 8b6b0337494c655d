-- `stray_entry` finds the lowest stray entry: none of the entries passed is stray.
use Rattle.refusals.specs.Search.{Never}
use Rattle.faults.specs.Faults.{StrayEntry}
use Rattle.faults.proofs.stray_entry.Given as goal

abbrev pub invariant-loop-k : goal.invariant-loop-k
invariant-loop-k l = Never (StrayEntry l.n l.tree l.root) l.k
