-- `count_descendants`: the counts begin with zeros; an entry is a node of the table, so it has a count, and no count is above the entries passed.
use mathlib.Core.Path.{refl}
use native.Mathlib.Omega.{arith}
use Prim.Native.Nat.{◌≤◌}
use lib.ListN.{length-set}
use Rattle.faults.proofs.Counting.{cleared, counts-none, entry-small, seen_few, counts-more, counts_all}
use Rattle.faults.proofs.count_descendants.Goals as goal
use Rattle.faults.proofs.count_descendants.Goals.{After-from}

pub loop-entry-init : goal.loop-entry-init
loop-entry-init c = (refl, counts-none c.args.tree.now _ cleared)

-- the entry is a node
small : (c : After-from) → c.from.result ≤ 510
small c = entry-small c.args.tree.now c.requires _ _ c.from.ensures

pub bounds-counts-from : goal.bounds-counts-from
bounds-counts-from c = omega (arith, small (goal.at.bounds-counts-from c).After-from)

pub overflow_add-counts : goal.overflow_add-counts
overflow_add-counts c =
    omega (
      arith,
      c.loop-entry.invariant.1 c.from.result (small (goal.at.overflow_add-counts c).After-from),
      seen_few c.args.tree.now c.loop-entry.entry-index c.from.result,
      c.requires.few,
    )

pub bounds-counts-from-in-loop-entry : goal.bounds-counts-from-in-loop-entry
bounds-counts-from-in-loop-entry c = omega (arith, small (goal.at.bounds-counts-from-in-loop-entry c).After-from)

pub loop-entry-preserved : goal.loop-entry-preserved
loop-entry-preserved c = (
  simp length-set c.loop-entry.invariant.0,
  counts-more c.args.tree.now _ _ c.loop-entry.counts c.loop-entry.invariant.0
      c.from.ensures (small (goal.at.loop-entry-preserved c).After-from) c.loop-entry.invariant.1,
)

pub returns : goal.returns
returns c = counts_all c.args.tree.now _ c.loop-entry.counts (omega arith) c.requires.few c.loop-entry.invariant.1
