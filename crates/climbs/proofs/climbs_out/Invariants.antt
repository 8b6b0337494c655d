-- `climbs_out` tells whether the way up from k leads to the root. The invariant: the way so far does not pass the root, and its nodes have the mark
-- k; the other marks are as they were. The measure is the number of nodes without a mark.
use Rattle.climbs.proofs.Rounds.{blanks, OnWay}
use Rattle.climbs.proofs.climbs_out.Given as goal

abbrev pub invariant-loop-at : goal.invariant-loop-at
invariant-loop-at l = OnWay l.root l.tree l.k l.initial.marks l.at l.marks

abbrev pub decreases-loop-at : goal.decreases-loop-at
decreases-loop-at l = blanks l.marks
