-- `put_more_ranges` writes a comma and a range at each turn. The invariant: what is still to be written, written from here on, gives what all of it
-- gives, and has its room.
use Rattle.listings.proofs.Ranges.{Writing}
use Rattle.listings.proofs.put_more_ranges.Given as goal

abbrev pub invariant-loop-k : goal.invariant-loop-k
invariant-loop-k l = Writing l.initial.out l.at l.lows l.highs l.out l.next l.k
