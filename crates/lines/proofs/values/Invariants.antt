-- `values` reads and stores as `values_at` says. The invariant: what is still to be read, stored from here on, gives what all of it gives; and a
-- number takes two bytes, so half the text is room enough.
use Prim.Native.Nat.{◌+◌, ◌-◌, ◌*◌, ◌≤◌}
use Rattle.lines.specs.Lines.{values_at}
use Rattle.lines.proofs.Laws.{Alike}
use Rattle.lines.proofs.values.Given as goal

abbrev pub invariant-loop-k : goal.invariant-loop-k
invariant-loop-k l = Alike (values_at l.text l.count l.at) l.initial.out l.from (values_at l.text (l.count - l.k) l.next) l.out (l.from + l.k)
    × (2 * (l.from + l.k) ≤ l.next)
