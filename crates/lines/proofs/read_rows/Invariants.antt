-- `read_rows` reads and stores as `rows_at` says. The invariant: the rows still to be read, stored from here on, give what all of them give.
use Prim.Native.Nat.{◌+◌, ◌-◌, ◌*◌, ◌≤◌}
use Rattle.lines.specs.Lines.{rows_at}
use Rattle.lines.proofs.Laws.{AlikeRows}
use Rattle.lines.proofs.read_rows.Given as goal

abbrev pub invariant-loop-k : goal.invariant-loop-k
invariant-loop-k l = AlikeRows (rows_at l.text l.width l.count l.first l.at) l.initial.out l.from
    (rows_at l.text l.width (l.count - l.k) (l.first + l.k) l.next) l.out l.put × (2 * l.put ≤ l.next) × (l.next ≤ 32768)
