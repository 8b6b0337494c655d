-- `put_report` scores all characters, and writes the lines for the tree and for each of them, or the line of the refusal.
use Prim.Native.Nat.{◌-◌, ◌*◌}
use native.Mathlib.Omega.{arith}
use Rattle.fields.proofs.Room.{fitting-rest}
use Rattle.summaries.specs.Report.{tree_lines}
use Rattle.summaries.specs.Rooms.{tree_room}
use Rattle.layouts.specs.Rooms.{character_room}
use Rattle.turns.proofs.Proper.{indexed_tree}
use Rattle.turns.proofs.Ready.{ready}
use Rattle.turns.proofs.Writing.{characters-room}
use Rattle.reports.proofs.Telling.{whole-report, whole-refused}
use Rattle.reports.proofs.put_report.Goals as goal

pub put_tree-next-requires : goal.put_tree-next-requires
put_tree-next-requires c =
    let A = c.in-Ok.ensures in
    (indexed_tree _ _ _ _ A.ρ A.δ A.accepted.is_tree _ A.means, omega (arith, c.requires.1))

pub put_characters-requires : goal.put_characters-requires
put_characters-requires c =
    let h = c.args.head in
    let Z = c.requires.0 in
    let room = characters-room h.n h.c Z.limits.least Z.limits.few Z.few in (
      ready h.n h.c _ _ c.in-Ok.scores (rw (c.from-n.ensures, c.from-c.ensures) at c.in-Ok.ensures),
      fitting-rest _ _ 0 _ (tree_lines h.n h.c c.in-Ok.scores h.resolve) tree_room (h.c * character_room (h.n - 2))
          c.put_tree-next.ensures (omega (arith, c.requires.1, room)),
    )

pub returns-in-Ok : goal.returns-in-Ok
returns-in-Ok c =
    whole-report c.requires.0 (rw (c.from-n.ensures, c.from-c.ensures) at c.in-Ok.ensures) c.put_tree-next.ensures c.put_characters.ensures

pub returns-in-Err : goal.returns-in-Err
returns-in-Err c =
    whole-refused c.in-Err.refused (rw (c.from-n.ensures, c.from-c.ensures) at c.in-Err.ensures)
    (rw (← c.from-number.ensures) c.put_refusal.ensures)
