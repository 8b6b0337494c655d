-- `read_sheet`: what the scan lists fits the two slices, so it can be copied into them, and what then stands there is what is promised.
use native.Mathlib.Omega.{arith}
use mathlib.Core.Path.{sym, ap, ◌∙◌}
use Prim.Native.Nat.{ℕ, ◌+◌, ◌-◌, ◌*◌, ◌≤◌}
use lib.Seq.{length-take-le}
use Rattle.sheets.proofs.Copying.{held_room, copied}
use Rattle.sheets.proofs.read_sheet.Goals as goal
use Rattle.sheets.proofs.read_sheet.Goals.{After-from-c}

-- the entries and the cells have their room in the list
room : (c : After-from-c) → 2 * c.from-n.result - 2 + c.from-n.result * c.from-c.result ≤ 16384
room c = rw (c.from-n.ensures, c.from-c.ensures) (held_room _ _ _ _ _ c.in_ok-head.ensures)

pub slice_bounds-copy_from_slice-end-4 : goal.slice_bounds-copy_from_slice-end-4
slice_bounds-copy_from_slice-end-4 c = omega (arith, room (goal.at.slice_bounds-copy_from_slice-end-4 c).After-from-c)

pub slice_bounds-copy_from_slice-end-5 : goal.slice_bounds-copy_from_slice-end-5
slice_bounds-copy_from_slice-end-5 c =
    sym (length-take-le _ _ (omega (arith, room (goal.at.slice_bounds-copy_from_slice-end-5 c).After-from-c)))

pub slice_bounds-copy_from_slice-end-6 : goal.slice_bounds-copy_from_slice-end-6
slice_bounds-copy_from_slice-end-6 c =
    omega (arith, room (goal.at.slice_bounds-copy_from_slice-end-6 c).After-from-c, c.scan.array_long)

pub returns : goal.returns
returns c =
    copied _ _ _ _ _ c.in_ok-head.ensures _ _ _ _ _ _ (omega arith) (omega arith)
    (ap (λ (m : ℕ). 2 * m - 2) c.from-n.ensures)
    (ap (λ (m : ℕ). m * c.from-c.result) c.from-n.ensures ∙ ap (λ (m : ℕ). c.in_ok-head.head.n * m) c.from-c.ensures)
    c.copy_from_slice.ensures.after c.copy_from_slice-2.ensures.after
