-- `lend_table` looks at three slices, the last first.
use mathlib.Core.List.{◌∷◌}
use Prim.Native.Nat.{◌-◌, ◌*◌}
use Rattle.refusals.specs.Checks.{Slice}
use Rattle.kept.proofs.lend_table.Goals as goal

pub returns : goal.returns
returns c =
    λ ss h.
    let fourth : Slice = record { has = c.args.fourth; asked = (c.args.n - 2) * c.args.c } in
    let fifth : Slice = record { has = c.args.fifth; asked = (c.args.n - 2) * c.args.c } in
    c.lend.ensures (fourth ∷ fifth ∷ ss) (c.lend-from4.ensures (fifth ∷ ss) (c.lend-from5.ensures ss h))
