-- `admit_table` makes the checks in their order.
use mathlib.Core.List.{[], ◌∷◌}
use Rattle.refusals.proofs.Laws.{told_not}
use Rattle.limits.specs.Limits.{Outside, matrix_slice, lent_slices, Told, InLimits}
use Rattle.limits.proofs.Lending.{in_limits}
use Rattle.checks.proofs.Orders.{admissible}
use Rattle.histories.specs.Kept.{three}
use Rattle.kept.proofs.Calling.{table-admits}
use Rattle.kept.proofs.admit_table.Goals as goal
use Rattle.kept.proofs.admit_table.Goals.{After-lend-from1, Else-outside}

limits : (c : Else-outside) → InLimits c.args.n c.args.c
limits c = in_limits _ _ (told_not (Outside c.args.n c.args.c) _ c.outside.ensures c.if-outside.false)

told-all : (c : After-lend-from1) → Told 1 (lent_slices c.args.n c.args.c c.args.tree.now c.args.matrix.now
    (three c.args.n c.args.c c.args.third c.args.fourth c.args.fifth)) c.lend-from1.result
told-all c =
    let rest = three c.args.n c.args.c c.args.third c.args.fourth c.args.fifth in
    c.lend-from1.ensures (matrix_slice c.args.n c.args.c c.args.matrix.now ∷ rest) (c.lend-from2.ensures rest (c.lend_table-from3.ensures [] tt))

pub admit_matrix-requires : goal.admit_matrix-requires
admit_matrix-requires c =
    let at = goal.at.admit_matrix-requires c in
    admissible _ _ c.args.tree.now c.args.matrix.now (three c.args.n c.args.c c.args.third c.args.fourth c.args.fifth)
    (limits at.Else-outside) _ (told-all at.After-lend-from1)

pub returns : goal.returns
returns c =
    let at = goal.at.returns c in
    table-admits _ _ c.args.tree.now c.args.matrix.now c.args.third c.args.fourth c.args.fifth (limits at.Else-outside)
    c.lend-from1.result (told-all at.After-lend-from1) c.admit_matrix.result c.admit_matrix.ensures
