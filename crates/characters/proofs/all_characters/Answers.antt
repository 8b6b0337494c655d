-- `all_characters` makes the checks in their order, and then the sums.
use mathlib.Core.List.{[], ◌∷◌}
use Rattle.std.proofs.lemmas.Result.{err_from_is_err_and}
use Rattle.limits.specs.Limits.{matrix_slice, lent_slices, Told, InLimits}
use Rattle.limits.proofs.Lending.{in_limits}
use Rattle.checks.proofs.Orders.{admissible}
use Rattle.characters.proofs.Calling.{all-refused, given-all, all-scored}
use Rattle.characters.proofs.all_characters.Goals as goal
use Rattle.characters.proofs.all_characters.Goals.{After-lend-from1, Else-outside}

limits : (c : Else-outside) → InLimits c.args.n c.args.c
limits c = in_limits _ _ c.if-outside.ensures

told-all : (c : After-lend-from1) → Told 1 (lent_slices c.args.n c.args.c c.args.tree.now c.args.matrix.now []) c.lend-from1.result
told-all c = c.lend-from1.ensures (matrix_slice c.args.n c.args.c c.args.matrix.now ∷ []) (c.lend-from2.ensures [] tt)

pub admit_matrix-requires : goal.admit_matrix-requires
admit_matrix-requires c =
    let at = goal.at.admit_matrix-requires c in
    admissible c.args.n c.args.c c.args.tree.now c.args.matrix.now [] (limits at.Else-outside) _ (told-all at.After-lend-from1)

pub score_all-requires : goal.score_all-requires
score_all-requires c =
    let at = goal.at.score_all-requires c in
    given-all c.args.n c.args.c c.args.tree.now c.args.matrix.now [] (limits at.Else-outside) c.lend-from1.result
    (told-all at.After-lend-from1) _ c.in_ok-rooted.ensures

pub returns-in_err-rooted : goal.returns-in_err-rooted
returns-in_err-rooted c =
    let at = goal.at.returns-in_err-rooted c in
    let p = err_from_is_err_and c.from_residual.result c.from_residual.ensures.1 in
    rw (p.1, p.2) (all-refused c.args.n c.args.c c.args.tree.now c.args.matrix.now (limits at.Else-outside) c.lend-from1.result
    (told-all at.After-lend-from1) _ c.in_err-rooted.ensures)

pub returns : goal.returns
returns c =
    let at = goal.at.returns c in
    all-scored c.args.n c.args.c c.args.tree.now c.args.matrix.now (limits at.Else-outside) c.lend-from1.result
    (told-all at.After-lend-from1) _ c.in_ok-rooted.ensures _ c.score_all.ensures
