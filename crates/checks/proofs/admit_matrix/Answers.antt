-- `admit_matrix` makes the checks that come after the sizes, one after the other: a wrong slice, a tree that is refused, or cells that are.
use Rattle.std.proofs.lemmas.Result.{err_from_is_err_and}
use Rattle.checks.specs.Calls.{all_checks}
use Rattle.checks.proofs.Admitting.{slice_refuses, tree_refuses, cells_refuse}
use Rattle.checks.proofs.admit_matrix.Goals as goal

pub returns-in-Some : goal.returns-in-Some
returns-in-Some c =
    let cs = all_checks c.args.n c.args.c c.args.matrix.now in
    rw c.refuse.ensures (slice_refuses _ c.args.tree.now cs _ _ c.in-Some.is)

pub returns-in_err-rooted : goal.returns-in_err-rooted
returns-in_err-rooted c =
    let cs = all_checks c.args.n c.args.c c.args.matrix.now in
    let p = err_from_is_err_and c.from_residual.result c.from_residual.ensures.1 in
    rw (p.1, p.2) (tree_refuses _ c.args.tree.now cs _ c.in_default.is _ c.in_err-rooted.ensures)

pub returns-in_err-admit_all : goal.returns-in_err-admit_all
returns-in_err-admit_all c =
    let cs = all_checks c.args.n c.args.c c.args.matrix.now in
    let r = c.from_residual-in_err-admit_all in
    let p = err_from_is_err_and r.result r.ensures.1 in
    rw (p.1, p.2) (cells_refuse _ c.args.tree.now _ _ c.in_ok-rooted.ensures cs _ c.in_default.is _ c.in_err-admit_all.ensures)
