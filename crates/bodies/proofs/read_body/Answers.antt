-- `read_body` reads the ancestors, the rows and the last line. Each return hands what was read so far to a law of what the text then is.
use native.Mathlib.Omega.{arith}
use mathlib.Core.Path.{ap, subst, ◌∙◌}
use Prim.Native.Nat.{◌+◌, ◌-◌, ◌*◌}
use lib.ListN.{drop}
use Rattle.std.specs.Prelude.{Some, None, Ok, Err}
use Rattle.std.proofs.lemmas.Result.{err_from_is_err_and}
use Rattle.lines.specs.Lines.{line_at, rows_at, Stored, StoredRows}
use Rattle.lines.proofs.Results.{ok_some, ok_none, map_ok, map_err, stored_as, rows_stored_as}
use Rattle.forms.specs.Sheets.{ancestors_key}
use Rattle.bodies.specs.Scanned.{Ends}
use Rattle.bodies.proofs.Storing.{refused_as, wrong_third, third_end, wrong_row, rows_end, wrong_end, done}
use Rattle.bodies.proofs.read_body.Goals as goal
use Rattle.bodies.proofs.read_body.Goals.{In_ok-after_tree, In_ok-after_rows, After-read_end}

-- the line of the ancestors is in form, and stored
tree : (c : In_ok-after_tree) → Stored (line_at c.args.text.now ancestors_key (2 * c.args.n - 2) c.args.at) c.args.out.now 0
    (Some c.in_ok-after_tree.after_tree) c.read_line-third.new.out
tree c = stored_as (ok_some _ _ _ c.in_ok-after_tree.ensures.value) (rw c.from-taxa.ensures at c.read_line-third.ensures)

-- and so are the rows
rows : (c : In_ok-after_rows) → StoredRows (rows_at c.args.text.now c.args.c c.args.n 4 c.in_ok-after_tree.after_tree) c.read_line-third.new.out
    (2 * c.args.n - 2) (Ok c.in_ok-after_rows.after_rows) c.read_rows-rest.new.out
rows c = rows_stored_as (map_ok _ _ _ c.in_ok-after_rows.ensures.cases) (rw (c.from-taxa.ensures, c.from.ensures) at c.read_rows-rest.ensures)

-- what stands after them
end : (c : After-read_end) → Ends (drop c.in_ok-after_rows.after_rows c.args.text.now) (4 + c.args.n) c.read_end.result
end c = rw c.from-2.ensures at c.read_end.ensures

pub returns-in_err-after_tree : goal.returns-in_err-after_tree
returns-in_err-after_tree c =
    let (H, W, short, long) = c.requires in
    let (q, e, same) = err_from_is_err_and c.from_residual.result c.from_residual.ensures.1 in
    let (none, form) = ok_none _ _ _ c.in_err-after_tree.ensures.value in
    refused_as _ _ _ _ (e ∙ ap Err (same ∙ form ∙ c.not_in_form.ensures))
    (wrong_third H W short (stored_as none (rw c.from-taxa.ensures at c.read_line-third.ensures))) c.read_line-third.array_long

pub read_rows-rest-requires : goal.read_rows-rest-requires
read_rows-rest-requires c =
    let (H, W, short, long) = c.requires in
    omega (arith, third_end H W short (tree (goal.at.read_rows-rest-requires c).In_ok-after_tree), H.inside, W, short)

pub returns-in_err-after_rows : goal.returns-in_err-after_rows
returns-in_err-after_rows c =
    let (H, W, short, long) = c.requires in
    let (q, e, same) = err_from_is_err_and c.from_residual-in_err-after_rows.result c.from_residual-in_err-after_rows.ensures.1 in
    let (l, wrong, form) = map_err _ c.read_rows-rest.result c.in_err-after_rows.field-0.0 _ c.in_err-after_rows.ensures.cases in
    refused_as _ _ _ _ (e ∙ ap Err (same ∙ form))
    (wrong_row H W short (tree (goal.at.returns-in_err-after_rows c).In_ok-after_tree)
    (rows_stored_as wrong (rw (c.from-taxa.ensures, c.from.ensures) at c.read_rows-rest.ensures))) c.read_rows-rest.array_long

pub read_end-requires : goal.read_end-requires
read_end-requires c =
    let (H, W, short, long) = c.requires in (
      rows_end H W short (tree (goal.at.read_end-requires c).In_ok-after_tree) (rows (goal.at.read_end-requires c).In_ok-after_rows),
      short,
      omega (arith, W.most_taxa),
    )

pub returns-in_err-last : goal.returns-in_err-last
returns-in_err-last c =
    let (H, W, short, long) = c.requires in
    let (q, e, same) = err_from_is_err_and c.from_residual-in_err-last.result c.from_residual-in_err-last.ensures.1 in
    let (l, wrong, form) = map_err _ c.read_end.result c.in_err-last.field-0.0 _ c.in_err-last.ensures.cases in
    refused_as _ _ _ _ (e ∙ ap Err (same ∙ form))
    (wrong_end H W short (tree (goal.at.returns-in_err-last c).In_ok-after_tree) (rows (goal.at.returns-in_err-last c).In_ok-after_rows)
    (subst (Ends _ _) wrong (end (goal.at.returns-in_err-last c).After-read_end))) c.read_rows-rest.array_long

pub returns-in-Some : goal.returns-in-Some
returns-in-Some c =
    let (H, W, short, long) = c.requires in
    let e = map_ok _ c.read_end.result _ c.in_ok-last.ensures.cases in
    done H W short (tree (goal.at.returns-in-Some c).In_ok-after_tree) (rows (goal.at.returns-in-Some c).In_ok-after_rows) long
    (Some c.in-Some.resolve) (subst (Ends _ _) (e ∙ ap Ok c.in-Some.is) (end (goal.at.returns-in-Some c).After-read_end))

pub returns-in-None : goal.returns-in-None
returns-in-None c =
    let (H, W, short, long) = c.requires in
    let e = map_ok _ c.read_end.result _ c.in_ok-last.ensures.cases in
    done H W short (tree (goal.at.returns-in-None c).In_ok-after_tree) (rows (goal.at.returns-in-None c).In_ok-after_rows) long None
    (subst (Ends _ _) (e ∙ ap Ok c.in-None.is) (end (goal.at.returns-in-None c).After-read_end))
