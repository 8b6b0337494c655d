-- `read_rows`: a row that is not in form ends the reading; one in form is stored, two bytes for each number at the least, and reading goes on behind
-- it.
use native.Mathlib.Omega.{arith}
use mathlib.Core.Path.{◌≡◌, sym, ap, ◌∙◌}
use Prim.Native.Nat.{◌+◌, ◌*◌, ◌≤◌}
use Rattle.std.specs.Prelude.{Err}
use Rattle.std.proofs.lemmas.Result.{err_from_is_err_and}
use lib.ListN.{length}
use Rattle.lines.specs.Printed.{row_key}
use Rattle.lines.specs.Lines.{Numbers, all, line_at, numbers_of}
use Rattle.lines.proofs.Laws.{rows_alike_more, rows_alike_wrong, rows_alike_end}
use Rattle.lines.proofs.Laws.{line-good, line_bad, rows_bad, rows_more, rows_end}
use Rattle.lines.proofs.Reach.{line-reach}
use Rattle.lines.proofs.Results.{ok_some, ok_none}
use Rattle.lines.proofs.read_rows.Goals as goal
use Rattle.lines.proofs.read_rows.Goals.{In_ok-next}

-- the row at this position, as it is read
abbrev read : In_ok-next → Numbers
read c = line_at c.args.text.now row_key c.args.width c.loop-k.next

good : (c : In_ok-next) → read c ≡ all (numbers_of (read c)) c.in_ok-next.next
good c = line-good (read c) _ (sym (ok_some _ _ _ c.in_ok-next.ensures.value) ∙ c.read_line.ensures.told)

long : (c : In_ok-next) → (length (numbers_of (read c)) ≡ c.args.width)
    × (c.loop-k.next + 2 * c.args.width ≤ c.in_ok-next.next)
    × (c.in_ok-next.next ≤ length c.args.text.now)
long c = line-reach _ _ _ _ c.requires.3 _ _ (good c)

pub returns-in_err-next : goal.returns-in_err-next
returns-in_err-next c =
    let (l, e, same) = err_from_is_err_and c.from_residual.result c.from_residual.ensures.1 in
    let (none, line) = ok_none _ _ _ c.in_err-next.ensures.value in
    rows_alike_wrong _ _ _ _ _ c.loop-k.put _ _ _ _ c.loop-k.invariant.0
    (rows_bad _ _ _ _ _ _ (omega arith) (line_bad _ (sym none ∙ c.read_line.ensures.told))) c.read_line.ensures.list
    (e ∙ ap Err (same ∙ line))

pub overflow_add-put : goal.overflow_add-put
overflow_add-put c = omega (arith, long (goal.at.overflow_add-put c).In_ok-next, c.loop-k.invariant.1, c.requires.1)

pub loop-k-preserved : goal.loop-k-preserved
loop-k-preserved c = (
  rows_alike_more _ _ _ _ _ c.loop-k.put _ _ _ _ c.loop-k.invariant.0
      (rows_more _ _ _ _ _ _ _ _ _ (omega arith) (omega arith) (good (goal.at.loop-k-preserved c).In_ok-next))
      (long (goal.at.loop-k-preserved c).In_ok-next).0
      c.read_line.ensures.list,
  omega (arith, long (goal.at.loop-k-preserved c).In_ok-next, c.loop-k.invariant.1),
  omega (arith, long (goal.at.loop-k-preserved c).In_ok-next, c.requires.1),
)

pub returns : goal.returns
returns c = rows_alike_end _ _ _ _ _ c.loop-k.put _ c.loop-k.invariant.0 (rows_end _ _ _ _ _ (omega arith))
