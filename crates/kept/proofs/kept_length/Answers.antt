-- `kept_length` makes the checks, and then adds.
use Rattle.std.proofs.lemmas.Result.{err_from_is_err_and}
use Rattle.histories.specs.Kept.{Table}
use Rattle.kept.proofs.Calling.{length-refused, totals, has-lengths}
use Rattle.kept.proofs.kept_length.Goals as goal
use Rattle.kept.proofs.kept_length.Goals.{Start}

-- the table as it came
abbrev table : Start → Table
table c = record { lows = c.args.lows.now; highs = c.args.highs.now; lengths = c.args.lengths.now }

pub sum_or-requires : goal.sum_or-requires
sum_or-requires c =
    totals _ _ c.args.tree.now c.args.matrix.now (table (goal.at.sum_or-requires c).Start) _ c.in_ok-rooted.ensures _ _
    c.from-root.ensures c.from-top.ensures

pub returns-in_err-rooted : goal.returns-in_err-rooted
returns-in_err-rooted c =
    let p = err_from_is_err_and c.from_residual.result c.from_residual.ensures.1 in
    rw (p.1, p.2) (length-refused _ _ c.args.tree.now c.args.matrix.now (table (goal.at.returns-in_err-rooted c).Start) _ c.in_err-rooted.ensures)

pub returns : goal.returns
returns c =
    has-lengths _ _ c.args.tree.now c.args.matrix.now (table (goal.at.returns c).Start) _ c.in_ok-rooted.ensures _ _
    c.from-root.ensures c.from-top.ensures c.sum_or.result c.sum_or.ensures
