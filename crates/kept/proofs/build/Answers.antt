-- `build` makes the checks, and then fills the table.
use mathlib.Core.Path.{refl}
use Rattle.std.specs.Prelude.{None}
use Rattle.std.proofs.lemmas.Result.{err_from_is_err_and}
use Rattle.characters.proofs.Calling.{given-all}
use Rattle.histories.specs.Kept.{Table, table_slices}
use Rattle.kept.proofs.Calling.{long-all, passes-all}
use Rattle.kept.proofs.build.Goals as goal
use Rattle.kept.proofs.build.Goals.{Start}

-- the table as it came
abbrev table : Start → Table
table c = record { lows = c.args.lows.now; highs = c.args.highs.now; lengths = c.args.lengths.now }

pub returns-in_err-rooted : goal.returns-in_err-rooted
returns-in_err-rooted c =
    let p = err_from_is_err_and c.from_residual.result c.from_residual.ensures.1 in
    rw (p.1, p.2) (c.in_err-rooted.ensures, refl)

pub fill_table-requires : goal.fill_table-requires
fill_table-requires c =
    let T = table (goal.at.fill_table-requires c).Start in
    let A = c.in_ok-rooted.ensures in (
      rw (c.from-root.ensures, c.from-top.ensures)
          (given-all _ _ c.args.tree.now c.args.matrix.now (table_slices c.args.n c.args.c T) A.0 None A.1 _ A.2),
      long-all _ _ c.args.tree.now c.args.matrix.now T _ A,
    )

pub returns : goal.returns
returns c = (
  passes-all _ _ c.args.tree.now c.args.matrix.now (table (goal.at.returns c).Start) _ c.in_ok-rooted.ensures,
  c.fill_table.ensures,
)
