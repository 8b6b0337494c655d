-- `correct` makes the checks in their order, and then corrects the stretch of the character.
use mathlib.Core.Path.{refl}
use mathlib.Core.List.{[], ◌∷◌}
use Rattle.refusals.proofs.Laws.{told_not}
use Rattle.limits.specs.Limits.{Outside, matrix_slice, lent_slices, Told, InLimits}
use Rattle.limits.proofs.Lending.{in_limits}
use Rattle.checks.proofs.Orders.{admissible}
use Rattle.histories.specs.Kept.{Table, table_slices}
use Rattle.kept.proofs.Calling.{correct_refused, correctable_in, corrects}
use Rattle.kept.proofs.correct.Goals as goal
use Rattle.kept.proofs.correct.Goals.{After-lend-from1, Else-outside, Start}

limits : (c : Else-outside) → InLimits c.args.n c.args.c
limits c = in_limits _ _ (told_not (Outside c.args.n c.args.c) _ c.outside.ensures c.if-outside.false)

-- the table as it came
abbrev table : Start → Table
table c = record { lows = c.args.lows.now; highs = c.args.highs.now; lengths = c.args.lengths.now }

told-all : (c : After-lend-from1) → Told 1 (lent_slices c.args.n c.args.c c.args.tree.now c.args.matrix.now
    (table_slices c.args.n c.args.c (record { lows = c.args.lows.now; highs = c.args.highs.now; lengths = c.args.lengths.now }))) c.lend-from1.result
told-all c =
    let rest = table_slices c.args.n c.args.c (record { lows = c.args.lows.now; highs = c.args.highs.now; lengths = c.args.lengths.now }) in
    c.lend-from1.ensures (matrix_slice c.args.n c.args.c c.args.matrix.now ∷ rest) (c.lend-from2.ensures rest (c.lend_table-from3.ensures [] tt))

pub admit_character-requires : goal.admit_character-requires
admit_character-requires c =
    let at = goal.at.admit_character-requires c in
    admissible _ _ c.args.tree.now c.args.matrix.now (table_slices c.args.n c.args.c (table at.Start))
    (limits at.Else-outside) _ (told-all at.After-lend-from1)

pub returns-in-Err : goal.returns-in-Err
returns-in-Err c =
    let at = goal.at.returns-in-Err c in (
      correct_refused _ _ c.args.taxon c.args.character c.args.state c.args.tree.now c.args.matrix.now (table at.Start)
          (limits at.Else-outside) _ (told-all at.After-lend-from1) _ c.wanted-looked.ensures c.in-Err.refusal c.in-Err.ensures,
      refl,
      refl,
    )

pub correct_in-requires : goal.correct_in-requires
correct_in-requires c =
    let at = goal.at.correct_in-requires c in
    correctable_in _ _ c.args.taxon c.args.character c.args.state c.args.tree.now c.args.matrix.now (table at.Start)
    (limits at.Else-outside) _ (told-all at.After-lend-from1) _ c.wanted-looked.ensures _ c.in-Ok.ensures

pub returns-in-Ok : goal.returns-in-Ok
returns-in-Ok c =
    let at = goal.at.returns-in-Ok c in
    corrects _ _ c.args.taxon c.args.character c.args.state c.args.tree.now c.args.matrix.now (table at.Start)
    (limits at.Else-outside) _ (told-all at.After-lend-from1) _ c.wanted-looked.ensures _ c.in-Ok.ensures
    _ _ c.correct_in.result c.correct_in.ensures
