-- `kept_character` makes the checks in their order, and then reads the stretch of the character.
use native.Mathlib.Omega.{arith}
use mathlib.Core.Path.{◌≡◌, refl}
use mathlib.Core.List.{[], ◌∷◌, ◌++◌}
use lib.ListN.{length}
use Prim.Native.Nat.{ℕ, ◌+◌, ◌-◌, ◌*◌}
use Rattle.std.proofs.lemmas.Result.{err_from_is_err_and}
use Rattle.refusals.proofs.Laws.{told_not}
use Rattle.limits.specs.Limits.{Outside, node_slice, matrix_slice, lent_slices, Told, InLimits}
use Rattle.limits.proofs.Lending.{in_limits}
use Rattle.checks.proofs.Orders.{admissible}
use Rattle.histories.specs.Kept.{Table, table_slices, kept_slices}
use Rattle.kept_characters.proofs.Calling.{kept-refused, kept-ends, readable, answers}
use Rattle.kept_characters.proofs.kept_character.Goals as goal
use Rattle.kept_characters.proofs.kept_character.Goals.{After-lend-from1, Else-outside, Start}

limits : (c : Else-outside) → InLimits c.args.n c.args.c
limits c = in_limits _ _ (told_not (Outside c.args.n c.args.c) _ c.outside.ensures c.if-outside.false)

-- the table as it came
abbrev table : Start → Table
table c = record { lows = c.args.lows.now; highs = c.args.highs.now; lengths = c.args.lengths.now }

told-all : (c : After-lend-from1) → Told 1 (lent_slices c.args.n c.args.c
    c.args.tree.now c.args.matrix.now (kept_slices c.args.n
    c.args.c (record { lows = c.args.lows.now; highs = c.args.highs.now; lengths = c.args.lengths.now }) c.args.final_lows.now
    c.args.final_highs.now)) c.lend-from1.result
told-all c =
    let from7 = node_slice c.args.n (length c.args.final_highs.now) ∷ [] in
    let from6 = node_slice c.args.n (length c.args.final_lows.now) ∷ from7 in
    let from3 =
    table_slices c.args.n c.args.c (record { lows = c.args.lows.now; highs = c.args.highs.now; lengths = c.args.lengths.now }) ++ from6 in
    c.lend-from1.ensures (matrix_slice c.args.n c.args.c c.args.matrix.now ∷ from3) (c.lend-from2.ensures from3
    (c.lend_table-from3.ensures from6 (c.lend-from6.ensures from7 (c.lend-from7.ensures [] tt))))

-- from one end of the stretch to the other
wide : (j n : ℕ) → (j - 1) * (n - 2) + (n - 2) - (j - 1) * (n - 2) ≡ n - 2
wide j n = omega arith

pub admit_character-requires : goal.admit_character-requires
admit_character-requires c =
    let at = goal.at.admit_character-requires c in
    admissible c.args.n c.args.c c.args.tree.now c.args.matrix.now
    (kept_slices c.args.n c.args.c (table at.Start) c.args.final_lows.now c.args.final_highs.now) (limits at.Else-outside) _
    (told-all at.After-lend-from1)

pub returns-in_err-rooted : goal.returns-in_err-rooted
returns-in_err-rooted c =
    let at = goal.at.returns-in_err-rooted c in
    let p = err_from_is_err_and c.from_residual.result c.from_residual.ensures.1 in
    rw (p.1, p.2) (
      kept-refused c.args.n c.args.c c.args.character c.args.tree.now c.args.matrix.now (table at.Start)
          c.args.final_lows.now c.args.final_highs.now (limits at.Else-outside)
          c.lend-from1.result (told-all at.After-lend-from1) _ c.in_err-rooted.ensures,
      refl,
      refl,
    )

pub slice_bounds-read_or-end : goal.slice_bounds-read_or-end
slice_bounds-read_or-end c =
    let at = goal.at.slice_bounds-read_or-end c in
    (kept-ends c.args.n c.args.c c.args.character c.args.tree.now c.args.matrix.now (table at.Start)
    c.args.final_lows.now c.args.final_highs.now (limits at.Else-outside) c.lend-from1.result (told-all at.After-lend-from1)
    c.in_ok-rooted.rooted.root c.in_ok-rooted.rooted.top c.in_ok-rooted.ensures).0

pub slice_bounds-read_or-end-2 : goal.slice_bounds-read_or-end-2
slice_bounds-read_or-end-2 c =
    let at = goal.at.slice_bounds-read_or-end-2 c in
    (kept-ends c.args.n c.args.c c.args.character c.args.tree.now c.args.matrix.now (table at.Start)
    c.args.final_lows.now c.args.final_highs.now (limits at.Else-outside) c.lend-from1.result (told-all at.After-lend-from1)
    c.in_ok-rooted.rooted.root c.in_ok-rooted.rooted.top c.in_ok-rooted.ensures).1

pub slice_bounds-read_or-end-3 : goal.slice_bounds-read_or-end-3
slice_bounds-read_or-end-3 c =
    let at = goal.at.slice_bounds-read_or-end-3 c in
    (kept-ends c.args.n c.args.c c.args.character c.args.tree.now c.args.matrix.now (table at.Start)
    c.args.final_lows.now c.args.final_highs.now (limits at.Else-outside) c.lend-from1.result (told-all at.After-lend-from1)
    c.in_ok-rooted.rooted.root c.in_ok-rooted.rooted.top c.in_ok-rooted.ensures).2

pub read_or-requires : goal.read_or-requires
read_or-requires c =
    let at = goal.at.read_or-requires c in
    readable c.args.n c.args.c c.args.character c.args.tree.now c.args.matrix.now (table at.Start)
    c.args.final_lows.now c.args.final_highs.now (limits at.Else-outside)
    c.lend-from1.result (told-all at.After-lend-from1) c.in_ok-rooted.rooted.root c.in_ok-rooted.rooted.top c.in_ok-rooted.ensures
    _ (wide c.args.character c.args.n)

pub returns : goal.returns
returns c =
    let at = goal.at.returns c in
    answers c.args.n c.args.c c.args.character c.args.tree.now c.args.matrix.now (table at.Start)
    c.args.final_lows.now c.args.final_highs.now (limits at.Else-outside)
    c.lend-from1.result (told-all at.After-lend-from1) c.in_ok-rooted.rooted.root c.in_ok-rooted.rooted.top c.in_ok-rooted.ensures
    _ (wide c.args.character c.args.n)
    _ _ c.read_or.result c.read_or.ensures
