-- `one_character` makes the checks in their order, and then the passes.
use mathlib.Core.Path.{refl}
use mathlib.Core.List.{◌∷◌}
use Rattle.std.proofs.lemmas.Result.{err_from_is_err_and}
use Rattle.limits.specs.Limits.{matrix_slice, lent_slices, Told, InLimits}
use Rattle.limits.proofs.Lending.{in_limits}
use Rattle.checks.proofs.Orders.{admissible}
use Rattle.scores.specs.Scores.{Results}
use Rattle.characters.specs.Afresh.{result_slices}
use Rattle.characters.proofs.Calling.{one-refused, given-one, one-scored}
use Rattle.characters.proofs.one_character.Goals as goal
use Rattle.characters.proofs.one_character.Goals.{After-lend-from1, Else-outside, Start}

-- the six lists as they came
abbrev lists : Start → Results
lists c =
    record {
      first_lows = c.args.first_lows.now;
      first_highs = c.args.first_highs.now;
      subtree = c.args.subtree.now;
      final_lows = c.args.final_lows.now;
      final_highs = c.args.final_highs.now;
      states = c.args.states.now;
    }

limits : (c : Else-outside) → InLimits c.args.n c.args.c
limits c = in_limits _ _ c.if-outside.ensures

told-all : (c : After-lend-from1) → Told 1 (lent_slices c.args.n c.args.c
    c.args.tree.now c.args.matrix.now (result_slices c.args.n
    (record {
      first_lows = c.args.first_lows.now;
      first_highs = c.args.first_highs.now;
      subtree = c.args.subtree.now;
      final_lows = c.args.final_lows.now;
      final_highs = c.args.final_highs.now;
      states = c.args.states.now;
    }))) c.lend-from1.result
told-all c =
    let rest = result_slices c.args.n (record {
      first_lows = c.args.first_lows.now;
      first_highs = c.args.first_highs.now;
      subtree = c.args.subtree.now;
      final_lows = c.args.final_lows.now;
      final_highs = c.args.final_highs.now;
      states = c.args.states.now;
    }) in
    c.lend-from1.ensures (matrix_slice c.args.n c.args.c c.args.matrix.now ∷ rest) (c.lend-from2.ensures rest c.lend_results-results.ensures)

pub admit_character-requires : goal.admit_character-requires
admit_character-requires c =
    let at = goal.at.admit_character-requires c in
    admissible c.args.n c.args.c c.args.tree.now c.args.matrix.now (result_slices c.args.n (lists at.Start))
    (limits at.Else-outside) _ (told-all at.After-lend-from1)

pub score_one-requires : goal.score_one-requires
score_one-requires c =
    let at = goal.at.score_one-requires c in
    given-one c.args.n c.args.c c.args.character c.args.tree.now c.args.matrix.now (lists at.Start)
    (limits at.Else-outside) c.lend-from1.result (told-all at.After-lend-from1) _ c.in_ok-rooted.ensures

pub returns-in_err-rooted : goal.returns-in_err-rooted
returns-in_err-rooted c =
    let at = goal.at.returns-in_err-rooted c in
    let p = err_from_is_err_and c.from_residual.result c.from_residual.ensures.1 in
    rw (p.1, p.2) (
      one-refused c.args.n c.args.c c.args.character c.args.tree.now c.args.matrix.now (lists at.Start)
          (limits at.Else-outside) c.lend-from1.result (told-all at.After-lend-from1) _ c.in_err-rooted.ensures,
      refl {a = lists at.Start},
    )

pub returns : goal.returns
returns c =
    let at = goal.at.returns c in
    one-scored c.args.n c.args.c c.args.character c.args.tree.now c.args.matrix.now (lists at.Start)
    (limits at.Else-outside) c.lend-from1.result (told-all at.After-lend-from1) _ c.in_ok-rooted.ensures _
    (record {
      first_lows = c.score_one.new.first_lows;
      first_highs = c.score_one.new.first_highs;
      subtree = c.score_one.new.subtree;
      final_lows = c.score_one.new.final_lows;
      final_highs = c.score_one.new.final_highs;
      states = c.score_one.new.states;
    }) _
    c.score_one.ensures
