-- `badrumello_character` looks at its result slice, and then asks `one_character`.
use Rattle.scores.specs.Scores.{Results}
use Rattle.outcomes.proofs.Lasts.{character-refusal}
use Rattle.editions.proofs.badrumello_character.Goals as goal
use Rattle.editions.proofs.badrumello_character.Goals.{Start}

-- the six lists as they came, and as they are left
abbrev lists : Start → Results
lists c =
    record {
      first_lows = c.args.first_low.now;
      first_highs = c.args.first_high.now;
      subtree = c.args.subtree.now;
      final_lows =
          c.args.final_low.now;
      final_highs = c.args.final_high.now;
      states = c.args.states.now;
    }

pub returns-then-res-ne7 : goal.returns-then-res-ne7
returns-then-res-ne7 c =
    character-refusal c.args.n c.args.c c.args.tree.now
    c.args.matrix.now c.args.res.now _ _ c.code.ensures c.args.character
    c.args.resolve (lists (goal.at.returns-then-res-ne7 c).Start) c.refuse_character-refusal.ensures
