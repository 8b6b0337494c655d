-- `put_one` scores a character, which no check refuses, and writes its lines.
use mathlib.Core.Path.{◌≡◌, subst}
use Prim.Native.Nat.{◌-◌}
use native.Mathlib.Omega.{arith}
use Rattle.parsimony.specs.Matrix.{state_of}
use Rattle.std.specs.Prelude.{Ok}
use Rattle.scores.specs.declared.Scores.{Scores}
use Rattle.scores.specs.Scores.{Results, AllLong}
use Rattle.characters.specs.Afresh.{OneScored, OneAnswers}
use Rattle.turns.proofs.Proper.{indexed_character}
use Rattle.turns.proofs.Ready.{scores_come}
use Rattle.turns.proofs.Writing.{rooms, rooms-long, lists_of}
use Rattle.turns.proofs.put_one.Goals as goal
use Rattle.turns.proofs.put_one.Goals.{After-one_character-got}

-- the six lists: as they are lent, and as they are found
abbrev lent : After-one_character-got → Results
lent c = rooms (c.from-w.result - 2)

abbrev found : After-one_character-got → Results
found c =
    record {
      first_lows = c.one_character-got.new.first_lows;
      first_highs = c.one_character-got.new.first_highs;
      subtree = c.one_character-got.new.subtree;
      final_lows = c.one_character-got.new.final_lows;
      final_highs = c.one_character-got.new.final_highs;
      states = c.one_character-got.new.states;
    }

answered : (c : After-one_character-got)
    → OneAnswers c.args.n c.args.c c.args.character c.args.resolve c.args.tree.now c.args.matrix.now (lent c) (found c) c.one_character-got.result
answered c = rw (c.from.ensures, c.from-2.ensures, c.from-3.ensures) at c.one_character-got.ensures

pub unwrap-scores-requires : goal.unwrap-scores-requires
unwrap-scores-requires c =
    let o : After-one_character-got = (goal.at.unwrap-scores-requires c).After-one_character-got in
    let long : AllLong c.args.n (lent o) = rooms-long c.args.n _ (omega arith) c.requires.0.limits.most in
    scores_come c.args.n c.args.c c.args.tree.now c.args.matrix.now c.requires.0 c.args.character c.requires.1 c.requires.2
    c.args.resolve (lent o) (found o) long c.one_character-got.result (answered o)

scored : (c : After-one_character-got) (s : Scores) → c.one_character-got.result ≡ Ok s
    → OneScored c.args.n c.args.c c.args.character c.args.resolve c.args.tree.now c.args.matrix.now (lent c) (found c) s
scored c s e =
    subst (OneAnswers c.args.n c.args.c c.args.character c.args.resolve c.args.tree.now c.args.matrix.now (lent c) (found c)) e (answered c)

pub put_character-requires : goal.put_character-requires
put_character-requires c =
    let o : After-one_character-got = (goal.at.put_character-requires c).After-one_character-got in
    let O = scored o c.unwrap-scores.result c.unwrap-scores.ensures in (
      indexed_character c.args.n (state_of c.args.matrix.now c.args.c c.args.character) c.args.tree.now O.ρ O.δ O.accepted.is_tree _ O.means.scores,
      lists_of c.args.n (found o) c.requires.0.limits.least O.means.long,
      omega (arith, c.requires.3, O.means.long.first_lows),
    )
