-- `score_all` takes the three sums.
use native.Mathlib.Omega.{arith}
use mathlib.Core.Path.{subst}
use Rattle.scores.specs.Scores.{TreeScores}
use Rattle.scores.proofs.Summing.{tree-scores, sums_ordered}
use Rattle.scores.proofs.score_all.Goals as goal

pub score-requires : goal.score-requires
score-requires c =
    omega (
      arith,
      c.total_m-m.ensures,
      c.total_g-g.ensures,
      sums_ordered c.args.n c.args.c
          c.from-root.result c.args.matrix.now,
    )

pub returns : goal.returns
returns c =
    subst (λ ρ. TreeScores c.args.n c.args.c c.args.matrix.now
    c.args.tree.now ρ c.score.result) c.from-root.ensures
    (tree-scores c.args.n c.args.c c.from-root.result c.args.tree.now
    c.args.matrix.now _ _ _ c.total_length-length.ensures c.total_m-m.ensures
    c.total_g-g.ensures _ c.score.ensures)
