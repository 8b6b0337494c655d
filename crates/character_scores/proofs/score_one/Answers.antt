-- `score_one` makes the passes one after the other; each finds what it asks in what the one before it leaves.
use native.Mathlib.Omega.{arith}
use mathlib.Core.Path.{sym, ◌∙◌}
use Rattle.parsimony.specs.Matrix.{state_of}
use Rattle.indices.proofs.Most.{m-most}
use Rattle.character_scores.proofs.Meaning.{wider, descends, turns, begun, means}
use Rattle.character_scores.proofs.score_one.Goals as goal

pub final_ranges-requires : goal.final_ranges-requires
final_ranges-requires c =
    let G = wider c.requires c.from-root.ensures c.from-top.ensures in
    let O = turns c.requires c.descendants-shape.ensures c.from-top.ensures c.order-order.ensures in
    let B = begun G c.descendants-shape.ensures c.begin-length.ensures in
    (descends G O B.low_long B.high_long B.fits, c.descendants-shape.ensures, c.requires.long.final_lows, c.requires.long.final_highs)

pub reconstruct-requires : goal.reconstruct-requires
reconstruct-requires c =
    let G = wider c.requires c.from-root.ensures c.from-top.ensures in
    let O = turns c.requires c.descendants-shape.ensures c.from-top.ensures c.order-order.ensures in
    let B = begun G c.descendants-shape.ensures c.begin-length.ensures in
    let F = c.final_ranges.ensures in (
      descends G O B.low_long B.high_long B.fits,
      descends G O F.low_long F.high_long F.fits,
      c.requires.long.states,
    )

pub score-requires : goal.score-requires
score-requires c = omega (arith, m-most c.args.n (state_of c.args.matrix.now c.args.c c.args.character) c.from-root.result)

pub returns : goal.returns
returns c =
    let G = wider c.requires c.from-root.ensures c.from-top.ensures in
    let B = begun G c.descendants-shape.ensures c.begin-length.ensures in
    rw (sym c.from-root.ensures)
    (means G _ B c.final_ranges.ensures c.reconstruct.ensures (c.from-m.ensures ∙ c.m.ensures) c.g-g.ensures c.score.ensures)
