-- `correct_character`: a path has few nodes, so their number fits.
use native.Mathlib.Omega.{arith}
use Rattle.repairs.proofs.Looking.{path-few}
use Rattle.corrections.proofs.correct_character.Goals as goal

pub overflow_cast-result : goal.overflow_cast-result
overflow_cast-result c =
    omega (
      arith,
      path-few _ _ _ _ _ _ c.args.tree.now c.in_ok-path.path.nodes c.args.matrix.now c.args.lows.now c.args.highs.now
          c.args.lengths.now c.in_ok-path.ensures.0,
    )
