-- `correct_in` lends the stretch on, n-2 entries wide, and what comes back is in its place.
use native.Mathlib.Omega.{arith}
use Rattle.table_corrections.proofs.Stretching.{corrects}
use Rattle.table_corrections.proofs.correct_in.Goals as goal

pub returns : goal.returns
returns c =
    corrects _ _ _ _ c.args.tree.now c.args.matrix.now
    c.args.lows.now c.args.highs.now c.args.lengths.now
    c.requires c.args.state _ _ _ _ _ (omega arith)
    c.correct_character.result c.correct_character.ensures
