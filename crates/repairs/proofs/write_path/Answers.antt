-- `write_path` writes the cell, and the path is settled anew.
use Rattle.repairs.proofs.Writing.{mends_path}
use Rattle.repairs.proofs.write_path.Goals as goal

pub mend_path-requires : goal.mend_path-requires
mend_path-requires c =
    mends_path _ _ _ _ _ _ c.args.tree.now c.args.path.now.nodes
    c.args.matrix.now c.args.lows.now c.args.highs.now
    c.args.lengths.now c.requires _ _ c.descendants-shape.ensures
