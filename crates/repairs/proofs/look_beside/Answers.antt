-- `look_beside` marks the path, and searches by the marks.
use Rattle.repairs.proofs.Looking.{few, marks-here, found-here}
use Rattle.repairs.proofs.look_beside.Goals as goal

pub shared_ref_as_front-mark : goal.shared_ref_as_front-mark
shared_ref_as_front-mark c =
    few _ _ _ c.args.tree.now c.args.path.now.nodes c.args.lows.now c.args.highs.now c.args.lengths.now c.requires

pub mark-marks-requires : goal.mark-marks-requires
mark-marks-requires c =
    marks-here _ _ _ c.args.tree.now c.args.path.now.nodes c.args.lows.now c.args.highs.now c.args.lengths.now c.requires

pub returns : goal.returns
returns c =
    found-here _ _ _ c.args.tree.now c.args.path.now.nodes c.args.lows.now c.args.highs.now c.args.lengths.now
    c.requires c.mark-marks.result c.mark-marks.ensures c.bad_beside.result c.bad_beside.ensures
