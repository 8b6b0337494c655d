-- `total_length` works out the shape of the tree once, and sums.
use Rattle.shapes.proofs.Ready.{ready}
use Rattle.totals.proofs.total_length.Goals as goal

pub descendants-shape-requires : goal.descendants-shape-requires
descendants-shape-requires c = ready c.requires.sized c.requires.accepted
