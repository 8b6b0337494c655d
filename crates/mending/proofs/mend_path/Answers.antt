-- `mend_path`: a node of the path can be mended at its turn, and so one node more is; after the last turn the whole path is.
use native.Mathlib.Omega.{arith}
use Rattle.mending.proofs.Ends.{mended-all}
use Rattle.mending.proofs.Paths.{room, mends_at, mended-at}
use Rattle.mending.proofs.mend_path.Goals as goal

pub offset_bounds-path-i : goal.offset_bounds-path-i
offset_bounds-path-i c = omega (arith, room c.requires)

pub bounds-path-i : goal.bounds-path-i
bounds-path-i c = omega (arith, room c.requires)

pub mend_node-requires : goal.mend_node-requires
mend_node-requires c = mends_at c.requires (omega arith) c.loop-i.invariant c.from-node.ensures

pub loop-i-preserved : goal.loop-i-preserved
loop-i-preserved c = mended-at c.requires (omega arith) c.loop-i.invariant c.from-node.ensures _ _ _ c.mend_node.ensures

pub returns : goal.returns
returns c = mended-all c.requires c.loop-i.invariant (omega arith)
