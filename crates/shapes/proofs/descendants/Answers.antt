-- `descendants`: an entry is a node of the table, so the lists have its place; a turn notes one node more in each list with its ancestor.
use native.Mathlib.Omega.{arith}
use Rattle.shapes.proofs.Listing.{entry-most, lists-none, lists-after, lists-all}
use Rattle.shapes.proofs.descendants.Goals as goal

pub loop-k-init : goal.loop-k-init
loop-k-init c = lists-none _ _

pub note-requires : goal.note-requires
note-requires c = (
  omega (arith, c.requires.sized.most),
  entry-most _ _ c.requires _ c.from.ensures,
  omega (arith, c.requires.sized.nodes, c.requires.sized.most),
)

pub note-requires-in-loop-k : goal.note-requires-in-loop-k
note-requires-in-loop-k c = (
  omega (arith, c.requires.sized.most),
  entry-most _ _ c.requires _ c.from-in-loop-k.ensures,
  omega (arith, c.requires.sized.nodes, c.requires.sized.most),
)

pub loop-k-preserved : goal.loop-k-preserved
loop-k-preserved c =
    lists-after _ _ _ (omega arith) c.from.ensures c.from-in-loop-k.ensures c.requires.sized c.loop-k.invariant c.note.ensures
    c.note-in-loop-k.ensures

pub returns : goal.returns
returns c = lists-all _ _ (omega arith) c.requires c.loop-k.invariant
