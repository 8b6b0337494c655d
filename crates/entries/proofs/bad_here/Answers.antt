-- `bad_here` looks at the marks, and then at the entry.
use native.Mathlib.Omega.{arith}
use Rattle.parsimony.proofs.Tables.Descendants.{entry_of}
use Rattle.entries.proofs.bad_here.Goals as goal

-- the ancestor is a node, of which there are 2n - 2
pub beside-requires : goal.beside-requires
beside-requires c =
    let G = c.requires.0 in (
      c.requires.1,
      omega (arith, G.lists.most),
      omega (arith, c.from-up.ensures, entry_of c.args.tree.now c.args.node (omega arith), G.within c.args.node, G.nodes, G.lists.most),
      G.lists.most,
    )
