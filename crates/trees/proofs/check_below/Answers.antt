-- `check_below` checks a table whose root is found: where no search finds a fault, the root has a descendant, and the table is accepted.
use Rattle.trees.proofs.Accepting.{named, accepted}
use Rattle.trees.proofs.check_below.Goals as goal

pub descendant_of-top-requires : goal.descendant_of-top-requires
descendant_of-top-requires c =
    named _ c.args.tree.now _ c.requires.0 c.requires.1 c.in_default.ensures c.in_default-wrong_count.ensures

pub returns : goal.returns
returns c =
    accepted _ c.args.tree.now _ c.requires.0 c.requires.1 c.in_default.ensures c.in_default-wrong_count.ensures
    c.in_default-lost_node.ensures _ c.descendant_of-top.ensures.2
