-- `walk` finishes the subtree of each descendant, one after the other, and then settles the node. The measure is the number of nodes that are
-- still allowed: a descendant is one deeper than its ancestor, and no node is deeper than there are nodes.
use Rattle.blocks.proofs.+walk.Given as goal

abbrev pub decreases-walk : goal.decreases-walk
decreases-walk l = l.allowed
