-- `find_root` finds the root: of the entries passed none is 0 but that of `root`, which is a taxon's.
use Rattle.roots.proofs.Rooting.{SoFar}
use Rattle.roots.proofs.find_root.Given as goal

abbrev pub invariant-loop-k : goal.invariant-loop-k
invariant-loop-k l = SoFar l.n l.tree l.k l.root
