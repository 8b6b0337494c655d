-- `badrumello_tree` looks at its result slice, and then asks `all_characters`.
use Rattle.outcomes.proofs.Lasts.{tree-refusal}
use Rattle.editions.proofs.badrumello_tree.Goals as goal

pub returns-then-res-ne7 : goal.returns-then-res-ne7
returns-then-res-ne7 c =
    tree-refusal c.args.n c.args.c c.args.tree.now c.args.matrix.now
    c.args.res.now _ _ c.code.ensures c.refuse_tree-refusal.ensures
