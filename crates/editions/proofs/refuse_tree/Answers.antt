-- `refuse_tree` looks at the sizes, and then at the slices from the last to the first.
use mathlib.Core.Path.{refl, sym, subst}
use mathlib.Core.Logic.{inr}
use mathlib.Core.List.{[], ◌∷◌}
use Prim.Native.Nat.{◌*◌}
use Rattle.refusals.specs.Checks.{Refuses, Slice}
use Rattle.refusals.proofs.Laws.{told_not}
use Rattle.refusals.proofs.Order.{clear_at}
use Rattle.limits.specs.Limits.{Outside}
use Rattle.outcomes.specs.Outcomes.{seven_slice, size_checks, lent}
use Rattle.outcomes.proofs.Lasts.{told-last}
use Rattle.editions.proofs.refuse_tree.Goals as goal
use Rattle.editions.proofs.refuse_tree.Goals.{Else-outside}

inside : (c : Else-outside) → Outside c.args.n c.args.c → ⊥
inside c = told_not (Outside c.args.n c.args.c) _ c.outside.ensures c.if-outside.false

pub returns : goal.returns
returns c =
    let matrix : Slice = record { has = c.args.matrix; asked = c.args.n * c.args.c } in
    subst (Refuses (size_checks c.args.n c.args.c (lent c.args.n c.args.c c.args.tree c.args.matrix (seven_slice c.args.res ∷ []))))
    (sym c.refuse_last.ensures) (inr (
      clear_at 1 0 (Outside c.args.n c.args.c) (inside (goal.at.returns c).Else-outside),
      told-last (seven_slice c.args.res) c.requires (lent c.args.n c.args.c c.args.tree c.args.matrix []) c.lend-from1.result 3 refl
          (c.lend-from1.ensures (matrix ∷ []) (c.lend-from2.ensures [] tt)),
    ))
