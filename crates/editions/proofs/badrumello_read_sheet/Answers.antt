-- `badrumello_read_sheet` looks at its result slice, and then asks `read_sheet`.
use Rattle.outcomes.proofs.Sheeting.{sheet-refusal}
use Rattle.editions.proofs.badrumello_read_sheet.Goals as goal

pub returns-then-res-ne3 : goal.returns-then-res-ne3
returns-then-res-ne3 c =
    sheet-refusal c.args.text.now c.args.tree.now c.args.matrix.now
    c.args.res.now _ _ c.code.ensures c.refuse_sheet-refusal.ensures
