-- `lend_results` looks at six slices, the last first.
use mathlib.Core.List.{[], ◌∷◌}
use Rattle.limits.specs.Limits.{node_slice}
use Rattle.characters.proofs.lend_results.Goals as goal

pub returns : goal.returns
returns c =
    let n = c.args.n in
    let from8 = node_slice n c.args.eighth ∷ [] in
    let from7 = node_slice n c.args.seventh ∷ from8 in
    let from6 = node_slice n c.args.sixth ∷ from7 in
    let from5 = node_slice n c.args.fifth ∷ from6 in
    let from4 = node_slice n c.args.fourth ∷ from5 in
    c.lend.ensures from4 (c.lend-from4.ensures from5 (c.lend-from5.ensures from6 (c.lend-from6.ensures from7 (c.lend-from7.ensures from8
    (c.lend-from8.ensures [] tt)))))
