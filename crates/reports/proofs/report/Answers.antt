-- `report` looks at the length of the slice, and writes.
use mathlib.Core.Path.{◌≡◌}
use native.Mathlib.Omega.{arith}
use lib.ListN.{length}
use Rattle.reports.proofs.Telling.{printed}
use Rattle.reports.proofs.report.Goals as goal

pub returns : goal.returns
returns c =
    let long : length c.args.out.now ≡ 524288 = omega arith in
    (long, printed c.args.text.now c.args.out.now _ _ long c.put_text.ensures)
