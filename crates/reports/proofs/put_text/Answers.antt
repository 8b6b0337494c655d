-- `put_text` reads the text, and writes the report on its tree and matrix, or the line of the refusal.
use mathlib.Core.Path.{sym}
use Prim.Native.Nat.{ℕ}
use native.Mathlib.Omega.{arith}
use Rattle.std.proofs.Common.{replicate}
use Rattle.std.proofs.lemmas.List.{length-replicate}
use Rattle.reports.proofs.Telling.{sized-sheet, told-sheet, refused_text, told_refused}
use Rattle.reports.proofs.put_text.Goals as goal

pub slice_bounds-matrix-end : goal.slice_bounds-matrix-end
slice_bounds-matrix-end c =
    rw (c.from-n.ensures, c.from-c.ensures)
    (omega (arith, (sized-sheet c.in-Ok.ensures).few, c.read_sheet.auto.matrix, length-replicate {0} {A = ℕ} 16384 0))

pub slice_bounds-put_report-end : goal.slice_bounds-put_report-end
slice_bounds-put_report-end c = rw (c.from-n.ensures, c.from-c.ensures) (sym (sized-sheet c.in-Ok.ensures).cells)

pub put_report-requires : goal.put_report-requires
put_report-requires c = (rw (c.from-n.ensures, c.from-c.ensures) (sized-sheet c.in-Ok.ensures), c.requires)

pub returns-in-Ok : goal.returns-in-Ok
returns-in-Ok c = told-sheet c.in-Ok.ensures (rw (c.from-n.ensures, c.from-c.ensures) at c.put_report.ensures)

pub returns-in-Err : goal.returns-in-Err
returns-in-Err c =
    told_refused c.in-Err.refusal
    (refused_text c.args.text.now (replicate 510 0) (replicate 16384 0) (length-replicate {0} {A = ℕ} 510 0)
    (length-replicate {0} {A = ℕ} 16384 0) _ c.in-Err.ensures.0)
    (rw (← c.from-number.ensures) c.put_refusal.ensures)
