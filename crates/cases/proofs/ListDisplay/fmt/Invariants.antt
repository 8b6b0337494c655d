-- The entries before this one are written.
use Rattle.std.proofs.Common.{take}
use Rattle.std.specs.Prelude.{IfSome}
use Rattle.std.specs.Fmt.{HasWritten, IsPlainFormatter}
use Rattle.cases.specs.Printing.{spaced}
use Rattle.cases.proofs.ListDisplay.fmt.Given as goal

abbrev pub invariant-loop-value : goal.invariant-loop-value
invariant-loop-value g l =
    IsPlainFormatter l.initial.f → IfSome (spaced g.T.Display.output (take l.value-index l.value-items))
    (λ bs. HasWritten g.W.Write.write_str_gives l.initial.f bs l.f)
