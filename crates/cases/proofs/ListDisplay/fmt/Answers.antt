-- Nothing is written at first, and each turn writes a blank and an entry.
use Rattle.std.proofs.Common.{Ok, take}
use Rattle.std.proofs.Output.{writes_in_calls_nil}
use Rattle.std.proofs.lemmas.List.{take_more, take_all}
use Rattle.cases.specs.Printing.{spaced}
use Rattle.cases.proofs.Steps.{spaced_more, written_more, written_all}
use Rattle.cases.proofs.ListDisplay.fmt.Goals as goal

pub loop-value-init : goal.loop-value-init
unfolding spaced
loop-value-init g c = λ p. record { wrote = writes_in_calls_nil _ _; plain = p }

pub loop-value-preserved : goal.loop-value-preserved
loop-value-preserved g c =
    let xs = c.args.self.now.0.now in
    let i = c.loop-value.value-index in
    let x = c.value-item.result in
    λ p.
    rw (take_more xs i x c.loop-value-test.true, ← c.value-item.is, spaced_more g.T.Display.output (take i xs) x)
    (written_more _ _ _ _ _ _ _ (c.loop-value.invariant p) c.in_ok-write.ensures.writes)

pub returns-clause-writes : goal.returns-clause-writes
returns-clause-writes g c =
    written_all _ _ _ (Ok tt) _ (rw (take_all c.loop-value.value-index c.args.self.now.0.now c.loop-value-test.false) at c.loop-value.invariant)
