-- `starts`: a byte that differs ends it; a byte that does not leaves the rest of the key; at its end the whole key stands there.
use mathlib.Core.Path.{sym, ◌∙◌}
use Rattle.numbers.proofs.Laws.{starts_same, starts_other, starts_all}
use Rattle.numbers.proofs.starts.Goals as goal

pub returns-then-byte-key : goal.returns-then-byte-key
returns-then-byte-key c =
    sym (c.loop-j.invariant ∙ starts_other _ _ _ _ c.loop-j-test.true (λ e. c.if-byte-key.true (c.byte.ensures ∙ e)))

pub loop-j-preserved : goal.loop-j-preserved
loop-j-preserved c = c.loop-j.invariant ∙ starts_same _ _ _ _ c.loop-j-test.true (sym c.byte.ensures ∙ c.if-byte-key.false)

pub returns : goal.returns
returns c = sym (c.loop-j.invariant ∙ starts_all _ _ _ _ c.loop-j-test.false)
