-- `item`: there is no number here; or one with another byte behind it; or one with the byte asked for.
use mathlib.Core.Path.{sym, ◌∙◌}
use Rattle.numbers.proofs.Laws.{item_none, item_ended, item_open}
use Rattle.numbers.proofs.item.Goals as goal

pub returns-in_err-value : goal.returns-in_err-value
returns-in_err-value c = c.from_residual.ensures ∙ sym (item_none _ _ _ (sym c.in_err-value.ensures))

pub returns-then-byte-end : goal.returns-then-byte-end
returns-then-byte-end c = sym (item_open _ _ _ _ _ (sym c.in_ok-value.ensures) (λ e. c.if-byte-end.true (c.byte.ensures ∙ e)))

pub returns : goal.returns
returns c = sym (item_ended _ _ _ _ _ (sym c.in_ok-value.ensures) (sym c.byte.ensures ∙ c.if-byte-end.false))
