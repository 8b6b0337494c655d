-- `number`: no digit is no number, and a 0 stands alone; else each digit goes into the value, until that is above 65535 or no digit follows.
use native.Mathlib.Omega.{arith}
use mathlib.Core.Path.{◌≡◌, sym, ap, ◌∙◌}
use Rattle.std.specs.Prelude.{Some}
use lib.ListN.{get_or}
use Rattle.numbers.specs.Numbers.{digit_of}
use Rattle.numbers.proofs.Laws.{digit_back, digit_in, number_none, number-zero, number_more, digits_end, digits_over, digits_more}
use Rattle.numbers.proofs.number.Goals as goal
use Rattle.numbers.proofs.number.Goals.{In_ok-first, In-Some}

-- the digit where the number starts
first : (c : In_ok-first) → digit_of (get_or c.args.text.now c.args.at 0) ≡ Some c.in_ok-first.first
first c = sym (c.in_ok-first.ensures ∙ ap digit_of c.byte.ensures)

-- the digit of a turn
here : (c : In-Some) → digit_of (get_or c.args.text.now c.loop-d.next 0) ≡ Some c.in-Some.d
here c = sym (c.in-Some.ensures ∙ ap digit_of c.byte-in-loop-d.ensures)

pub returns-in_err-first : goal.returns-in_err-first
returns-in_err-first c = c.from_residual.ensures ∙ sym (number_none _ _ (sym (c.in_err-first.ensures ∙ ap digit_of c.byte.ensures)))

pub overflow_add-next : goal.overflow_add-next
overflow_add-next c = omega (arith, digit_in c.args.text.now _ _ (first (goal.at.overflow_add-next c).In_ok-first), c.well_formed)

pub returns-then-first-eq0 : goal.returns-then-first-eq0
returns-then-first-eq0 c = sym (number-zero _ _ _ (first (goal.at.returns-then-first-eq0 c).In_ok-first) c.if-first-eq0.true)

pub loop-d-init : goal.loop-d-init
loop-d-init c =
    let e = first (goal.at.loop-d-init c).In_ok-first in
    (number_more _ _ _ e c.if-first-eq0.false, omega (arith, (digit_back _ _ e).0))

pub overflow_add-value : goal.overflow_add-value
overflow_add-value c = omega (arith, (digit_back _ _ (here (goal.at.overflow_add-value c).In-Some)).0, c.loop-d.invariant.1)

pub returns-then-value-gt65535 : goal.returns-then-value-gt65535
returns-then-value-gt65535 c =
    sym (c.loop-d.invariant.0 ∙ digits_over _ _ _ (here (goal.at.returns-then-value-gt65535 c).In-Some) _ c.if-value-gt65535.true)

pub overflow_add-next-in-Some : goal.overflow_add-next-in-Some
overflow_add-next-in-Some c = omega (arith, digit_in c.args.text.now _ _ (here (goal.at.overflow_add-next-in-Some c).In-Some), c.well_formed)

pub loop-d-smaller : goal.loop-d-smaller
loop-d-smaller c = omega (arith, digit_in c.args.text.now _ _ (here (goal.at.loop-d-smaller c).In-Some))

pub loop-d-preserved : goal.loop-d-preserved
loop-d-preserved c = (
  c.loop-d.invariant.0 ∙ digits_more _ _ _ (here (goal.at.loop-d-preserved c).In-Some) _ c.if-value-gt65535.false,
  c.if-value-gt65535.false,
)

pub returns : goal.returns
returns c =
    sym (c.loop-d.invariant.0 ∙ digits_end _ _ (sym (c.in_default.ensures ∙ ap digit_of c.byte-in-loop-d.ensures)) _)
