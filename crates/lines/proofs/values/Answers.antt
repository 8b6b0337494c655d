-- `values`: what is no number ends the reading; a number and its mark take two bytes at the least, so there is room for it, and reading goes on
-- behind them.
use native.Mathlib.Omega.{arith}
use mathlib.Core.Path.{◌≡◌, sym, ap, ◌∙◌}
use Prim.Native.Nat.{ℕ, ◌+◌, ◌-◌, ◌≤◌, ◌<◌}
use lib.ListN.{length}
use Rattle.numbers.specs.Numbers.{parsed, item_at}
use Rattle.numbers.proofs.Laws.{item_long}
use Rattle.lines.specs.Lines.{mark_of}
use Rattle.lines.proofs.Laws.{values_bad, values_more, values_end, alike_more, alike_bad, alike_end}
use Rattle.lines.proofs.Reach.{mark_some}
use Rattle.lines.proofs.values.Goals as goal
use Rattle.lines.proofs.values.Goals.{In_ok-item}

-- the item that was read is that of the definition
item-is : (c : In_ok-item) → item_at c.args.text.now (mark_of (c.args.count - c.loop-k.k)) c.loop-k.next
    ≡ parsed c.in_ok-item.item.value c.in_ok-item.item.next
item-is c = sym (c.in_ok-item.ensures ∙ ap (λ (m : ℕ). item_at c.args.text.now m c.loop-k.next) c.mark.ensures)

long : (c : In_ok-item) → (c.loop-k.next + 2 ≤ c.in_ok-item.item.next) × (c.in_ok-item.item.next ≤ length c.args.text.now)
long c = item_long _ _ _ _ _ (mark_some _) (item-is c)

-- a number that was read has its place in the list
room : (c : In_ok-item) → c.args.from + c.loop-k.k < 16384
room c = omega (arith, long c, c.loop-k.invariant.1, c.requires.1)

pub item-requires : goal.item-requires
item-requires c = rw c.mark.ensures (mark_some _)

pub returns-in_err-item : goal.returns-in_err-item
returns-in_err-item c =
    alike_bad _ _ _ _ _ _ _ c.loop-k.invariant.0
    (values_bad _ _ _ (omega arith)
    (sym (c.in_err-item.ensures ∙ ap (λ (m : ℕ). item_at c.args.text.now m c.loop-k.next) c.mark.ensures))) c.from_residual.ensures

pub overflow_add-out : goal.overflow_add-out
overflow_add-out c = omega (arith, room (goal.at.overflow_add-out c).In_ok-item)

pub offset_bounds-out-from : goal.offset_bounds-out-from
offset_bounds-out-from c = omega (arith, room (goal.at.offset_bounds-out-from c).In_ok-item)

pub bounds-out-from : goal.bounds-out-from
bounds-out-from c = omega (arith, room (goal.at.bounds-out-from c).In_ok-item)

pub loop-k-preserved : goal.loop-k-preserved
loop-k-preserved c = (
  alike_more _ _ _ _ c.loop-k.out (c.args.from + c.loop-k.k) _ _ _ c.loop-k.invariant.0
      (values_more _ _ _ _ _ _ (omega arith) (item-is (goal.at.loop-k-preserved c).In_ok-item)) (omega arith),
  omega (arith, long (goal.at.loop-k-preserved c).In_ok-item, c.loop-k.invariant.1),
)

pub returns : goal.returns
returns c = alike_end _ _ _ _ _ (c.args.from + c.loop-k.k) _ c.loop-k.invariant.0 (values_end _ _ _ (omega arith))
