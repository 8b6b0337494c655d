-- `number` reads as `number_at` says. The invariant: what is read from here on, after the value so far, is the number. The bytes left are the measure.
use mathlib.Core.Path.{◌≡◌}
use Prim.Native.Nat.{◌-◌, ◌≤◌}
use lib.ListN.{length, drop}
use Rattle.numbers.specs.Numbers.{digits_from, number_at}
use Rattle.numbers.proofs.number.Given as goal

abbrev pub invariant-loop-d : goal.invariant-loop-d
invariant-loop-d l = (number_at l.text l.at ≡ digits_from l.value l.next (drop l.next l.text)) × (l.value ≤ 65535)

abbrev pub decreases-loop-d : goal.decreases-loop-d
decreases-loop-d l = length l.text - l.next
