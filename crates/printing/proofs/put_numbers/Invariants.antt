-- `put_numbers` writes. The invariant: what is still to be written, written from here on, gives what all of it gives, and has its room.
use mathlib.Core.Path.{◌≡◌}
use Prim.Native.Nat.{◌+◌, ◌≤◌}
use lib.ListN.{length, drop}
use lib.Seq.{sets}
use Rattle.numbers.specs.Printed.{continued}
use Rattle.printing.proofs.put_numbers.Given as goal

abbrev pub invariant-loop-v : goal.invariant-loop-v
invariant-loop-v l = (sets l.initial.out l.initial.next (continued l.v-items) ≡ sets l.out l.next (continued (drop l.v-index l.v-items)))
    × (l.initial.next + length (continued l.v-items) ≡ l.next + length (continued (drop l.v-index l.v-items)))
    × (l.next + length (continued (drop l.v-index l.v-items)) ≤ length l.out)
