-- `put_bytes` writes. The invariant: the bytes passed are written.
use mathlib.Core.Path.{◌≡◌}
use lib.ListN.{length, take}
use lib.Seq.{sets}
use Rattle.printing.proofs.put_bytes.Given as goal

abbrev pub invariant-loop-k : goal.invariant-loop-k
invariant-loop-k l = (length l.out ≡ length l.initial.out) × (l.out ≡ sets l.initial.out l.at (take l.k l.text))
