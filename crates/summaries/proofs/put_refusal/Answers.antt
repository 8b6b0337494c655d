-- `put_refusal` writes one line: the key, the number, a comma, the place and LF, one after another. Neither number has more than 10 digits, so the
-- pieces have 8, 10, 1, 10 and 1 bytes at most, and each fits into what those before it leave of the 30.
use native.Mathlib.Omega.{arith}
use Prim.Native.Nat.{ℕ}
use lib.ListN.{length-append}
use Rattle.printing.proofs.Laws.{written_both}
use Rattle.fields.proofs.Room.{ten_digits}
use Rattle.summaries.proofs.put_refusal.Goals as goal

pub put_number-comma-requires : goal.put_number-comma-requires
put_number-comma-requires c = omega (arith, ten_digits)

pub put_byte-second-requires : goal.put_byte-second-requires
put_byte-second-requires c = omega (arith, ten_digits)

pub put_number-end-requires : goal.put_number-end-requires
put_number-end-requires c = omega (arith, ten_digits)

pub put_byte-requires : goal.put_byte-requires
put_byte-requires c = omega (arith, ten_digits)

pub returns : goal.returns
returns c =
    record {
      written =
          written_both _ _ _ _ _ _ _ _ c.put_bytes-first.ensures
          (written_both _ _ _ _ _ _ _ _ c.put_number-comma.ensures
          (written_both _ _ _ _ _ _ _ _ c.put_byte-second.ensures
          (written_both _ _ _ _ _ _ _ _ c.put_number-end.ensures c.put_byte.ensures)));
      short = omega (arith, ten_digits, length-append {A = ℕ});
    }
