-- `put_count` writes a key, a number and LF. The room is enough, since the number has ten digits at most.
use native.Mathlib.Omega.{arith}
use Rattle.numbers.specs.Printed.{decimal}
use Rattle.printing.proofs.Laws.{written_both}
use Rattle.fields.proofs.Pieces.{written-size}
use Rattle.fields.proofs.Room.{ten_digits, field-short}
use Rattle.fields.proofs.put_count.Goals as goal

pub put_number-end-requires : goal.put_number-end-requires
put_number-end-requires c = omega (arith, ten_digits, written-size c.put_bytes-value.ensures)

pub put_byte-requires : goal.put_byte-requires
put_byte-requires c = omega (arith, ten_digits, written-size c.put_bytes-value.ensures, written-size c.put_number-end.ensures)

pub returns : goal.returns
returns c =
    record {
      written =
          written_both _ _ _ _ _ _ _ _ c.put_bytes-value.ensures
          (written_both _ _ _ _ _ _ _ _ c.put_number-end.ensures c.put_byte.ensures);
      short = field-short c.args.key.now (decimal c.args.v) 10 (ten_digits c.args.v c.ranges.v.fits);
    }
