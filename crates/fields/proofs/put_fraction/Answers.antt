-- `put_fraction` writes over, a slash, under, a comma and the thousandths. There is room: over and under have ten digits at most, the thousandths four.
use native.Mathlib.Omega.{arith}
use Rattle.printing.proofs.Laws.{written_both}
use Rattle.fields.proofs.Pieces.{written-size}
use Rattle.fields.proofs.Room.{ten_digits, four_digits, fraction-short}
use Rattle.fields.proofs.put_fraction.Goals as goal

pub put_number-slash-requires : goal.put_number-slash-requires
put_number-slash-requires c = grind (arith, ten_digits, written-size)

pub put_byte-second-requires : goal.put_byte-second-requires
put_byte-second-requires c = grind (arith, ten_digits, written-size)

pub put_number-comma-requires : goal.put_number-comma-requires
put_number-comma-requires c = grind (arith, ten_digits, written-size)

pub put_byte-third-requires : goal.put_byte-third-requires
put_byte-third-requires c = grind (arith, ten_digits, written-size)

pub put_number-requires : goal.put_number-requires
put_number-requires c = grind (arith, ten_digits, four_digits, written-size)

pub returns : goal.returns
returns c =
    record {
      written =
          written_both _ _ _ _ _ _ _ _ c.put_number-slash.ensures
          (written_both _ _ _ _ _ _ _ _ c.put_byte-second.ensures
          (written_both _ _ _ _ _ _ _ _ c.put_number-comma.ensures
          (written_both _ _ _ _ _ _ _ _ c.put_byte-third.ensures (rw (← c.thousandths.ensures) c.put_number.ensures))));
      short = fraction-short _ _ (omega arith) (omega arith) c.requires.0;
    }
