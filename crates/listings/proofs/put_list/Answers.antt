-- `put_list` writes a key, numbers and LF. The room is enough, since each number has five digits at most, and one byte stands behind each.
use mathlib.Core.List.{◌++◌}
use Prim.Native.Nat.{◌*◌, ◌≤◌}
use native.Mathlib.Omega.{arith}
use Rattle.std.proofs.Common.{rules}
use lib.ListN.{length}
use Rattle.numbers.specs.Printed.{commas}
use Rattle.printing.proofs.Laws.{written_both}
use Rattle.fields.specs.Fields as fields
use Rattle.fields.proofs.Pieces.{written-size}
use Rattle.fields.proofs.Room.{field-short}
use Rattle.listings.proofs.Room.{list-short}
use Rattle.listings.proofs.put_list.Goals as goal
use Rattle.listings.proofs.put_list.Goals.{After-put_bytes-value}

value-short : (c : After-put_bytes-value) → length (commas c.args.values.now) ≤ 6 * length c.args.values.now
value-short c = list-short c.args.values.now (λ i. search rules)

pub put_numbers-end-requires : goal.put_numbers-end-requires
put_numbers-end-requires c = (
  c.requires.0,
  omega (arith, value-short (goal.at.put_numbers-end-requires c).After-put_bytes-value, written-size c.put_bytes-value.ensures),
)

pub put_byte-requires : goal.put_byte-requires
put_byte-requires c =
    omega (
      arith,
      value-short (goal.at.put_byte-requires c).After-put_bytes-value,
      written-size c.put_bytes-value.ensures,
      written-size c.put_numbers-end.ensures,
    )

pub returns : goal.returns
returns c =
    record {
      written =
          written_both c.args.key.now (commas c.args.values.now ++ fields.byte 10) _ _ _ _ _ _ c.put_bytes-value.ensures
          (written_both (commas c.args.values.now) (fields.byte 10) _ _ _ _ _ _ c.put_numbers-end.ensures c.put_byte.ensures);
      short = field-short c.args.key.now (commas c.args.values.now) _ (value-short (goal.at.returns c).After-put_bytes-value);
    }
