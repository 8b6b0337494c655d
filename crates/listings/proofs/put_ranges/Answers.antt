-- `put_ranges` writes a key, the first range, the others and LF. The room is enough, since a range and the byte behind it are twelve bytes at most.
use mathlib.Core.Path.{ap}
use mathlib.Core.List.{List, ◌++◌}
use Prim.Native.Nat.{ℕ, ◌+◌, ◌*◌, ◌≤◌}
use native.Mathlib.Omega.{arith}
use Rattle.std.proofs.Common.{rules}
use lib.ListN.{length, get_or, drop, length-append}
use Rattle.printing.proofs.Laws.{written_both}
use Rattle.fields.specs.Fields as fields
use Rattle.fields.proofs.Pieces.{written-size}
use Rattle.fields.proofs.Room.{field-short}
use Rattle.listings.specs.Ranges as text
use Rattle.listings.proofs.Room.{ranges-short}
use Rattle.listings.proofs.Ranges.{ranges-first, ranges-line}
use Rattle.listings.proofs.put_ranges.Goals as goal
use Rattle.listings.proofs.put_ranges.Goals.{After-put_bytes-value}

-- the two pieces of the value: the first range, and the others
abbrev first : (lows highs : List ℕ) → List ℕ
first lows highs = text.range (get_or lows 0 0) (get_or highs 0 0)

abbrev others : (lows highs : List ℕ) → List ℕ
others lows highs = text.more_ranges (drop 1 lows) (drop 1 highs)

value-short : (c : After-put_bytes-value) → length (text.ranges c.args.lows.now c.args.highs.now) ≤ 12 * length c.args.lows.now
value-short c = ranges-short c.args.lows.now c.args.highs.now (λ i. search rules) (λ i. search rules)

pieces-short : (c : After-put_bytes-value)
    → length (first c.args.lows.now c.args.highs.now) + length (others c.args.lows.now c.args.highs.now) ≤ 12 * length c.args.lows.now
pieces-short c =
    let lows : List ℕ = c.args.lows.now in
    let highs : List ℕ = c.args.highs.now in
    omega (
      arith,
      value-short c,
      ap length (ranges-first lows highs c.requires.0 c.requires.1),
      length-append (first lows highs) (others lows highs),
    )

pub put_range-next-requires : goal.put_range-next-requires
put_range-next-requires c =
    omega (arith, pieces-short (goal.at.put_range-next-requires c).After-put_bytes-value, written-size c.put_bytes-value.ensures)

pub put_more_ranges-end-requires : goal.put_more_ranges-end-requires
put_more_ranges-end-requires c = (
  c.requires.0,
  c.requires.1,
  omega (
    arith,
    pieces-short (goal.at.put_more_ranges-end-requires c).After-put_bytes-value,
    written-size c.put_bytes-value.ensures,
    written-size c.put_range-next.ensures,
  ),
)

pub put_byte-requires : goal.put_byte-requires
put_byte-requires c =
    omega (
      arith,
      pieces-short (goal.at.put_byte-requires c).After-put_bytes-value,
      written-size c.put_bytes-value.ensures,
      written-size c.put_range-next.ensures,
      written-size c.put_more_ranges-end.ensures,
    )

pub returns : goal.returns
returns c =
    let key : List ℕ = c.args.key.now in
    let lows : List ℕ = c.args.lows.now in
    let highs : List ℕ = c.args.highs.now in
    record {
      written =
          rw (ranges-line key lows highs c.requires.0 c.requires.1)
          (written_both key (first lows highs ++ (others lows highs ++ fields.byte 10)) _ _ _ _ _ _ c.put_bytes-value.ensures
          (written_both (first lows highs) (others lows highs ++ fields.byte 10) _ _ _ _ _ _ c.put_range-next.ensures
          (written_both (others lows highs) (fields.byte 10) _ _ _ _ _ _ c.put_more_ranges-end.ensures c.put_byte.ensures)));
      short = field-short key (text.ranges lows highs) (12 * length lows) (value-short (goal.at.returns c).After-put_bytes-value);
    }
