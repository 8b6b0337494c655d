-- How much room the values of a report need: a number below 2 ^ 32 has 10 digits at the most, and thousandths 4.
-- Assumes nothing.
use mathlib.Core.List.{List, ◌++◌}
use Prim.Native.Nat.{ℕ, ◌+◌, ◌≤◌, ◌<◌}
use native.Mathlib.Omega.{arith}
use lib.ListN.{length, length-append}
use Rattle.numbers.specs.Printed.{decimal}
use Rattle.printing.specs.Writing.{Written}
use Rattle.printing.proofs.Laws.{written_both}
use Rattle.printing.proofs.Lengths.{decimal-short}
use Rattle.fields.specs.Fields.{byte, field, fraction, thousandths}
use Rattle.fields.specs.Proper.{AtMost}
use Rattle.fields.specs.Fitting.{Fitting}
use Rattle.fields.proofs.Pieces.{written-size}
use Rattle.fields.proofs.Rounding.{thousandths-most}

-- ---- numbers

pub ten_digits : (v : ℕ) → v < 4294967296 → length (decimal v) ≤ 10
ten_digits v h = decimal-short 9 v (omega arith)

pub four_digits : (over under : ℕ) → AtMost over under → length (decimal (thousandths over under)) ≤ 4
four_digits over under h = decimal-short 3 (thousandths over under) (omega (arith, thousandths-most over under h))

pub fraction-short : (over under : ℕ) → over < 4294967296 → under < 4294967296 → AtMost over under → length (fraction over under) ≤ 26
fraction-short over under p q h =
    omega (
      arith,
      length-append (decimal over) (byte 47 ++ (decimal under ++ (byte 44 ++ decimal (thousandths over under)))),
      length-append (decimal under) (byte 44 ++ decimal (thousandths over under)),
      ten_digits over p,
      ten_digits under q,
      four_digits over under h,
    )

-- a line, from the room of its value
pub field-short : (key value : List ℕ) (room : ℕ) → length value ≤ room → length (field key value) ≤ length key + (room + 1)
field-short key value room h = omega (arith, length-append key (value ++ byte 10), length-append value (byte 10))

-- ---- one piece after another

-- a text has the room of its length
pub whole : (before after : List ℕ) (at next : ℕ) (a : List ℕ) → Written before after at next a → Fitting before after at next a (length a)
whole before after at next a w = record { written = w; short = omega arith }

-- more room
pub looser : (before after : List ℕ) (at next : ℕ) (a : List ℕ) (p q : ℕ) → Fitting before after at next a p → p ≤ q
    → Fitting before after at next a q
looser before after at next a p q f h = record { written = f.written; short = omega (arith, f.short) }

-- two pieces, with the room of both
pub fitting-both : (a b before mid after : List ℕ) (at next end p q : ℕ) → Fitting before mid at next a p → Fitting mid after next end b q
    → Fitting before after at end (a ++ b) (p + q)
fitting-both a b before mid after at next end p q f g =
    record {
      written = written_both a b before mid after at next end f.written g.written;
      short = omega (arith, length-append a b, f.short, g.short);
    }

-- behind a piece there is room for the rest
pub fitting-rest : (before mid : List ℕ) (at next : ℕ) (a : List ℕ) (p q : ℕ) → Fitting before mid at next a p → at + (p + q) ≤ length before
    → next + q ≤ length mid
fitting-rest before mid at next a p q f h =
    omega (arith, f.written.next_is, f.short, written-size f.written)
