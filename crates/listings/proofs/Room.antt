-- How much room lists need: a 16-bit number has 5 digits at the most, and one byte stands behind each.
-- Assumes nothing.
use mathlib.Core.List.{List, [], ◌∷◌, ◌++◌}
use Prim.Native.Nat.{ℕ, suc, ◌*◌, ◌≤◌, ◌<◌}
use native.Mathlib.Omega.{arith}
use lib.ListN.{length, get_or, length-append}
use Rattle.numbers.specs.Printed.{decimal, commas}
use Rattle.printing.proofs.Lengths.{tens, decimal-short, AllBelow, commas-short}
use Rattle.fields.specs.Fields.{byte}
use Rattle.listings.specs.Ranges.{range, more_ranges, ranges}

-- each number of a list of 16-bit numbers has 5 digits at the most
pub all-below : (vs : List ℕ) → ((i : ℕ) → get_or vs i 0 < 65536) → AllBelow (tens 5) vs
all-below [] h = tt
all-below (v ∷ vs) h = (omega (arith, h 0), all-below vs (λ i. h (suc i)))

pub list-short : (vs : List ℕ) → ((i : ℕ) → get_or vs i 0 < 65536) → length (commas vs) ≤ 6 * length vs
list-short vs h = commas-short 4 vs (all-below vs h)

range-short : (low high : ℕ) → low < tens 5 → high < tens 5 → length (range low high) ≤ 11
range-short low high p q =
    omega (arith, length-append (decimal low) (byte 45 ++ decimal high), decimal-short 4 low p, decimal-short 4 high q)

more-short : (lows highs : List ℕ) → AllBelow (tens 5) lows → AllBelow (tens 5) highs → length (more_ranges lows highs) ≤ 12 * length lows
unfolding more_ranges
more-short [] highs p q = omega arith
more-short (l ∷ ls) [] p q = omega arith
more-short (l ∷ ls) (h ∷ hs) p q =
    omega (arith, length-append (range l h) (more_ranges ls hs), range-short l h p.0 q.0, more-short ls hs p.1 q.1)

pub ranges-short : (lows highs : List ℕ) → ((i : ℕ) → get_or lows i 0 < 65536) → ((i : ℕ) → get_or highs i 0 < 65536)
    → length (ranges lows highs) ≤ 12 * length lows
unfolding ranges
ranges-short [] highs p q = omega arith
ranges-short (l ∷ ls) [] p q = omega arith
ranges-short (l ∷ ls) (h ∷ hs) p q =
    let a = all-below (l ∷ ls) p in
    let b = all-below (h ∷ hs) q in
    omega (arith, length-append (range l h) (more_ranges ls hs), range-short l h a.0 b.0, more-short ls hs a.1 b.1)
