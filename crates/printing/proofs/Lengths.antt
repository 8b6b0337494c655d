-- How long a number in print is at the most, and a list of numbers: what a slice of a fixed size needs.
-- Assumes nothing.
use mathlib.Core.Logic.{⊎_elim}
use mathlib.Core.List.{List, [], ◌∷◌}
use Prim.Native.Nat.{ℕ, zero, suc, ◌+◌, ◌*◌, ◌/◌, ◌≤◌, ◌<◌}
use native.Mathlib.Omega.{arith}
use native.Mathlib.Nat.{mul-suc, mul-zero}
use lib.ListN.{length, length-append}
use Rattle.numbers.specs.Printed.{decimal, continued, commas}
use Rattle.numbers.proofs.Laws.{below_or}
use Rattle.printing.proofs.Laws.{length-one, length_more}

-- 1 with k zeros
abbrev pub tens : ℕ → ℕ
tens zero = 1
tens (suc k) = 10 * tens k

-- a number below 1 with k + 1 zeros has k + 1 digits or fewer
pub decimal-short : (k n : ℕ) → n < tens (suc k) → length (decimal n) ≤ suc k
decimal-short zero n h = let low : n < 10 = omega arith in omega (arith, length-one n low)
decimal-short (suc k) n h =
    ⊎_elim
    (λ (low : n < 10). omega (arith, length-one n low))
    (λ (high : 10 ≤ n). omega (arith, length_more n high, decimal-short k (n / 10) (omega arith)))
    (below_or n 10)

-- each number of a list is below m
abbrev pub AllBelow : ℕ → List ℕ → Type 0
AllBelow m [] = Unit {0}
AllBelow m (v ∷ vs) = (v < m) × AllBelow m vs

continued-short : (k : ℕ) (vs : List ℕ) → AllBelow (tens (suc k)) vs → length (continued vs) ≤ (k + 2) * length vs
unfolding continued
continued-short k [] h = omega (arith, mul-zero (k + 2))
continued-short k (v ∷ vs) (low, h) =
    omega (
      arith,
      length-append (decimal v) (continued vs),
      decimal-short k v low,
      continued-short k vs h,
      mul-suc (k + 2) (length vs),
    )

-- with a comma for each number
pub commas-short : (k : ℕ) (vs : List ℕ) → AllBelow (tens (suc k)) vs → length (commas vs) ≤ (k + 2) * length vs
unfolding commas continued
commas-short k [] h = omega (arith, mul-zero (k + 2))
commas-short k (v ∷ vs) h = omega (arith, continued-short k (v ∷ vs) h)
