-- How high m and g can be where no state is above 9999.
-- Assumes nothing.
use mathlib.Core.List.{List}
use Prim.Native.Nat.{ℕ, ◌*◌, ◌≤◌}
use native.Mathlib.Omega.{arith}
use native.Mathlib.Nat.{mul-le-mul_right}
use lib.IntN.{pos}
use Rattle.parsimony.specs.Matrix.{state_of}
use Rattle.parsimony.specs.Ordered.{distance}
use Rattle.parsimony.specs.Index as index
use Rattle.parsimony.proofs.Sums.{sum-most}
use Rattle.parsimony.proofs.Spread.{m_is}
use Rattle.parsimony.proofs.Ranges.Distances.{distance_is}
use Rattle.extents.specs.Extents.{Cells}

module _ (n c : ℕ) (matrix : List ℕ) (C : Cells n c matrix) where
  -- m is a difference of two states
  pub m-small : (j : ℕ) → 1 ≤ j → j ≤ c → index.m n (state_of matrix c j) ≤ 9999
  m-small j p q =
      let (a, b, (pa, qa), r, e) = (m_is n (state_of matrix c j) C.least).1 in
      omega (arith, C.small j a p q pa qa)

  -- g is a sum of n of them
  pub g-small : (j ρ : ℕ) → 1 ≤ j → j ≤ c → 1 ≤ ρ → ρ ≤ n → index.g n (state_of matrix c j) ρ ≤ 2559744
  g-small j ρ p q r s =
      omega (arith, sum-most (λ k. distance (pos (state_of matrix c j k)) (pos (state_of matrix c j ρ))) 9999 n each, most)
    where
      each : (k : ℕ) → 1 ≤ k → k ≤ n → distance (pos (state_of matrix c j k)) (pos (state_of matrix c j ρ)) ≤ 9999
      each k u v =
          omega (arith, distance_is (pos (state_of matrix c j k)) (pos (state_of matrix c j ρ)), C.small j k p q u v, C.small j ρ p q r s)

      most : n * 9999 ≤ 256 * 9999
      most = mul-le-mul_right 9999 C.most
