-- To come to the root. A program finds out by climbing as often as there are nodes, or by an order in which each ancestor stands first; the
-- definition says: in some number of steps.
-- Assumes nothing.
use mathlib.Core.Path.{◌≡◌}
use mathlib.Core.List.{List}
use Prim.Native.Nat.{ℕ, zero, suc, ◌≤◌}
use native.Mathlib.Decide.{dec_le}
use native.Mathlib.Omega.{arith}
use lib.ListN.{length}
use Rattle.parsimony.specs.Table.{ancestor, climb}

module _ (tree : List ℕ) (ρ : ℕ) (sole : (k : ℕ) → 1 ≤ k → k ≤ length tree → ancestor tree k ≡ 0 → k ≡ ρ)
    (within : (k : ℕ) → ancestor tree k ≤ length tree) where
  -- whoever climbs out of the table passes the root, which has the only 0 entry
  pub out_by_root : (s k : ℕ) → 1 ≤ k → k ≤ length tree → climb tree s k ≡ 0 → (r : ℕ) × (climb tree r k ≡ ρ)
  out_by_root zero k p l e = let z : ⊥ = omega arith in absurd z
  out_by_root (suc s) k p l e = go (dec_le 1 (ancestor tree k)) (λ q. out_by_root s (ancestor tree k) q (within k) e)
    where
      go : Dec (1 ≤ ancestor tree k) → (1 ≤ ancestor tree k → (r : ℕ) × (climb tree r (ancestor tree k) ≡ ρ)) → (r : ℕ) × (climb tree r k ≡ ρ)
      go (yes q) ih = let (r, h) = ih q in (suc r, h)
      go (no q) ih = (0, sole k p l (omega arith))
