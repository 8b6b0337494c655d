-- m is never above g: the highest state lies above the root's by no more than the sum of all that lie above it, and the lowest below it likewise.
-- Assumes nothing.
use mathlib.Core.List.{List, [], ◌∷◌}
use Prim.Native.Nat.{ℕ, zero, suc, ◌+◌, ◌≤◌}
use native.Mathlib.Omega.{arith}
use lib.IntN.{pos}
use Rattle.parsimony.specs.Lists.{sum, from}
use Rattle.parsimony.specs.Ordered.{distance}
use Rattle.parsimony.specs.Index.{highest, lowest, m, g}
use Rattle.parsimony.proofs.Ranges.Distances.{distance_is}

module _ (state : ℕ → ℕ) (ρ : ℕ) where
  abbrev far : ℕ → ℕ
  far k = distance (pos (state k)) (pos (state ρ))

  -- a state is within its distance from the root's state, on either side
  far_up : (k : ℕ) → state k ≤ state ρ + far k
  far_up k = omega (arith, distance_is (pos (state k)) (pos (state ρ)))

  far_down : (k : ℕ) → state ρ ≤ state k + far k
  far_down k = omega (arith, distance_is (pos (state k)) (pos (state ρ)))

  module _ (v : ℕ) where
    -- so are the highest and the lowest, of v and a list of taxa, within all their distances
    highest_near : (ks : List ℕ) → highest state v ks ≤ state ρ + (far v + sum far ks)
    highest_near [] = omega (arith, far_up v)
    highest_near (k ∷ ks) = omega (arith, far_up k, highest_near ks)

    lowest_near : (ks : List ℕ) → state ρ ≤ lowest state v ks + (far v + sum far ks)
    lowest_near [] = omega (arith, far_down v)
    lowest_near (k ∷ ks) = omega (arith, far_down k, lowest_near ks)

    -- and from each other
    spread : (ks : List ℕ) → highest state v ks ≤ lowest state v ks + (far v + sum far ks)
    spread [] = omega arith
    spread (k ∷ ks) = omega (arith, far_up k, far_down k, highest_near ks, lowest_near ks, spread ks)

    -- the state of v is between them
    from_lowest : (ks : List ℕ) → lowest state v ks ≤ state v
    from_lowest [] = omega arith
    from_lowest (k ∷ ks) = omega (arith, from_lowest ks)

    to_highest : (ks : List ℕ) → state v ≤ highest state v ks
    to_highest [] = omega arith
    to_highest (k ∷ ks) = omega (arith, to_highest ks)

-- document 01's m and g, of one character: g - m is a difference of states' distances, and never less than 0
pub m-most : (n : ℕ) (state : ℕ → ℕ) (ρ : ℕ) → m n state ≤ g n state ρ
m-most zero state ρ = omega arith
m-most (suc n) state ρ =
    omega (arith, spread state ρ 1 (from 2 n), from_lowest state ρ 1 (from 2 n), to_highest state ρ 1 (from 2 n))
