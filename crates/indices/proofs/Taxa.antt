-- The highest state, the lowest and the sum of distances, over one taxon more.
-- Assumes nothing.
use mathlib.Core.Path.{◌≡◌, ◌∙◌, ap}
use mathlib.Core.List.{List, [], ◌∷◌}
use Prim.Native.Nat.{ℕ, zero, suc, ◌+◌, ◌≤◌, min, max}
use native.Mathlib.Nat.{add-zero}
use native.Mathlib.Numerals.{add-one}
use native.Mathlib.Omega.{arith}
use Rattle.parsimony.specs.Lists.{from}
use Rattle.parsimony.specs.Index.{highest, lowest}

one_more : (t : ℕ) → 1 + t ≡ suc t
one_more t = omega arith

shift : (b s : ℕ) → suc b + s ≡ b + suc s
shift b s = omega arith

module _ (f : ℕ → ℕ) (v : ℕ) where
  highest-more : (a t : ℕ) → highest f v (from a (suc t)) ≡ max (highest f v (from a t)) (f (a + t))
  highest-more a zero = omega (arith, ap f (add-zero a))
  highest-more a (suc t) = omega (arith, highest-more (suc a) t, ap f (shift a t))

  lowest-more : (a t : ℕ) → lowest f v (from a (suc t)) ≡ min (lowest f v (from a t)) (f (a + t))
  lowest-more a zero = omega (arith, ap f (add-zero a))
  lowest-more a (suc t) = omega (arith, lowest-more (suc a) t, ap f (shift a t))

  pub highest_next : (t : ℕ) → highest f v (from 1 (t + 1)) ≡ max (highest f v (from 1 t)) (f (t + 1))
  highest_next t = rw (add-one t) (highest-more 1 t ∙ ap (λ k. max (highest f v (from 1 t)) (f k)) (one_more t))

  pub lowest_next : (t : ℕ) → lowest f v (from 1 (t + 1)) ≡ min (lowest f v (from 1 t)) (f (t + 1))
  lowest_next t = rw (add-one t) (lowest-more 1 t ∙ ap (λ k. min (lowest f v (from 1 t)) (f k)) (one_more t))

  pub lowest-highest : (ks : List ℕ) → lowest f v ks ≤ highest f v ks
  lowest-highest [] = omega arith
  lowest-highest (k ∷ ks) = omega (arith, lowest-highest ks)
