-- The highest and the lowest of a list of taxa: m is the greatest difference between two states.
-- Assumes nothing.
use mathlib.Core.Path.{◌≡◌, refl, sym, ◌∙◌, ap, ap₂}
use Prim.Native.Nat.{ℕ, zero, suc, ◌+◌, ◌-◌, ◌≤◌, ◌<◌, min, max}
use native.Mathlib.Decide.{ℕ_discrete, dec_le}
use native.Mathlib.Nat.{min-eq_left, min-eq_right, max-eq_left, max-eq_right}
use native.Mathlib.Omega.{arith}
use Rattle.parsimony.specs.Lists.{from}
use Rattle.parsimony.specs.Index.{highest, lowest, m}

module _ (f : ℕ → ℕ) (v : ℕ) where
  -- no state of a run of taxa is higher, and none is lower
  highest-bound : (a c k : ℕ) → a ≤ k → k < a + c → f k ≤ highest f v (from a c)
  highest-bound a zero k p q = omega arith
  highest-bound a (suc c) k p q = go (ℕ_discrete a k) (λ h. highest-bound (suc a) c k h (omega arith))
    where
      go : Dec (a ≡ k) → (suc a ≤ k → f k ≤ highest f v (from (suc a) c)) → f k ≤ max (f a) (highest f v (from (suc a) c))
      go (yes e) ih = omega (arith, ap f e)
      go (no e) ih = omega (arith, ih (omega arith))

  lowest-bound : (a c k : ℕ) → a ≤ k → k < a + c → lowest f v (from a c) ≤ f k
  lowest-bound a zero k p q = omega arith
  lowest-bound a (suc c) k p q = go (ℕ_discrete a k) (λ h. lowest-bound (suc a) c k h (omega arith))
    where
      go : Dec (a ≡ k) → (suc a ≤ k → lowest f v (from (suc a) c) ≤ f k) → min (f a) (lowest f v (from (suc a) c)) ≤ f k
      go (yes e) ih = omega (arith, ap f e)
      go (no e) ih = omega (arith, ih (omega arith))

  -- some taxon has it: v, or one of the run
  highest-met : (a c : ℕ) → 1 ≤ a → (n : ℕ) → a + c ≤ suc n → 1 ≤ v → v ≤ n → (k : ℕ) × ((1 ≤ k) × (k ≤ n)) × (f k ≡ highest f v (from a c))
  highest-met a zero p n h q l = (v, (q, l), refl)
  highest-met a (suc c) p n h q l = go (highest-met (suc a) c (omega arith) n (omega arith) q l) (dec_le (highest f v (from (suc a) c)) (f a))
    where
      go : (k : ℕ) × ((1 ≤ k) × (k ≤ n)) × (f k ≡ highest f v (from (suc a) c)) → Dec (highest f v (from (suc a) c) ≤ f a)
          → (k : ℕ) × ((1 ≤ k) × (k ≤ n)) × (f k ≡ max (f a) (highest f v (from (suc a) c)))
      go r (yes d) = (a, (p, omega arith), sym (max-eq_left d))
      go (k, b, e) (no d) =
          let d' : f a ≤ highest f v (from (suc a) c) = omega arith in
          (k, b, e ∙ sym (max-eq_right d'))

  lowest-met : (a c : ℕ) → 1 ≤ a → (n : ℕ) → a + c ≤ suc n → 1 ≤ v → v ≤ n → (k : ℕ) × ((1 ≤ k) × (k ≤ n)) × (f k ≡ lowest f v (from a c))
  lowest-met a zero p n h q l = (v, (q, l), refl)
  lowest-met a (suc c) p n h q l = go (lowest-met (suc a) c (omega arith) n (omega arith) q l) (dec_le (f a) (lowest f v (from (suc a) c)))
    where
      go : (k : ℕ) × ((1 ≤ k) × (k ≤ n)) × (f k ≡ lowest f v (from (suc a) c)) → Dec (f a ≤ lowest f v (from (suc a) c))
          → (k : ℕ) × ((1 ≤ k) × (k ≤ n)) × (f k ≡ min (f a) (lowest f v (from (suc a) c)))
      go r (yes d) = (a, (p, omega arith), sym (min-eq_left d))
      go (k, b, e) (no d) =
          let d' : lowest f v (from (suc a) c) ≤ f a = omega arith in
          (k, b, e ∙ sym (min-eq_right d'))

pub m_is : (n : ℕ) (state : ℕ → ℕ) → 1 ≤ n
    → ((i j : ℕ) → 1 ≤ i → i ≤ n → 1 ≤ j → j ≤ n → state i - state j ≤ m n state)
    × ((i : ℕ) × (j : ℕ) × ((1 ≤ i) × (i ≤ n)) × ((1 ≤ j) × (j ≤ n)) × (state i - state j ≡ m n state))
m_is n state h = (
  λ i j p q r s. omega (arith, highest-bound state 1 1 n i p (omega arith), lowest-bound state 1 1 n j r (omega arith)),
  let (i, bi, ei) = highest-met state 1 1 n (omega arith) n (omega arith) (omega arith) h in
      let (j, bj, ej) = lowest-met state 1 1 n (omega arith) n (omega arith) (omega arith) h in
      (i, j, bi, bj, ap₂ (λ a b. a - b) ei ej),
)
