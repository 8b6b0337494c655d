-- A search has one answer; what a test tells; and how a loop comes by it, one number at a time.
-- Assumes nothing.
use mathlib.Core.Path.{◌≡◌, refl, ap, subst}
use mathlib.Core.Bool.{Bool, true, false}
use Prim.Native.Nat.{ℕ, zero, suc, ◌+◌, ◌≤◌, ◌<◌}
use native.Mathlib.Decide.{ℕ_discrete, dec_le}
use native.Mathlib.Omega.{arith}
use Rattle.std.specs.Prelude.{Option, Some, None}
use Rattle.refusals.specs.Search.{Lowest, Never, Finds, Tells}

module _ (P : ℕ → Type 0) where
  -- ---- one answer

  pub lowest-one : (m k k' : ℕ) → Lowest P m k → Lowest P m k' → k ≡ k'
  lowest-one m k k' h h' = go (dec_le k k') (dec_le k' k)
    where
      go : Dec (k ≤ k') → Dec (k' ≤ k) → k ≡ k'
      go (yes p) (yes q) = omega arith
      go (no p) d = absurd (h.first k' h'.some (omega arith) h'.holds)
      go (yes p) (no q) = absurd (h'.first k h.some (omega arith) h.holds)

  pub lowest_never : (m k : ℕ) → Lowest P m k → Never P m → ⊥
  lowest_never m k h n = n k h.some h.most h.holds

  -- where there is no lowest, there is none
  pub never_lowest : (m : ℕ) → ((k : ℕ) → Lowest P m k → ⊥) → Never P m
  never_lowest m none k = below (suc k) k (omega arith)
    where
      below : (b k : ℕ) → k < b → 1 ≤ k → k ≤ m → P k → ⊥
      below zero k l p q h = omega arith
      below (suc b) k l p q h =
          none k (record { some = p; most = q; holds = h; first = λ j a c. below b j (omega arith) a (omega arith) })

  pub finds_one : (m : ℕ) (r r' : Option ℕ) → Finds P m r → Finds P m r' → r ≡ r'
  finds_one m (Some k) (Some k') h h' = ap Some (lowest-one m k k' h h')
  finds_one m (Some k) None h h' = absurd (lowest_never m k h h')
  finds_one m None (Some k) h h' = absurd (lowest_never m k h' h)
  finds_one m None None h h' = refl

  -- ---- a loop that has passed i numbers and found nothing

  pub never_none : Never P 0
  never_none k p q h = omega arith

  pub never_more : (i : ℕ) → Never P i → (P (i + 1) → ⊥) → Never P (i + 1)
  never_more i n h k p q = go (ℕ_discrete k (i + 1))
    where
      go : Dec (k ≡ i + 1) → P k → ⊥
      go (yes e) x = h (subst P e x)
      go (no e) x = n k p (omega arith) x

  pub lowest-here : (m i : ℕ) → i < m → Never P i → P (i + 1) → Lowest P m (i + 1)
  lowest-here m i l n h =
      record {
        some = omega arith;
        most = omega arith;
        holds = h;
        first = λ j p q. n j p (omega arith);
      }

  pub never_all : (m i : ℕ) → m ≤ i → Never P i → Never P m
  never_all m i l n k p q = n k p (omega arith)

  -- ---- what a search found, once its answer is known

  pub finds_at : (m k : ℕ) (r : Option ℕ) → Finds P m r → r ≡ Some k → Lowest P m k
  finds_at m k r h e = subst (Finds P m) e h

  pub finds_nowhere : (m : ℕ) (r : Option ℕ) → Finds P m r → r ≡ None → Never P m
  finds_nowhere m r h e = subst (Finds P m) e h

-- ---- what a yes or no tells

pub told : (P : Type 0) (b : Bool) → Tells P b → b ≡ true → P
told P true h e = h
told P false h e = let z : ◌≡◌ {A = ℕ} 0 1 = cc in let y : ⊥ = omega arith in absurd y

pub told_not : (P : Type 0) (b : Bool) → Tells P b → b ≡ false → P → ⊥
told_not P true h e p = let z : ◌≡◌ {A = ℕ} 0 1 = cc in omega arith
told_not P false h e p = h p
