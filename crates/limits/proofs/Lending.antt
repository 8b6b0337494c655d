-- What is known of a slice that is not refused, and of n and c in their limits.
-- Assumes nothing.
use mathlib.Core.Path.{◌≡◌, refl}
use mathlib.Core.Logic.{◌≢◌, inl, inr, ⊎_elim}
use Prim.Native.Nat.{ℕ, ◌<◌}
use native.Mathlib.Decide.{ℕ_discrete}
use native.Mathlib.Omega.{arith, by_contra}
use Rattle.refusals.specs.Checks.{at, Clear}
use Rattle.limits.specs.Limits.{Outside, InLimits}

-- ---- one slice

-- a slice that is not refused is exact
pub exact-clear : (i has asked : ℕ) → Clear (at 2 i (has ≢ asked)) → has ≡ asked
exact-clear i has asked h = go (ℕ_discrete has asked)
  where
    go : Dec (has ≡ asked) → has ≡ asked
    go (yes e) = e
    go (no d) = absurd (h i (refl, d))

-- ---- the limits

pub in_limits : (n c : ℕ) → (Outside n c → ⊥) → InLimits n c
in_limits n c h =
    record {
      least = by_contra 3 n (λ l. h (inl l));
      most = by_contra n 256 (λ l. h (inr (inl l)));
      some = by_contra 1 c (λ l. h (inr (inr (inl l))));
      few = by_contra c 512 (λ l. h (inr (inr (inr l))));
    }

pub not_outside : (n c : ℕ) → InLimits n c → Outside n c → ⊥
not_outside n c L h =
    ⊎_elim (λ (l : n < 3). omega (arith, L.least))
    (λ h₁. ⊎_elim (λ (l : 256 < n). omega (arith, L.most))
    (λ h₂. ⊎_elim (λ (l : c < 1). omega (arith, L.some)) (λ (l : 512 < c). omega (arith, L.few)) h₂) h₁) h
