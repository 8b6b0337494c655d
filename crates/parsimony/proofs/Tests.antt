-- Tests that antt computes, and what holds where they pass. A fact about finitely many numbers is then one computation, and no case for each.
-- Assumes nothing.
use mathlib.Core.Path.{◌≡◌, refl, sym, subst}
use mathlib.Core.Bool.{Bool, true, false, ◌&&◌, ◌||◌}
use mathlib.Core.List.{List, [], ◌∷◌, map}
use Prim.Native.Nat.{ℕ, zero, suc, ◌+◌, ◌≤◌, ◌<◌}
use native.Mathlib.Decide.{ℕ_discrete}
use native.Mathlib.Omega.{arith}
use lib.Dec.{T, eqb, eqb→eq}
use Rattle.parsimony.specs.Lists.{from}
use Rattle.parsimony.specs.Ordered.{Range}
use Rattle.parsimony.proofs.Ranges.Distances.{range_same}

-- all of some tests pass, and each of them
abbrev pub all : List Bool → Bool
all [] = true
all (b ∷ bs) = b && all bs

abbrev pub Each : List Bool → Type 0
Each [] = Unit {0}
Each (b ∷ bs) = T b × Each bs

pub all-each : (bs : List Bool) → T (all bs) → Each bs
all-each [] h = tt
all-each (true ∷ bs) h = (tt, all-each bs h)
all-each (false ∷ bs) h = absurd h

-- one of two passes: where the first does not hold, the second does
pub or_else : {A : Type 0} (a b : Bool) → (T a → A) → (T b → A) → T (a || b) → A
or_else true b f g h = f tt
or_else false b f g h = g h

-- a test passes at each number of a list
abbrev pub every : (ℕ → Bool) → List ℕ → Bool
every f ks = all (map f ks)

pub every-at : (f : ℕ → Bool) (a c : ℕ) → T (every f (from a c)) → (k : ℕ) → a ≤ k → k < a + c → T (f k)
every-at f a zero h k p q = let z : ⊥ = omega arith in absurd z
every-at f a (suc c) h k p q = go (f a) refl h (ℕ_discrete a k) (λ t r. every-at f (suc a) c t k r (omega arith))
  where
    go : (b : Bool) → f a ≡ b → T (b && every f (from (suc a) c)) → Dec (a ≡ k) → (T (every f (from (suc a) c)) → suc a ≤ k → T (f k))
        → T (f k)
    go true e t (yes r) ih = subst (λ j. T (f j)) r (subst T (sym e) tt)
    go true e t (no r) ih = ih t (omega arith)
    go false e t d ih = absurd t

-- two ranges are the same
abbrev pub same_range : Range → Range → Bool
same_range r q = all (eqb r.low q.low ∷ eqb r.high q.high ∷ [])

pub same-range : (r q : Range) → T (same_range r q) → r ≡ q
same-range r q h =
    let e = all-each (eqb r.low q.low ∷ eqb r.high q.high ∷ []) h in
    range_same r q (eqb→eq r.low q.low e.0) (eqb→eq r.high q.high e.1.0)
