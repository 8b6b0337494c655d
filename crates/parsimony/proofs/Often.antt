-- How often a number stands in a list, by the places of the list.
-- Assumes nothing.
use mathlib.Core.Path.{◌≡◌, refl, ◌∙◌, ap}
use mathlib.Core.Logic.{◌≢◌}
use mathlib.Core.List.{List, [], ◌∷◌, ◌++◌}
use Prim.Native.Nat.{ℕ, zero, suc, ◌+◌, ◌≤◌, ◌<◌}
use native.Mathlib.Decide.{ℕ_discrete, dec_le}
use native.Mathlib.Omega.{arith}
use lib.ListN.{length, get_or, take}
use lib.Seq.{get_or-take}
use Rattle.parsimony.specs.Lists.{sum, from, same}
use Rattle.parsimony.proofs.Sums.{All, often, often-once, often-below, often_beyond, same_self, same-apart, same_sym}
use Rattle.parsimony.proofs.Sums.{sum-add, sum-append, sum_small, sum-zero, all_from, length_from}

-- one more at the end
pub often_snoc : (ks : List ℕ) (a v : ℕ) → often (ks ++ (a ∷ [])) v ≡ often ks v + same a v
often_snoc ks a v = omega (arith, sum-append (λ k. same k v) ks (a ∷ []))

-- the first i numbers have it no more often than all
pub often-take : (i : ℕ) (ks : List ℕ) (v : ℕ) → often (take i ks) v ≤ often ks v
often-take zero ks v = omega arith
often-take (suc i) [] v = omega arith
often-take (suc i) (k ∷ ks) v = omega (arith, often-take i ks v)

-- the number at a place stands there once more than before that place
pub often-before : (ks : List ℕ) (i : ℕ) → i < length ks → often (take i ks) (get_or ks i 0) + 1 ≤ often ks (get_or ks i 0)
often-before [] i h = omega arith
often-before (k ∷ ks) zero h = omega (arith, same_self k)
often-before (k ∷ ks) (suc i) h = omega (arith, often-before ks i (omega arith))

-- a number that stands at no place is not there
pub often_absent : (ks : List ℕ) (v : ℕ) → ((j : ℕ) → j < length ks → get_or ks j 0 ≢ v) → often ks v ≡ 0
often_absent [] v h = refl
often_absent (k ∷ ks) v h = omega (arith, same-apart k v (h 0 (omega arith)), often_absent ks v (λ j l. h (suc j) (omega arith)))

-- one that is there stands at some place
pub often-found : (ks : List ℕ) (v : ℕ) → 1 ≤ often ks v → (j : ℕ) × (j < length ks) × (get_or ks j 0 ≡ v)
often-found [] v h = absurd (omega arith)
often-found (k ∷ ks) v h = go (ℕ_discrete k v) (often-found ks v)
  where
    go : Dec (k ≡ v) → (1 ≤ often ks v → (j : ℕ) × (j < length ks) × (get_or ks j 0 ≡ v))
        → (j : ℕ) × (j < length (k ∷ ks)) × (get_or (k ∷ ks) j 0 ≡ v)
    go (yes e) rest = (0, omega arith, e)
    go (no e) rest = let (j, l, f) = rest (omega (arith, same-apart k v e)) in (suc j, omega arith, f)

-- where no number is there twice, no two places have the same
pub one_place_each : (ks : List ℕ) → ((v : ℕ) → often ks v ≤ 1) → (i j : ℕ) → i < j → j < length ks → get_or ks i 0 ≢ get_or ks j 0
one_place_each ks h i j p q e =
    omega (
      arith,
      often-before ks j q,
      h (get_or ks j 0),
      earlier,
    )
  where
    earlier : 1 ≤ often (take j ks) (get_or ks j 0)
    earlier = found (take j ks) i (get_or ks j 0) (get_or-take j ks i 0 p ∙ e) (long ks j i p q)
      where
        long : (ks : List ℕ) (j i : ℕ) → i < j → j < length ks → i < length (take j ks)
        long [] j i p q = absurd (omega arith)
        long (k ∷ ks) zero i p q = absurd (omega arith)
        long (k ∷ ks) (suc j) zero p q = omega arith
        long (k ∷ ks) (suc j) (suc i) p q = omega (arith, long ks j i (omega arith) (omega arith))

        found : (l : List ℕ) (i v : ℕ) → get_or l i 0 ≡ v → i < length l → 1 ≤ often l v
        found l i v e h = omega (arith, often-before l i h, ap (often l) e)

-- ---- the numbers of a run

swapped : (k : ℕ) (vs : List ℕ) → sum (same k) vs ≡ often vs k
swapped k [] = refl
swapped k (v ∷ vs) = omega (arith, swapped k vs, same_sym k v)

-- how many of the list are in the run
counted : (a m : ℕ) (ks : List ℕ) → sum (often ks) (from a m) ≤ length ks
counted a m [] = omega (arith, sum-zero (from a m))
counted a m (k ∷ ks) = omega (arith, sum-add (same k) (often ks) (from a m), swapped k (from a m), often-most a m k, counted a m ks)
  where
    often-most : (a m k : ℕ) → often (from a m) k ≤ 1
    often-most a m k = go (dec_le a k) (dec_le (a + m) k)
      where
        go : Dec (a ≤ k) → Dec (a + m ≤ k) → often (from a m) k ≤ 1
        go (yes p) (no q) = omega (arith, often-once a m k p (omega arith))
        go (no p) d = omega (arith, often-below a m k (omega arith))
        go (yes p) (yes q) = omega (arith, often_beyond a m k q)

counted_all : (a m : ℕ) (ks : List ℕ) → ((j : ℕ) → j < length ks → (a ≤ get_or ks j 0) × (get_or ks j 0 < a + m)) → sum (often ks) (from a m) ≡ length ks
counted_all a m [] h = sum-zero (from a m)
counted_all a m (k ∷ ks) h =
    let (p, q) = h 0 (omega arith) in
    omega (
      arith,
      sum-add (same k) (often ks) (from a m),
      swapped k (from a m),
      often-once a m k p q,
      counted_all a m ks (λ j l. h (suc j) (omega arith)),
    )

-- numbers of a run, none of them twice, are no more than the run has
pub few_distinct : (a m : ℕ) (ks : List ℕ) → ((j : ℕ) → j < length ks → (a ≤ get_or ks j 0) × (get_or ks j 0 < a + m)) → ((v : ℕ) → often ks v ≤ 1)
    → length ks ≤ m
few_distinct a m ks inside once =
    omega (
      arith,
      counted_all a m ks inside,
      sum_small (often ks) (from a m) (all_from (λ v. often ks v ≤ 1) a m (λ v p q. once v)),
      length_from a m,
    )

-- and where each is there, they are no fewer
pub all_there : (a m : ℕ) (ks : List ℕ) → ((v : ℕ) → a ≤ v → v < a + m → 1 ≤ often ks v) → m ≤ length ks
all_there a m ks h = omega (arith, counted a m ks, at_least (from a m) (all_from (λ v. 1 ≤ often ks v) a m h), length_from a m)
  where
    at_least : (vs : List ℕ) → All (λ v. 1 ≤ often ks v) vs → length vs ≤ sum (often ks) vs
    at_least [] h = omega arith
    at_least (v ∷ vs) h = omega (arith, at_least vs h.1, h.0)
