-- The innermost range of a chain has the middle two of the ends in rising order: so the join of m ranges is from the m-th to the (m + 1)-th of
-- their 2 m ends.
-- Assumes nothing.
use mathlib.Core.Path.{◌≡◌, refl, sym, ◌∙◌, ap}
use mathlib.Core.List.{List, [], ◌∷◌}
use Prim.Native.Nat.{ℕ, zero, suc, ◌+◌, ◌-◌, ◌≤◌, ◌<◌, min, max}
use native.Mathlib.Decide.{dec_le}
use native.Mathlib.Omega.{arith}
use lib.ListN.{length, get_or}
use Rattle.parsimony.specs.Lists.{sum}
use Rattle.parsimony.specs.Ordered.{Range, ends, insert, sorted}
use Rattle.parsimony.proofs.Ranges.Chains.{inner, link, chain, innermost, last, swap, Within, Nest, Nested, nested_chain}

-- ---- numbers in rising order

-- each at least the one before, the first at least a
abbrev Rising : ℕ → List ℕ → Type 0
Rising a [] = Unit {0}
Rising a (b ∷ bs) = (a ≤ b) × Rising b bs

abbrev pub Sorted : List ℕ → Type 0
Sorted [] = Unit {0}
Sorted (a ∷ bs) = Rising a bs

rising_from : (a b : ℕ) (bs : List ℕ) → a ≤ b → Rising b bs → Rising a bs
rising_from a b [] h s = tt
rising_from a b (d ∷ ds) h s = (omega arith, s.1)

rising_insert : (c a : ℕ) (bs : List ℕ) → c ≤ a → Rising c bs → Rising c (insert a bs)
unfolding insert
rising_insert c a [] h s = (h, tt)
rising_insert c a (b ∷ bs) h s = (omega arith, rising_insert (min a b) (max a b) bs (omega arith) (rising_from (min a b) b bs (omega arith) s.1))

sorted_insert : (a : ℕ) (bs : List ℕ) → Sorted bs → Sorted (insert a bs)
unfolding insert
sorted_insert a [] s = tt
sorted_insert a (b ∷ bs) s = rising_insert (min a b) (max a b) bs (omega arith) (rising_from (min a b) b bs (omega arith) s)

pub sorted_is : (bs : List ℕ) → Sorted (sorted bs)
unfolding sorted
sorted_is [] = tt
sorted_is (a ∷ bs) = sorted_insert a (sorted bs) (sorted_is bs)

-- and they are the same numbers: any function sums to the same over them
sum-insert : (A : ℕ → ℕ) (a : ℕ) (bs : List ℕ) → sum A (insert a bs) ≡ A a + sum A bs
unfolding insert
sum-insert A a [] = refl
sum-insert A a (b ∷ bs) = omega (arith, sum-insert A (max a b) bs, swap A a b)

pub sum-sorted : (A : ℕ → ℕ) (bs : List ℕ) → sum A (sorted bs) ≡ sum A bs
unfolding sorted
sum-sorted A [] = refl
sum-sorted A (a ∷ bs) = omega (arith, sum-insert A a (sorted bs), sum-sorted A bs)

-- ---- what stands at a place of a sorted list

-- 1 at a number below v, and at one that is at most v
under : ℕ → ℕ → ℕ
under v e = 1 - (suc e - v)

at_most : ℕ → ℕ → ℕ
at_most v e = 1 - (e - v)

under_no : (v e : ℕ) → v ≤ e → under v e ≡ 0
unfolding under
under_no v e h = omega arith

under-small : (v e : ℕ) → under v e ≤ 1
unfolding under
under-small v e = omega arith

at_most_yes : (v e : ℕ) → e ≤ v → at_most v e ≡ 1
unfolding at_most
at_most_yes v e h = omega arith

none-under : (v a : ℕ) (bs : List ℕ) → v ≤ a → Rising a bs → sum (under v) bs ≡ 0
unfolding under
none-under v a [] h u = refl
none-under v a (b ∷ bs) h u = omega (arith, none-under v b bs (omega arith) u.1)

none_at_most : (v a : ℕ) (bs : List ℕ) → v < a → Rising a bs → sum (at_most v) bs ≡ 0
unfolding at_most
none_at_most v a [] h u = refl
none_at_most v a (b ∷ bs) h u = omega (arith, none_at_most v b bs (omega arith) u.1)

rising_sorted : (a : ℕ) (bs : List ℕ) → Rising a bs → Sorted bs
rising_sorted a [] u = tt
rising_sorted a (b ∷ bs) u = u.1

-- v stands at the place i where at most i numbers are below it and more than i are at most it
stands : (v i : ℕ) (es : List ℕ) → Sorted es → sum (under v) es ≤ i → i < sum (at_most v) es → get_or es i 0 ≡ v
unfolding under at_most
stands v i [] s h k = omega arith
stands v zero (a ∷ bs) s h k = go (dec_le a v)
  where
    go : Dec (a ≤ v) → a ≡ v
    go (yes p) = omega arith
    go (no p) = omega (arith, none_at_most v a bs (omega arith) s)
stands v (suc i) (a ∷ bs) s h k = stands v i bs (rising_sorted a bs s) (few (dec_le v a)) (many (dec_le a v))
  where
    few : Dec (v ≤ a) → sum (under v) bs ≤ i
    few (yes p) = omega (arith, none-under v a bs p s)
    few (no p) = omega arith

    many : Dec (a ≤ v) → i < sum (at_most v) bs
    many (yes p) = omega arith
    many (no p) = omega (arith, none_at_most v a bs (omega arith) s)

-- ---- the ends of a chain

-- pairing the ends anew keeps them
sum-link-ends : (A : ℕ → ℕ) (r : Range) (cs : List Range) → sum A (ends (link r cs)) ≡ A r.low + (A r.high + sum A (ends cs))
unfolding link
sum-link-ends A r [] = refl
sum-link-ends A r (c ∷ cs) =
    omega (
      arith,
      sum-link-ends A (inner c r) cs,
      swap A c.low r.low,
      swap A c.high r.high,
      swap A (max c.low r.low) (min c.high r.high),
    )

sum-chain-ends : (A : ℕ → ℕ) (rs : List Range) → sum A (ends (chain rs)) ≡ sum A (ends rs)
unfolding chain
sum-chain-ends A [] = refl
sum-chain-ends A (r ∷ rs) = omega (arith, sum-link-ends A r (chain rs), sum-chain-ends A rs)

length-link : (r : Range) (cs : List Range) → length (link r cs) ≡ suc (length cs)
unfolding link
length-link r [] = refl
length-link r (c ∷ cs) = ap suc (length-link (inner c r) cs)

length-chain : (rs : List Range) → length (chain rs) ≡ length rs
unfolding chain
length-chain [] = refl
length-chain (r ∷ rs) = length-link r (chain rs) ∙ ap suc (length-chain rs)

nest_last : (c : Range) (cs : List Range) → Nest c cs → Within c (last c cs)
unfolding last
nest_last c [] h = (omega arith, omega arith)
nest_last c (d ∷ ds) h = let k = nest_last d ds h.1 in (omega (arith, k.0), omega (arith, k.1))

-- how the ends of a chain stand to its innermost two
record Counts (c : Range) (cs : List Range) : Type 0 where
  low-under : sum (under (last c cs).low) (ends (c ∷ cs)) ≤ length cs
  low_at_most : length cs < sum (at_most (last c cs).low) (ends (c ∷ cs))
  high-under : sum (under (last c cs).high) (ends (c ∷ cs)) ≤ suc (length cs)
  high_at_most : suc (length cs) < sum (at_most (last c cs).high) (ends (c ∷ cs))

counts : (c : Range) (cs : List Range) → Nest c cs → Counts c cs
unfolding last
counts c [] h =
    let l : ℕ = c.low in
    let u : ℕ = c.high in
    record {
      low-under = omega (arith, under_no l l (omega arith), under_no l u c.fits);
      low_at_most = omega (arith, at_most_yes l l (omega arith));
      high-under = omega (arith, under-small u l, under_no u u (omega arith));
      high_at_most = omega (arith, at_most_yes u l c.fits, at_most_yes u u (omega arith));
    }
counts c (d ∷ ds) h =
    let k = counts d ds h.1 in
    let i = nest_last c (d ∷ ds) h in
    let l : ℕ = (last d ds).low in
    let u : ℕ = (last d ds).high in
    let f : l ≤ u = (last d ds).fits in
    record {
      low-under = omega (arith, k.low-under, under-small l c.low, under_no l c.high (omega (arith, i.1)));
      low_at_most = omega (arith, k.low_at_most, at_most_yes l c.low i.0);
      high-under = omega (arith, k.high-under, under-small u c.low, under_no u c.high i.1);
      high_at_most = omega (arith, k.high_at_most, at_most_yes u c.low (omega (arith, i.0)));
    }

middle_of : (cs : List Range) (m : ℕ) (es : List ℕ) → Nested cs → length cs ≡ suc m → Sorted es
    → ((A : ℕ → ℕ) → sum A es ≡ sum A (ends cs))
    → (get_or es m 0 ≡ (innermost cs).low) × (get_or es (suc m) 0 ≡ (innermost cs).high)
unfolding innermost
middle_of [] m es h n s e = (omega arith, omega arith)
middle_of (c ∷ cs) m es h n s e =
    let k = counts c cs h in
    let l : ℕ = (last c cs).low in
    let u : ℕ = (last c cs).high in (
      stands l m es s (omega (arith, k.low-under, e (under l))) (omega (arith, k.low_at_most, e (at_most l))),
      stands u (suc m) es s (omega (arith, k.high-under, e (under u))) (omega (arith, k.high_at_most, e (at_most u))),
    )

-- the ends in rising order, however they were sorted: the innermost range has the two in the middle
pub middle : (r : Range) (rs : List Range) (es : List ℕ) → Sorted es → ((A : ℕ → ℕ) → sum A es ≡ sum A (ends (r ∷ rs)))
    → (get_or es (length rs) 0 ≡ (innermost (chain (r ∷ rs))).low) × (get_or es (suc (length rs)) 0 ≡ (innermost (chain (r ∷ rs))).high)
middle r rs es s e =
    middle_of (chain (r ∷ rs)) (length rs) es (nested_chain (r ∷ rs)) (length-chain (r ∷ rs)) s
    (λ A. e A ∙ sym (sum-chain-ends A (r ∷ rs)))
