-- Ranges with their ends paired anew, so that each is within the one before. A sum of distances to the ranges is one to the chain and a constant,
-- and the innermost range of the chain is what the ranges are nearest to, in all.
-- Assumes nothing.
use mathlib.Core.Path.{◌≡◌, refl}
use mathlib.Core.List.{List, [], ◌∷◌}
use Prim.Native.Nat.{ℕ, ◌+◌, ◌-◌, ◌*◌, ◌≤◌, min, max}
use native.Mathlib.Nat.{min-eq_left, min-eq_right, max-eq_left, max-eq_right}
use native.Mathlib.Decide.{dec_le}
use native.Mathlib.Omega.{arith}
use lib.IntN.{ℤ, pos, negsuc}
use Rattle.parsimony.specs.Lists.{sum}
use Rattle.parsimony.specs.Ordered.{Range}
use Rattle.parsimony.proofs.Ranges.Distances.{apart, off}

-- two ranges, with their four ends paired anew: the outermost two, and the innermost two
abbrev pub outer : Range → Range → Range
outer r q = record { low = min r.low q.low; high = max r.high q.high; fits = omega (arith, r.fits, q.fits) }

abbrev pub inner : Range → Range → Range
inner r q =
    record {
      low = min (max r.low q.low) (min r.high q.high);
      high = max (max r.low q.low) (min r.high q.high);
      fits = omega arith;
    }

-- how far two ranges are apart
abbrev pub gap : Range → Range → ℕ
gap r q = max r.low q.low - min r.high q.high

-- a range worked into a chain, and what that takes
unfoldable pub link : Range → List Range → List Range
link r [] = r ∷ []
link r (c ∷ cs) = outer c r ∷ link (inner c r) cs

unfoldable pub gaps : Range → List Range → ℕ
gaps r [] = 0
gaps r (c ∷ cs) = gap c r + gaps (inner c r) cs

-- the chain of a list of ranges, and what it takes in all
unfoldable pub chain : List Range → List Range
chain [] = []
chain (r ∷ rs) = link r (chain rs)

unfoldable pub taken : List Range → ℕ
taken [] = 0
taken (r ∷ rs) = gaps r (chain rs) + taken rs

-- the innermost range of a chain
unfoldable pub last : Range → List Range → Range
last c [] = c
last c (d ∷ ds) = last d ds

unfoldable pub innermost : List Range → Range
innermost [] = record { low = 0; high = 0; fits = omega arith }
innermost (c ∷ cs) = last c cs

-- ---- sums of distances

-- a function of two ends does not see which is which
pub swap : (A : ℕ → ℕ) (a b : ℕ) → A (min a b) + A (max a b) ≡ A a + A b
swap A a b = go (dec_le a b)
  where
    go : Dec (a ≤ b) → A (min a b) + A (max a b) ≡ A a + A b
    go (yes h) = rw (min-eq_left h, max-eq_right h)
    go (no h) = let k : b ≤ a = omega arith in rw (min-eq_right k, max-eq_left k) (omega arith)

-- the distance to a range, by the distances to its ends
off-ends : (x : ℤ) (r : Range) → 2 * off x r + r.high ≡ apart x (pos r.low) + apart x (pos r.high) + r.low
off-ends (pos a) r = omega (arith, r.fits)
off-ends (negsuc a) r = omega (arith, r.fits)

gap_width : (a b : ℕ) → 2 * (a - b) + b + min a b ≡ max a b + a
gap_width a b = omega arith

-- two ranges and their pairing anew: with m and k the inner two ends,
-- 2 (off r + off q) + highs = sum over the ends + lows, before and after, and highs and lows differ by twice the gap
paired : (x : ℤ) (r q : Range) → off x r + off x q ≡ gap r q + (off x (outer r q) + off x (inner r q))
paired x r q =
    let A : ℕ → ℕ = λ e. apart x (pos e) in
    let m : ℕ = max r.low q.low in
    let k : ℕ = min r.high q.high in
    omega (
      arith,
      swap A r.low q.low,
      swap A r.high q.high,
      swap A m k,
      swap (λ e. e) r.low q.low,
      swap (λ e. e) r.high q.high,
      swap (λ e. e) m k,
      gap_width m k,
      off-ends x r,
      off-ends x q,
      off-ends x (outer r q),
      off-ends x (inner r q),
    )

sum-link : (x : ℤ) (r : Range) (cs : List Range) → off x r + sum (off x) cs ≡ gaps r cs + sum (off x) (link r cs)
unfolding link gaps
sum-link x r [] = omega arith
sum-link x r (c ∷ cs) = omega (arith, paired x c r, sum-link x (inner c r) cs)

pub sum-chain : (x : ℤ) (rs : List Range) → sum (off x) rs ≡ taken rs + sum (off x) (chain rs)
unfolding taken chain
sum-chain x [] = refl
sum-chain x (r ∷ rs) = omega (arith, sum-chain x rs, sum-link x r (chain rs))

-- ---- each range of a chain is within the one before

abbrev pub Within : Range → Range → Type 0
Within c d = (c.low ≤ d.low) × (d.high ≤ c.high)

abbrev pub Nest : Range → List Range → Type 0
Nest c [] = Unit {0}
Nest c (d ∷ ds) = Within c d × Nest d ds

abbrev pub Nested : List Range → Type 0
Nested [] = Unit {0}
Nested (c ∷ cs) = Nest c cs

nest_wider : (c d : Range) (ds : List Range) → Within c d → Nest d ds → Nest c ds
nest_wider c d [] h s = tt
nest_wider c d (e ∷ es) h s = ((omega arith, omega arith), s.1)

nest_link : (c r : Range) (cs : List Range) → Within c r → Nest c cs → Nest c (link r cs)
unfolding link
nest_link c r [] h s = (h, tt)
nest_link c r (d ∷ ds) h s = (
  (omega arith, omega arith),
  nest_link (outer d r) (inner d r) ds (omega arith, omega arith) (nest_wider (outer d r) d ds (omega arith, omega arith) s.1),
)

nested_link : (r : Range) (cs : List Range) → Nested cs → Nested (link r cs)
unfolding link
nested_link r [] s = tt
nested_link r (d ∷ ds) s =
    nest_link (outer d r) (inner d r) ds (omega arith, omega arith) (nest_wider (outer d r) d ds (omega arith, omega arith) s)

pub nested_chain : (rs : List Range) → Nested (chain rs)
unfolding chain
nested_chain [] = tt
nested_chain (r ∷ rs) = nested_link r (chain rs) (nested_chain rs)

-- ---- the innermost range

off-within : (x : ℤ) (c d : Range) → Within c d → off x c ≤ off x d
off-within (pos a) c d h = omega arith
off-within (negsuc a) c d h = omega arith

last_out : (x : ℤ) (c : Range) (cs : List Range) → off x (last c cs) ≤ off x c + sum (off x) cs
unfolding last
last_out x c [] = omega arith
last_out x c (d ∷ ds) = omega (arith, last_out x d ds)

last_in : (x : ℤ) (c : Range) (cs : List Range) → Nest c cs → off x (last c cs) ≡ 0 → off x c + sum (off x) cs ≡ 0
unfolding last
last_in x c [] h e = omega arith
last_in x c (d ∷ ds) h e = omega (arith, last_in x d ds h.1 e, off-within x c d h.0)

innermost-link : (x : ℤ) (r : Range) (cs : List Range) → off x (innermost (link r cs)) ≤ sum (off x) (link r cs)
unfolding link innermost
innermost-link x r [] = last_out x r []
innermost-link x r (c ∷ cs) = last_out x (outer c r) (link (inner c r) cs)

-- an integer is no farther from the innermost range than from all ranges of the chain
pub innermost_out : (x : ℤ) (r : Range) (rs : List Range) → off x (innermost (chain (r ∷ rs))) ≤ sum (off x) (chain (r ∷ rs))
unfolding chain
innermost_out x r rs = innermost-link x r (chain rs)

-- and who is in the innermost range is in all
pub innermost_in : (x : ℤ) (cs : List Range) → Nested cs → off x (innermost cs) ≡ 0 → sum (off x) cs ≡ 0
unfolding innermost
innermost_in x [] h e = refl
innermost_in x (c ∷ cs) h e = last_in x c cs h e
