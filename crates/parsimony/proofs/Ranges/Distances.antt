-- Distances of integers, and of an integer from a range, by their signs: then `omega` can read them.
-- Assumes nothing.
use mathlib.Core.Path.{◌≡◌, refl, sym, ◌∙◌}
use mathlib.Core.Logic.{◌↔◌}
use mathlib.Core.Bool.{Bool, true, false, not, cond}
use mathlib.Core.HLevel.{is_prop→PathP}
use Prim.Native.Nat.{ℕ, zero, suc, ◌+◌, ◌-◌, ◌≤◌, ◌<◌, min, max}
use native.Mathlib.Bridge.{le_prop}
use native.Mathlib.Decide.{dec_le}
use native.Mathlib.Omega.{arith}
use lib.Dec.{T, ltb, ltb→lt, nltb→le}
use lib.IntN.{ℤ, pos, negsuc, nat_abs, sub_ℕ, pos-ne-negsuc}
use Rattle.parsimony.specs.Kind.{In}
use Rattle.parsimony.specs.Ordered.{distance, Range, Between, nearest, away, ordered}

-- ranges with the same ends are the same
pub range_same : (r q : Range) → r.low ≡ q.low → r.high ≡ q.high → r ≡ q
range_same r q a b = λ i. record {
  low = a i;
  high = b i;
  fits = is_prop→PathP (λ j. a j ≤ b j) (λ j. le_prop) r.fits q.fits i;
}

pub pos_same : (a b : ℕ) → pos a ≡ pos b → a ≡ b
pos_same a b e = cc

-- ---- two integers

abbrev pub apart : ℤ → ℤ → ℕ
apart (pos a) (pos b) = (a - b) + (b - a)
apart (pos a) (negsuc b) = a + suc b
apart (negsuc a) (pos b) = b + suc a
apart (negsuc a) (negsuc b) = (a - b) + (b - a)

apart-sub : (a b : ℕ) → nat_abs (sub_ℕ a b) ≡ (a - b) + (b - a)
apart-sub a b = go (ltb a b) (λ t. ltb→lt a b t) (λ t. nltb→le a b t)
  where
    go : (q : Bool) → (T q → a < b) → (T (not q) → b ≤ a) → nat_abs (cond q (negsuc (b - suc a)) (pos (a - b))) ≡ (a - b) + (b - a)
    go true h k = omega (arith, h tt)
    go false h k = omega (arith, k tt)

pub distance_is : (x y : ℤ) → distance x y ≡ apart x y
distance_is (pos a) (pos zero) = omega arith
distance_is (pos a) (pos (suc b)) = apart-sub a (suc b)
distance_is (pos a) (negsuc b) = refl
distance_is (negsuc a) (pos zero) = omega (arith, apart-sub 0 (suc a))
distance_is (negsuc a) (pos (suc b)) = omega arith
distance_is (negsuc a) (negsuc b) = omega (arith, apart-sub (suc b) (suc a))

pub apart_self : (x : ℤ) → apart x x ≡ 0
apart_self (pos a) = omega arith
apart_self (negsuc a) = omega arith

pub apart_sym : (x y : ℤ) → apart x y ≡ apart y x
apart_sym (pos a) (pos b) = omega arith
apart_sym (pos a) (negsuc b) = refl
apart_sym (negsuc a) (pos b) = refl
apart_sym (negsuc a) (negsuc b) = omega arith

-- ---- an integer and a range

abbrev pub off : ℤ → Range → ℕ
off (pos a) r = (r.low - a) + (a - r.high)
off (negsuc a) r = r.low + suc a

apart-nearest : (x : ℤ) (r : Range) → apart x (nearest r x) ≡ off x r
apart-nearest (pos a) r = omega (arith, r.fits)
apart-nearest (negsuc a) r = refl

pub away_is : (x : ℤ) (r : Range) → away x r ≡ off x r
away_is x r = distance_is x (nearest r x) ∙ apart-nearest x r

pub off-nearest : (r : Range) (x : ℤ) → off (nearest r x) r ≡ 0
off-nearest r (pos a) = omega (arith, r.fits)
off-nearest r (negsuc a) = omega (arith, r.fits)

pub off_by_way : (x y : ℤ) (r : Range) → off x r ≤ apart x y + off y r
off_by_way (pos a) (pos b) r = omega arith
off_by_way (pos a) (negsuc b) r = omega arith
off_by_way (negsuc a) (pos b) r = omega arith
off_by_way (negsuc a) (negsuc b) r = omega arith

-- to be in a range is to be one of its states
off-between : (r : Range) (x : ℤ) → (off x r ≡ 0) ↔ Between r.low r.high x
off-between r (pos a) = (λ e. (a, refl, omega arith, omega arith), λ (b, e, p, q). back b e p q)
  where
    back : (b : ℕ) → pos a ≡ pos b → r.low ≤ b → b ≤ r.high → off (pos a) r ≡ 0
    back b e p q = let a_is : a ≡ b = pos_same a b e in omega arith
off-between r (negsuc a) = (
  λ e. let z : ⊥ = omega arith in absurd z,
  λ (b, e, p, q). absurd (pos-ne-negsuc b a (sym e)),
)

pub in_range : (r : Range) (x : ℤ) → In ordered x r ↔ Between r.low r.high x
in_range r x = (
  λ e. (off-between r x).0 (sym (away_is x r) ∙ e),
  λ b. away_is x r ∙ (off-between r x).1 b,
)

-- ---- the nearest state of a range lies between a state and any other of the range

straight : (a c b : ℕ) → a ≤ c → c ≤ b → apart (pos a) (pos c) + apart (pos c) (pos b) ≡ apart (pos a) (pos b)
straight a c b h k = omega arith

straight_down : (a c b : ℕ) → c ≤ a → b ≤ c → apart (pos a) (pos c) + apart (pos c) (pos b) ≡ apart (pos a) (pos b)
straight_down a c b h k = omega arith

pub off_straight : (r : Range) (x y : ℤ) → off y r ≡ 0 → apart x (nearest r x) + apart (nearest r x) y ≡ apart x y
off_straight r (pos a) (pos b) h = go (dec_le a b)
  where
    go : Dec (a ≤ b) → apart (pos a) (nearest r (pos a)) + apart (nearest r (pos a)) (pos b) ≡ apart (pos a) (pos b)
    go (yes k) = straight a (max r.low (min a r.high)) b (omega arith) (omega arith)
    go (no k) = straight_down a (max r.low (min a r.high)) b (omega arith) (omega arith)
off_straight r (pos a) (negsuc b) h = omega arith
off_straight r (negsuc a) (pos b) h = omega arith
off_straight r (negsuc a) (negsuc b) h = omega arith
