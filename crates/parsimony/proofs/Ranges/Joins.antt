-- The join of two ranges in each of its forms, and that of three. A number is known by the numbers that it is at most: so where min and max pile up,
-- the ends of a range that are at most t are counted, 0, 1 or 2 of them.
-- Assumes nothing.
use mathlib.Core.Path.{◌≡◌, sym, ◌∙◌, ap, ap₂}
use mathlib.Core.Logic.{◌↔◌}
use mathlib.Core.List.{[], ◌∷◌}
use Prim.Native.Nat.{ℕ, ◌+◌, ◌-◌, ◌≤◌, ◌<◌, min, max}
use native.Mathlib.Decide.{dec_le}
use native.Mathlib.Nat.{min-eq_left, min-eq_right, max-eq_left, max-eq_right}
use native.Mathlib.Omega.{arith}
use mathlib.Core.Bool.{Bool}
use lib.Dec.{T, eqb, eqb→eq}
use lib.IntN.{ℤ, pos}
use Rattle.parsimony.specs.Kind.{In}
use Rattle.parsimony.specs.Ordered.{Range, span, point, Between, insert, sorted, join, cost, ordered}
use Rattle.parsimony.specs.Lists.{from}
use Rattle.parsimony.proofs.Tests.{every, every-at}
use Rattle.parsimony.proofs.Ranges.Distances.{range_same, pos_same, in_range}
use Rattle.parsimony.proofs.Ranges.Chains.{outer, inner, gap, link, gaps, chain, taken, last, innermost, swap}
use Rattle.parsimony.proofs.Ranges.Laws.{join-innermost, cost-taken}

-- ---- two ranges

abbrev pub join2 : Range → Range → Range
join2 r q = join (r ∷ q ∷ [])

abbrev pub cost2 : Range → Range → ℕ
cost2 r q = cost (r ∷ q ∷ [])

-- the inner two of the four ends
pub join-two : (r q : Range) → join2 r q ≡ inner q r
unfolding chain link innermost last
join-two r q = join-innermost r (q ∷ [])

pub cost-two : (r q : Range) → cost2 r q ≡ gap q r
unfolding taken chain link gaps
cost-two r q = cost-taken r (q ∷ []) ∙ omega arith

-- a join of two ranges goes no higher than they do
pub join-high : (r q : Range) (low high h : ℕ) → r.high ≤ h → q.high ≤ h → span low high ≡ join2 r q → low ≤ high → high ≤ h
join-high r q low high h a b e fits =
    let top : max low high ≡ _ = ap (λ (x : Range). x.high) (e ∙ join-two r q) in
    omega (arith, r.fits, q.fits)

-- and costs no more than they reach
pub cost-high : (r q : Range) (h : ℕ) → r.high ≤ h → q.high ≤ h → cost2 r q ≤ h
cost-high r q h a b = omega (arith, cost-two r q, r.fits, q.fits)

-- what document 01 says of a join and its cost: the overlap where the ranges meet; else the gap from the nearer end to the nearer end
pub record OverlapOrGap (r q j : Range) (c : ℕ) : Type 0 where
  pub meet : r.low ≤ q.high → q.low ≤ r.high → (j.low ≡ max r.low q.low) × (j.high ≡ min r.high q.high) × (c ≡ 0)
  pub left : r.high < q.low → (j.low ≡ r.high) × (j.high ≡ q.low) × (c + r.high ≡ q.low)
  pub right : q.high < r.low → (j.low ≡ q.high) × (j.high ≡ r.low) × (c + q.high ≡ r.low)

inner_words : (r q : Range) → OverlapOrGap r q (inner q r) (gap q r)
inner_words r q =
    let f = r.fits in
    let g = q.fits in
    record {
      meet = λ h k. (omega arith, omega arith, omega arith);
      left = λ h. (omega arith, omega arith, omega arith);
      right = λ h. (omega arith, omega arith, omega arith);
    }

pub join_words : (r q : Range) → OverlapOrGap r q (join2 r q) (cost2 r q)
join_words r q = rw (join-two r q, cost-two r q) (inner_words r q)

pub join_comm : (r q : Range) → join2 r q ≡ join2 q r
join_comm r q = join-two r q ∙ range_same (inner q r) (inner r q) (omega arith) (omega arith) ∙ sym (join-two q r)

-- ---- the paper's formula (3)

-- the median of three numbers
abbrev pub median : ℕ → ℕ → ℕ → ℕ
median a b c = max (min a b) (min (max a b) c)

median_up : (a b c : ℕ) → a ≤ b → median a b c ≡ max a (min b c)
median_up a b c h = rw (min-eq_left h, max-eq_right h)

median_down : (a b c : ℕ) → b ≤ a → median a b c ≡ max b (min a c)
median_down a b c h = rw (min-eq_right h, max-eq_left h)

-- two numbers in one order or the other
in_order : (a b y z : ℕ) → y ≡ a → z ≡ b → a ≤ b → (a ≡ min y z) × (b ≡ max y z)
in_order a b y z p q h = (omega arith, omega arith)

out_of_order : (a b y z : ℕ) → y ≡ b → z ≡ a → a ≤ b → (a ≡ min y z) × (b ≡ max y z)
out_of_order a b y z p q h = (omega arith, omega arith)

-- the two medians of the ends l ≤ h and l' ≤ h', by how the ranges stand
module _ (l h l' h' : ℕ) (f : l ≤ h) (g : l' ≤ h') where
  medians_meet : l ≤ h' → l' ≤ h
      → (max l l' ≡ min (median l h l') (median h l' h')) × (min h h' ≡ max (median l h l') (median h l' h'))
  medians_meet p q =
      in_order (max l l') (min h h') (median l h l') (median h l' h') (median_up l h l' f ∙ omega arith)
      (median_down h l' h' q ∙ omega arith) (omega arith)

  medians_left : h < l' → (h ≡ min (median l h l') (median h l' h')) × (l' ≡ max (median l h l') (median h l' h'))
  medians_left p =
      in_order h l' (median l h l') (median h l' h') (median_up l h l' f ∙ omega arith)
      (median_up h l' h' (omega arith) ∙ omega arith) (omega arith)

  medians_right : h' < l → (h' ≡ min (median l h l') (median h l' h')) × (l ≡ max (median l h l') (median h l' h'))
  medians_right p =
      out_of_order h' l (median l h l') (median h l' h') (median_up l h l' f ∙ omega arith)
      (median_down h l' h' (omega arith) ∙ omega arith) (omega arith)

-- y = median (low, high, low of the other), z = median (high, and both ends of the other): the join is from the lesser to the greater
pub join_medians : (r q : Range)
    → ((join2 r q).low ≡ min (median r.low r.high q.low) (median r.high q.low q.high))
    × ((join2 r q).high ≡ max (median r.low r.high q.low) (median r.high q.low q.high))
join_medians r q = go (dec_le q.low r.high) (dec_le r.low q.high)
  where
    go : Dec (q.low ≤ r.high) → Dec (r.low ≤ q.high)
        → ((join2 r q).low ≡ min (median r.low r.high q.low) (median r.high q.low q.high))
        × ((join2 r q).high ≡ max (median r.low r.high q.low) (median r.high q.low q.high))
    go (yes h) (yes k) =
        let (l, u, _) = (join_words r q).meet k h in
        let (e, d) = medians_meet r.low r.high q.low q.high r.fits q.fits k h in
        (l ∙ e, u ∙ d)
    go (no h) k =
        let (l, u, _) = (join_words r q).left (omega arith) in
        let (e, d) = medians_left r.low r.high q.low q.high r.fits q.fits (omega arith) in
        (l ∙ e, u ∙ d)
    go (yes h) (no k) =
        let (l, u, _) = (join_words r q).right (omega arith) in
        let (e, d) = medians_right r.low r.high q.low q.high r.fits q.fits (omega arith) in
        (l ∙ e, u ∙ d)

-- ---- counting the ends that are at most t

at_most : ℕ → ℕ → ℕ
at_most t e = 1 - (e - t)

at_most_small : (t e : ℕ) → at_most t e ≤ 1
unfolding at_most
at_most_small t e = omega arith

at_most_rise : (t a b : ℕ) → a ≤ b → at_most t b ≤ at_most t a
unfolding at_most
at_most_rise t a b h = omega arith

at_most_self : (t : ℕ) → at_most t t ≡ 1
unfolding at_most
at_most_self t = omega arith

at_most_yes : (t e : ℕ) → at_most t e ≡ 1 → e ≤ t
unfolding at_most
at_most_yes t e h = omega arith

at_most_min : (t a b : ℕ) → at_most t (min a b) ≡ max (at_most t a) (at_most t b)
at_most_min t a b = go (dec_le a b)
  where
    go : Dec (a ≤ b) → at_most t (min a b) ≡ max (at_most t a) (at_most t b)
    go (yes h) = rw (min-eq_left h) (sym (max-eq_left (at_most_rise t a b h)))
    go (no h) = let k : b ≤ a = omega arith in rw (min-eq_right k) (sym (max-eq_right (at_most_rise t b a k)))

-- and its mirror
at_most_max : (t a b : ℕ) → at_most t (max a b) ≡ min (at_most t a) (at_most t b)
at_most_max t a b = go (dec_le a b)
  where
    go : Dec (a ≤ b) → at_most t (max a b) ≡ min (at_most t a) (at_most t b)
    go (yes h) = rw (max-eq_right h) (sym (min-eq_right (at_most_rise t a b h)))
    go (no h) = let k : b ≤ a = omega arith in rw (max-eq_left k) (sym (min-eq_left (at_most_rise t b a k)))

-- a number is known by what it is at most
at_most_known : (a b : ℕ) → ((t : ℕ) → at_most t a ≡ at_most t b) → a ≡ b
at_most_known a b h =
    let p : b ≤ a = at_most_yes a b (sym (h a) ∙ at_most_self a) in
    let q : a ≤ b = at_most_yes b a (h b ∙ at_most_self b) in
    omega arith

-- how many ends of a range are at most t
tally : ℕ → Range → ℕ
tally t r = at_most t r.low + at_most t r.high

-- both ends are known from it
record Tallied (t : ℕ) (r : Range) : Type 0 where
  most : tally t r ≤ 2
  at_low : at_most t r.low ≡ min 1 (tally t r)
  at_high : at_most t r.high ≡ tally t r - 1

tallied : (t : ℕ) (r : Range) → Tallied t r
unfolding tally
tallied t r =
    let l = at_most_small t r.low in
    let d = at_most_rise t r.low r.high r.fits in
    record { most = omega arith; at_low = omega arith; at_high = omega arith }

-- of the four ends of two ranges the inner two are at most t where two are, and three
clamp : ℕ → ℕ
clamp s = min 2 (s - 1)

zero_one : (x x' y y' : ℕ) → x ≤ 1 → x' ≤ 1 → y ≤ x → y' ≤ x'
    → max (min x x') (max y y') + min (min x x') (max y y') ≡ min 2 ((x + y) + (x' + y') - 1)
zero_one x x' y y' a b c d = swap_back (min x x') (max y y') ∙ omega arith
  where
    swap_back : (a b : ℕ) → max a b + min a b ≡ a + b
    swap_back a b = omega arith

tally_inner : (t : ℕ) (r q : Range) → tally t (inner r q) ≡ clamp (tally t r + tally t q)
unfolding tally clamp
tally_inner t r q =
    ap₂ (λ a b. a + b)
    (at_most_min t (max r.low q.low) (min r.high q.high)
    ∙ ap₂ max (at_most_max t r.low q.low) (at_most_min t r.high q.high))
    (at_most_max t (max r.low q.low) (min r.high q.high)
    ∙ ap₂ min (at_most_max t r.low q.low) (at_most_min t r.high q.high))
    ∙ zero_one (at_most t r.low) (at_most t q.low) (at_most t r.high) (at_most t q.high) (at_most_small t r.low)
    (at_most_small t q.low) (at_most_rise t r.low r.high r.fits) (at_most_rise t q.low q.high q.fits)

-- and the outer two have the others
tally_outer : (t : ℕ) (r q : Range) → tally t (outer r q) + tally t (inner r q) ≡ tally t r + tally t q
unfolding tally
tally_outer t r q =
    let A : ℕ → ℕ = at_most t in
    let m : ℕ = max r.low q.low in
    let k : ℕ = min r.high q.high in
    omega (arith, swap A r.low q.low, swap A r.high q.high, swap A m k)

tally_two : (t : ℕ) (r q : Range) → tally t (join2 r q) ≡ clamp (tally t r + tally t q)
tally_two t r q = ap (tally t) (join-two r q) ∙ tally_inner t q r ∙ ap clamp (omega arith)

-- ---- three ranges

abbrev pub join3 : Range → Range → Range → Range
join3 a b c = join (a ∷ b ∷ c ∷ [])

pub join-three : (a b c : Range) → join3 a b c ≡ inner (inner c b) (inner (outer c b) a)
unfolding chain link innermost last
join-three a b c = join-innermost a (b ∷ c ∷ [])

-- two functions of three numbers up to 2, compared by a test that is computed
abbrev agree : (f g : ℕ → ℕ → ℕ → ℕ) → Bool
agree f g = every (λ a. every (λ b. every (λ c. eqb (f a b c) (g a b c)) (from 0 3)) (from 0 3)) (from 0 3)

agree_at : (f g : ℕ → ℕ → ℕ → ℕ) → T (agree f g) → (a b c : ℕ) → a ≤ 2 → b ≤ 2 → c ≤ 2 → f a b c ≡ g a b c
agree_at f g h a b c p q r =
    let at_a = every-at (λ a. every (λ b. every (λ c. eqb (f a b c) (g a b c)) (from 0 3)) (from 0 3)) 0 3 h a (omega arith) (omega arith) in
    let at_b = every-at (λ b. every (λ c. eqb (f a b c) (g a b c)) (from 0 3)) 0 3 at_a b (omega arith) (omega arith) in
    eqb→eq (f a b c) (g a b c) (every-at (λ c. eqb (f a b c) (g a b c)) 0 3 at_b c (omega arith) (omega arith))

-- of six ends the third and the fourth are at most t where three are, and four
clamp_three : (a b c : ℕ) → a ≤ 2 → b ≤ 2 → c ≤ 2
    → clamp (clamp (c + b) + clamp (((c + b) - clamp (c + b)) + a)) ≡ min 2 (a + b + c - 2)
unfolding clamp
clamp_three = agree_at (λ a b c. clamp (clamp (c + b) + clamp (((c + b) - clamp (c + b)) + a))) (λ a b c. min 2 (a + b + c - 2)) tt

tally_three : (t : ℕ) (a b c : Range) → tally t (join3 a b c) ≡ min 2 (tally t a + tally t b + tally t c - 2)
tally_three t a b c =
    let i : tally t (inner c b) ≡ clamp (tally t c + tally t b) = tally_inner t c b in
    let o : tally t (outer c b) ≡ (tally t c + tally t b) - clamp (tally t c + tally t b) = omega (arith, tally_outer t c b) in
    ap (tally t) (join-three a b c)
    ∙ tally_inner t (inner c b) (inner (outer c b) a)
    ∙ ap₂ (λ k m. clamp (k + m)) i (tally_inner t (outer c b) a ∙ ap (λ k. clamp (k + tally t a)) o)
    ∙ clamp_three (tally t a) (tally t b) (tally t c) (tallied t a).most (tallied t b).most (tallied t c).most

-- the ends of the paper's three-way intersection are at most t where those of the join are
way : ℕ → ℕ → ℕ → ℕ
way a b c = clamp (clamp (a + b) + c)

tally_way : (t : ℕ) (a b c : Range) → tally t (join2 (join2 a b) c) ≡ way (tally t a) (tally t b) (tally t c)
unfolding way
tally_way t a b c = tally_two t (join2 a b) c ∙ ap (λ k. clamp (k + tally t c)) (tally_two t a b)

three-low : (a b c : ℕ) → a ≤ 2 → b ≤ 2 → c ≤ 2
    → min 1 (min 2 (a + b + c - 2)) ≡ min (min (min 1 (way a b c)) (min 1 (way a c b))) (min 1 (way b c a))
unfolding way clamp
three-low =
    agree_at (λ a b c. min 1 (min 2 (a + b + c - 2))) (λ a b c. min (min (min 1 (way a b c)) (min 1 (way a c b))) (min 1 (way b c a))) tt

three-high : (a b c : ℕ) → a ≤ 2 → b ≤ 2 → c ≤ 2
    → min 2 (a + b + c - 2) - 1 ≡ max (max (way a b c - 1) (way a c b - 1)) (way b c a - 1)
unfolding way clamp
three-high = agree_at (λ a b c. min 2 (a + b + c - 2) - 1) (λ a b c. max (max (way a b c - 1) (way a c b - 1)) (way b c a - 1)) tt

-- between the ends of an intersection
all_three : (l l₁ l₂ l₃ h h₁ h₂ h₃ k : ℕ) → l ≡ max (max l₁ l₂) l₃ → h ≡ min (min h₁ h₂) h₃ → l ≤ k → k ≤ h
    → ((l₁ ≤ k) × (k ≤ h₁)) × ((l₂ ≤ k) × (k ≤ h₂)) × ((l₃ ≤ k) × (k ≤ h₃))
all_three l l₁ l₂ l₃ h h₁ h₂ h₃ k e d p q = omega arith

in_all_three : (l l₁ l₂ l₃ h h₁ h₂ h₃ k : ℕ) → l ≡ max (max l₁ l₂) l₃ → h ≡ min (min h₁ h₂) h₃
    → (l₁ ≤ k) × (k ≤ h₁) → (l₂ ≤ k) × (k ≤ h₂) → (l₃ ≤ k) × (k ≤ h₃) → (l ≤ k) × (k ≤ h)
in_all_three l l₁ l₂ l₃ h h₁ h₂ h₃ k e d f g i = omega arith

same_number : (r : Range) (x : ℤ) (k : ℕ) → x ≡ pos k → Between r.low r.high x → (r.low ≤ k) × (k ≤ r.high)
same_number r x k e (j, d, p, q) = let j_is : k ≡ j = pos_same k j (sym e ∙ d) in (omega arith, omega arith)

module _ (a b c : Range) where
  module _ (t : ℕ) where
    at_low : (r : Range) → at_most t r.low ≡ min 1 (tally t r)
    at_low r = (tallied t r).at_low

    at_high : (r : Range) → at_most t r.high ≡ tally t r - 1
    at_high r = (tallied t r).at_high

    low-at : at_most t (join3 a b c).low
        ≡ at_most t (max (max (join2 (join2 a b) c).low (join2 (join2 a c) b).low) (join2 (join2 b c) a).low)
    low-at =
        at_low (join3 a b c) ∙ ap (min 1) (tally_three t a b c)
        ∙ three-low (tally t a) (tally t b) (tally t c) (tallied t a).most (tallied t b).most (tallied t c).most
        ∙ sym (at_most_max t (max (join2 (join2 a b) c).low (join2 (join2 a c) b).low) (join2 (join2 b c) a).low
        ∙ ap₂ min (at_most_max t (join2 (join2 a b) c).low (join2 (join2 a c) b).low
        ∙ ap₂ min (at_low (join2 (join2 a b) c) ∙ ap (min 1) (tally_way t a b c)) (at_low (join2 (join2 a c) b) ∙ ap (min 1) (tally_way t a c b)))
        (at_low (join2 (join2 b c) a) ∙ ap (min 1) (tally_way t b c a)))

    high-at : at_most t (join3 a b c).high
        ≡ at_most t (min (min (join2 (join2 a b) c).high (join2 (join2 a c) b).high) (join2 (join2 b c) a).high)
    high-at =
        at_high (join3 a b c) ∙ ap (λ k. k - 1) (tally_three t a b c)
        ∙ three-high (tally t a) (tally t b) (tally t c) (tallied t a).most (tallied t b).most (tallied t c).most
        ∙ sym (at_most_min t (min (join2 (join2 a b) c).high (join2 (join2 a c) b).high) (join2 (join2 b c) a).high
        ∙ ap₂ max (at_most_min t (join2 (join2 a b) c).high (join2 (join2 a c) b).high
        ∙ ap₂ max (at_high (join2 (join2 a b) c) ∙ ap (λ k. k - 1) (tally_way t a b c))
        (at_high (join2 (join2 a c) b) ∙ ap (λ k. k - 1) (tally_way t a c b)))
        (at_high (join2 (join2 b c) a) ∙ ap (λ k. k - 1) (tally_way t b c a)))

  -- the join of three is where the three joins of a join with the third all meet
  pub three-way : ((join3 a b c).low ≡ max (max (join2 (join2 a b) c).low (join2 (join2 a c) b).low) (join2 (join2 b c) a).low)
      × ((join3 a b c).high ≡ min (min (join2 (join2 a b) c).high (join2 (join2 a c) b).high) (join2 (join2 b c) a).high)
  three-way = (at_most_known _ _ low-at, at_most_known _ _ high-at)

  -- so a state is in it where it is in all three: the paper's equation (17)
  pub equation_17 : (x : ℤ)
      → In ordered x (join3 a b c)
      ↔ (In ordered x (join2 (join2 a b) c) × In ordered x (join2 (join2 a c) b) × In ordered x (join2 (join2 b c) a))
  equation_17 x = (
    λ h. let (k, e, p, q) = (in_range (join3 a b c) x).0 h in
        let (f, g, i) = all_three _ _ _ _ _ _ _ _ k three-way.0 three-way.1 p q in (
          (in_range (join2 (join2 a b) c) x).1 (k, e, f.0, f.1),
          (in_range (join2 (join2 a c) b) x).1 (k, e, g.0, g.1),
          (in_range (join2 (join2 b c) a) x).1 (k, e, i.0, i.1),
        ),
    λ (h, i, j). let (k, e, p, q) = (in_range (join2 (join2 a b) c) x).0 h in
        let f = same_number (join2 (join2 a c) b) x k e ((in_range (join2 (join2 a c) b) x).0 i) in
        let g = same_number (join2 (join2 b c) a) x k e ((in_range (join2 (join2 b c) a) x).0 j) in
        let (s, t) = in_all_three _ _ _ _ _ _ _ _ k three-way.0 three-way.1 (p, q) f g in
        (in_range (join3 a b c) x).1 (k, e, s, t),
  )

-- ---- which two are joined first

pub not_associative : ((r q s : Range) → join2 (join2 r q) s ≡ join2 r (join2 q s)) → ⊥
unfolding insert sorted
not_associative h =
    let e : ◌≡◌ {A = ℕ} 2 0 = ap (λ (r : Range). r.low) (h (point 0) (point 2) (point 5)) in
    omega arith
