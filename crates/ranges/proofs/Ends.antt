-- The ends of a join, by the larger of the low ends and the smaller of the high ends.
-- Assumes nothing.
use mathlib.Core.Path.{◌≡◌, sym, ◌∙◌, ap, ap₂}
use mathlib.Core.List.{[], ◌∷◌}
use Prim.Native.Nat.{ℕ, ◌-◌, ◌≤◌, min, max}
use native.Mathlib.Nat.{max-eq_right, max_comm, min_comm}
use native.Mathlib.Omega.{arith}
use Rattle.parsimony.specs.Ordered as ordered
use Rattle.parsimony.proofs.Ranges.Distances.{range_same}
use Rattle.parsimony.proofs.Ranges.Chains.{outer, inner}
use Rattle.parsimony.proofs.Ranges.Joins.{join-two, cost-two, join-three}
use Rattle.ranges.specs.declared.Range.{Range}
use Rattle.ranges.specs.Ranges.{range_of, IsRange, Joined}

-- the inner two of four ends, in either order of the ranges
module _ (a b c d : ℕ) (f : a ≤ b) (g : c ≤ d) where
  low_end : min (max c a) (min (max c d) (max a b)) ≡ min (max a c) (min b d)
  low_end = rw (max-eq_right f, max-eq_right g, max_comm c a, min_comm d b)

  high_end : max (max c a) (min (max c d) (max a b)) ≡ max (max a c) (min b d)
  high_end = rw (max-eq_right f, max-eq_right g, max_comm c a, min_comm d b)

  gap_end : max c a - min (max c d) (max a b) ≡ max a c - min b d
  gap_end = rw (max-eq_right f, max-eq_right g, max_comm c a, min_comm d b)

-- a struct with the inner two of the ends is the join of two
pub joined-two : (a b r : Range) → IsRange a → IsRange b
    → r.low ≡ min (max a.low b.low) (min a.high b.high) → r.high ≡ max (max a.low b.low) (min a.high b.high)
    → Joined (range_of a ∷ range_of b ∷ []) r
joined-two a b r f g l h =
    let fits : r.low ≤ r.high = omega arith in
    record {
      fits = fits;
      joins =
          range_same (range_of r) (inner (range_of b) (range_of a)) (l ∙ sym (low_end a.low a.high b.low b.high f g))
          (max-eq_right fits ∙ h ∙ sym (high_end a.low a.high b.low b.high f g))
          ∙ sym (join-two (range_of a) (range_of b));
    }

pub cost-ends : (a b : Range) → IsRange a → IsRange b
    → max a.low b.low - min a.high b.high ≡ ordered.cost (range_of a ∷ range_of b ∷ [])
cost-ends a b f g = sym (cost-two (range_of a) (range_of b) ∙ gap_end a.low a.high b.low b.high f g)

-- the join of three, by the outer and the inner two ends of the last two
pub joined-three : (a b c o i j r : Range) → IsRange b → IsRange c
    → o.low ≡ min c.low b.low → o.high ≡ max c.high b.high
    → Joined (range_of b ∷ range_of c ∷ []) i → Joined (range_of a ∷ range_of o ∷ []) j → Joined (range_of j ∷ range_of i ∷ []) r
    → Joined (range_of a ∷ range_of b ∷ range_of c ∷ []) r
joined-three a b c o i j r g h ol oh I J R =
    let B : ordered.Range = range_of b in
    let C : ordered.Range = range_of c in
    let o_is : range_of o ≡ outer C B =
    range_same (range_of o) (outer C B) ol (outer-high o.low o.high c.low c.high b.low b.high ol oh h g) in
    let i_is : range_of i ≡ inner C B = I.joins ∙ join-two B C in
    let j_is : range_of j ≡ inner (outer C B) (range_of a) = J.joins ∙ join-two (range_of a) (range_of o) ∙ ap (λ q. inner q (range_of a)) o_is in
    record {
      fits = R.fits;
      joins = R.joins ∙ join-two (range_of j) (range_of i) ∙ ap₂ inner i_is j_is ∙ sym (join-three (range_of a) B C);
    }
  where
    outer-high : (l u cl ch bl bh : ℕ) → l ≡ min cl bl → u ≡ max ch bh → cl ≤ ch → bl ≤ bh → max l u ≡ max (max cl ch) (max bl bh)
    outer-high l u cl ch bl bh p q f k = rw (max-eq_right f, max-eq_right k) (omega arith)
