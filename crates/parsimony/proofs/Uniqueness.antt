-- What has a meaning has it alone: one least length, one region of states used.
-- Assumes nothing.
use mathlib.Core.Path.{◌≡◌, refl, ap}
use mathlib.Core.Logic.{◌↔◌}
use mathlib.Core.List.{List}
use Prim.Native.Nat.{ℕ, ◌≤◌}
use native.Mathlib.Omega.{arith}
use lib.IntN.{ℤ, pos}
use Rattle.parsimony.specs.Kind.{Kind, In}
use Rattle.parsimony.specs.Ordered.{Range, span, ordered}
use Rattle.parsimony.specs.Least.{IsLeast}
use Rattle.parsimony.specs.Meaning.{EntryMeans, FinalMeans}
use Rattle.parsimony.proofs.Ranges.Distances.{range_same, pos_same, in_range}

pub one-least : {W : Type 0} {Good : W → Type 0} {long : W → ℕ} {l l' : ℕ} → IsLeast Good long l → IsLeast Good long l' → l ≡ l'
one-least h k =
    let (w, g, e) = h.attained in
    let (w', g', e') = k.attained in
    omega (arith, h.bound w' g', k.bound w g, e, e')

module _ (K : Kind) (n : ℕ) (cell : ℕ → K.Region) (tree : List ℕ) (v : ℕ) where
  pub one-final : (r r' : K.Region) → FinalMeans K n cell tree v r → FinalMeans K n cell tree v r' → (x : K.State) → In K x r ↔ In K x r'
  one-final r r' h k x = (λ i. (k x).1 ((h x).0 i), λ i. (h x).1 ((k x).0 i))

  pub one_entry : (r r' : K.Region) (l l' : ℕ) → EntryMeans K n cell tree v r l → EntryMeans K n cell tree v r' l'
      → (l ≡ l') × ((x : K.State) → In K x r ↔ In K x r')
  one_entry r r' l l' h k = (one-least h.least k.least, λ x. (λ i. (k.used x).1 ((h.used x).0 i), λ i. (h.used x).1 ((k.used x).0 i)))

-- ---- ranges

-- an end of one range is between the ends of the other
end_in : (r q : Range) → ((x : ℤ) → In ordered x r → In ordered x q) → (a : ℕ) → r.low ≤ a → a ≤ r.high → (q.low ≤ a) × (a ≤ q.high)
end_in r q f a p l =
    let (b, e, s, t) = (in_range q (pos a)).0 (f (pos a) ((in_range r (pos a)).1 (a, refl, p, l))) in
    let a_is : a ≡ b = pos_same a b e in
    (omega arith, omega arith)

pub one-range : (r q : Range) → ((x : ℤ) → In ordered x r ↔ In ordered x q) → r ≡ q
one-range r q h =
    range_same r q
    (omega (arith, end_in r q (λ x. (h x).0) r.low (omega arith) r.fits, end_in q r (λ x. (h x).1) q.low (omega arith) q.fits))
    (omega (arith, end_in r q (λ x. (h x).0) r.high r.fits (omega arith), end_in q r (λ x. (h x).1) q.high q.fits (omega arith)))

-- the ends of a range from low to high, where they are in order
pub span-ends : (low high low' high' : ℕ) → low ≤ high → low' ≤ high' → span low high ≡ span low' high' → (low ≡ low') × (high ≡ high')
span-ends low high low' high' f f' e = (ap (λ r. r.low) e, omega (arith, ap (λ (r : Range). r.high) e))

module _ (n : ℕ) (cell : ℕ → Range) (tree : List ℕ) (v : ℕ) where
  pub one-ordered-entry : (low high l low' high' l' : ℕ) → low ≤ high → low' ≤ high'
      → EntryMeans ordered n cell tree v (span low high) l → EntryMeans ordered n cell tree v (span low' high') l'
      → (low ≡ low') × (high ≡ high') × (l ≡ l')
  one-ordered-entry low high l low' high' l' f f' h k =
      let (e, s) = one_entry ordered n cell tree v (span low high) (span low' high') l l' h k in
      let (p, q) = span-ends low high low' high' f f' (one-range (span low high) (span low' high') s) in
      (p, q, e)

  pub one-ordered-final : (low high low' high' : ℕ) → low ≤ high → low' ≤ high'
      → FinalMeans ordered n cell tree v (span low high) → FinalMeans ordered n cell tree v (span low' high') → (low ≡ low') × (high ≡ high')
  one-ordered-final low high low' high' f f' h k =
      span-ends low high low' high' f f'
      (one-range (span low high) (span low' high') (one-final ordered n cell tree v (span low high) (span low' high') h k))
