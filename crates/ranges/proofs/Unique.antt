-- A join has one result: two structs that a contract of this crate allows are the same struct.
-- The contract of `cost` is an equation for the result, so it has one result as it stands.
-- Assumes nothing.
use mathlib.Core.Path.{◌≡◌, sym, ◌∙◌}
use mathlib.Core.List.{List}
use Prim.Native.Nat.{ℕ}
use lib.IntN.{ℤ, pos}
use Rattle.parsimony.specs.Ordered as ordered
use Rattle.parsimony.proofs.Ranges.Distances.{pos_same}
use Rattle.parsimony.proofs.Uniqueness.{span-ends}
use Rattle.ranges.specs.declared.Range.{Range}
use Rattle.ranges.specs.Ranges.{Joined}

pub one-join : (qs : List ordered.Range) (r r' : Range) → Joined qs r → Joined qs r' → r ≡ r'
one-join qs r r' h h' =
    let (p, q) = span-ends r.low r.high r'.low r'.high h.fits h'.fits (h.joins ∙ sym h'.joins) in
    λ i. record { low = p i; high = q i }

pub one-nearest : (q : ordered.Range) (x : ℤ) (r r' : ℕ) → pos r ≡ ordered.nearest q x → pos r' ≡ ordered.nearest q x → r ≡ r'
one-nearest q x r r' h h' = pos_same r r' (h ∙ sym h')
