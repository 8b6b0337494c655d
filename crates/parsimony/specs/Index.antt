-- The indices of an ordered character whose taxa have one state each. `state k` is the state of the taxon k.
-- Assumes nothing.
use Rattle.std.specs.Prelude.{List, [], ◌∷◌, Bool, true, false, ℕ, ◌-◌, min, max, eqb, ltb, pos}
use Rattle.parsimony.specs.Lists.{sum, from}
use Rattle.parsimony.specs.Ordered.{distance}

-- An index is a fraction, over and under, or none.
pub data Index : Type 0 where
  fraction : ℕ → ℕ → Index
  none : Index

-- the highest of f at v and over a list
abbrev pub highest : (ℕ → ℕ) → ℕ → List ℕ → ℕ
highest f v [] = f v
highest f v (k ∷ ks) = max (f k) (highest f v ks)

-- and the lowest
abbrev pub lowest : (ℕ → ℕ) → ℕ → List ℕ → ℕ
lowest f v [] = f v
lowest f v (k ∷ ks) = min (f k) (lowest f v ks)

-- m: the highest minus the lowest state, over the taxa 1 to n
abbrev pub m : ℕ → (ℕ → ℕ) → ℕ
m n state = highest state 1 (from 1 n) - lowest state 1 (from 1 n)

-- g: the sum, over the taxa, of the distance from the root's state
abbrev pub g : ℕ → (ℕ → ℕ) → ℕ → ℕ
g n state ρ = sum (λ k. distance (pos (state k)) (pos (state ρ))) (from 1 n)

-- none where a test says so, and else the index
abbrev pub or_else : Bool → Index → Index
or_else true i = none
or_else false i = i

-- CI = m / s, with s the length; none if s is 0
abbrev pub ci : (m s : ℕ) → Index
ci m s = or_else (eqb s 0) (fraction m s)

-- RI = (g - s) / (g - m); none if g is m, or g is below s
abbrev pub ri : (m s g : ℕ) → Index
ri m s g = or_else (eqb g m) (or_else (ltb g s) (fraction (g - s) (g - m)))
