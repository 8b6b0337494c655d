-- Ordered characters: a state is an integer, the change between two is their difference, and a region is a range of states.
-- The states of taxa are natural numbers, and so are the ends of every range; a way may give any integer to an interior node.
-- Assumes nothing.
use Rattle.std.specs.Prelude.{◌≡◌, List, [], ◌∷◌, ℕ, ◌-◌, ◌≤◌, min, max, length, get_or, ℤ, pos, negsuc, nat_abs, ◌-ℤ◌}
use Rattle.std.proofs.Common.{arith}
use Rattle.parsimony.specs.Lists.{sum}
use Rattle.parsimony.specs.Kind.{Kind}

-- |x - y|
abbrev pub distance : ℤ → ℤ → ℕ
distance x y = nat_abs (x -ℤ y)

-- The states from low to high, both among them.
pub record Range : Type 0 where
  pub low : ℕ
  pub high : ℕ
  pub fits : low ≤ high

-- the range from a to b (of a alone where b is below it)
abbrev pub span : ℕ → ℕ → Range
span a b = record { low = a; high = max a b; fits = omega arith }

-- the range of one state
abbrev pub point : ℕ → Range
point a = record { low = a; high = a; fits = omega arith }

-- an integer is one of low, low + 1, .., high
abbrev pub Between : ℕ → ℕ → ℤ → Type 0
Between low high x = (a : ℕ) × (x ≡ pos a) × (low ≤ a) × (a ≤ high)

-- the state of a range nearest an integer: the integer itself if it is in the range, and else the end on its side
abbrev pub nearest : Range → ℤ → ℤ
nearest r (pos a) = pos (max r.low (min a r.high))
nearest r (negsuc a) = pos r.low

-- how far an integer is from a range
abbrev pub away : ℤ → Range → ℕ
away x r = distance x (nearest r x)

-- the 2 m ends of m ranges
abbrev pub ends : List Range → List ℕ
ends [] = []
ends (r ∷ rs) = r.low ∷ r.high ∷ ends rs

-- a number put into its place: the smaller stands first, and the larger goes on
unfoldable pub insert : ℕ → List ℕ → List ℕ
insert a [] = a ∷ []
insert a (b ∷ bs) = min a b ∷ insert (max a b) bs

-- numbers in rising order
unfoldable pub sorted : List ℕ → List ℕ
sorted [] = []
sorted (a ∷ as') = insert a (sorted as')

-- the join of m ranges: from the m-th to the (m + 1)-th of their 2 m ends in rising order
abbrev pub join : List Range → Range
join rs = span (get_or (sorted (ends rs)) (length rs - 1) 0) (get_or (sorted (ends rs)) (length rs) 0)

-- its cost: how far a state of the join is from the ranges, in all
abbrev pub cost : List Range → ℕ
cost rs = sum (away (pos (join rs).low)) rs

-- ordered characters, as a kind
abbrev pub ordered : Kind
ordered =
    record {
      State = ℤ;
      Region = Range;
      some = pos 0;
      distance = distance;
      away = away;
      nearest = nearest;
      join = join;
      cost = cost;
    }
