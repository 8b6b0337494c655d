-- A kind of character: its states and how far apart they are; its regions, which are sets of states; and the join of regions with its cost.
-- Ordered characters are one kind (Ordered.antt). Everything that is proved of trees is proved from the laws below.
-- Assumes nothing.
use Rattle.std.specs.Prelude.{◌≡◌, List, ◌∷◌, ℕ, ◌+◌, ◌≤◌}
use Rattle.parsimony.specs.Lists.{sum}

pub record Kind : Type 1 where
  pub State : Type 0
  pub Region : Type 0
  -- there is a state
  pub some : State
  -- the change between two states
  pub distance : State → State → ℕ
  -- how far a state is from a region: 0 in the region
  pub away : State → Region → ℕ
  -- a state of the region that is nearest a state
  pub nearest : Region → State → State
  -- the states that are, in all, nearest the regions of a list; and how near
  pub join : List Region → Region
  pub cost : List Region → ℕ

-- a state is in a region
abbrev pub In : (K : Kind) → K.State → K.Region → Type 0
In K x r = K.away x r ≡ 0

-- how far a state is from the regions of a list, in all
abbrev pub total : (K : Kind) → K.State → List K.Region → ℕ
total K x rs = sum (K.away x) rs

-- What is asked of a kind.
pub record Laws (K : Kind) : Type 0 where
  -- no change from a state to itself, and as much back as forth
  pub same_state : (x : K.State) → K.distance x x ≡ 0
  pub either_way : (x y : K.State) → K.distance x y ≡ K.distance y x
  -- a region is no farther from x than by way of y
  pub away_by_way : (x y : K.State) (r : K.Region) → K.away x r ≤ K.distance x y + K.away y r
  -- the nearest state is in the region, and as far as the region
  pub nearest_in : (r : K.Region) (x : K.State) → In K (K.nearest r x) r
  pub nearest_far : (r : K.Region) (x : K.State) → K.distance x (K.nearest r x) ≡ K.away x r
  -- a state of the join is as far from the regions, in all, as the cost says; another is farther, by its distance to the join or more
  pub join_in : (r : K.Region) (rs : List K.Region) (x : K.State) → In K x (K.join (r ∷ rs)) → total K x (r ∷ rs) ≡ K.cost (r ∷ rs)
  pub join_out : (r : K.Region) (rs : List K.Region) (x : K.State)
      → K.cost (r ∷ rs) + K.away x (K.join (r ∷ rs)) ≤ total K x (r ∷ rs)
