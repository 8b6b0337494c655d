-- What an entry of the first pass, a final region, a character's length and a reconstruction mean.
-- The steps that find them are in Steps.antt; that they find what is meant is in proofs/Theorems.antt.
-- Assumes nothing.
use Rattle.std.specs.Prelude.{◌↔◌, List, ℕ}
use Rattle.parsimony.specs.Kind.{Kind, In}
use Rattle.parsimony.specs.Way.{Agrees, AgreesBelow, length_of, length_below}
use Rattle.parsimony.specs.Least.{IsLeast, Shortest, Used}

module _ (K : Kind) (n : ℕ) (cell : ℕ → K.Region) (tree : List ℕ) where
  -- An entry of the first pass at v: l is the least length below v, and the region r holds exactly the states that v has in the shortest
  -- ways below it. Only what stands below v counts.
  pub record EntryMeans (v : ℕ) (r : K.Region) (l : ℕ) : Type 0 where
    pub least : IsLeast (AgreesBelow K n cell tree v) (length_below K tree v) l
    pub used : (x : K.State) → In K x r ↔ Used (AgreesBelow K n cell tree v) (length_below K tree v) v x

  -- A final region at v: exactly the states that v has in the shortest ways of the whole tree.
  abbrev pub FinalMeans : ℕ → K.Region → Type 0
  FinalMeans v r = (x : K.State) → In K x r ↔ Used (Agrees K n cell) (length_of K tree) v x

  -- The character's length: the least of the whole tree.
  abbrev pub LengthMeans : ℕ → Type 0
  LengthMeans l = IsLeast (Agrees K n cell) (length_of K tree) l

  -- A reconstruction that may be printed: a shortest way of the whole tree.
  abbrev pub Reconstructs : (ℕ → K.State) → Type 0
  Reconstructs w = Shortest (Agrees K n cell) (length_of K tree) w
