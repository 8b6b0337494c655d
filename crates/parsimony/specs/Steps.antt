-- The paper's steps, each said of one node by itself: nothing here says in which order a program goes about them.
-- `entry v` and `size v` are the region and the subtree length that the first pass has at v, `above v` is the region seen from above.
-- Assumes nothing.
use Rattle.std.specs.Prelude.{◌≡◌, ◌≢◌, List, [], ◌∷◌, ◌++◌, map, ℕ, ◌+◌, ◌≤◌, ◌<◌, length}
use Rattle.parsimony.specs.Lists.{sum}
use Rattle.parsimony.specs.Table.{ancestor, descendants, sisters}
use Rattle.parsimony.specs.Kind.{Kind, In}

-- An interior node is settled: its region is the join of its descendants' regions, and its length is their lengths and the join's cost.
pub record Settled (K : Kind) (tree : List ℕ) (entry : ℕ → K.Region) (size : ℕ → ℕ) (v : ℕ) : Type 0 where
  pub joined : entry v ≡ K.join (map entry (descendants tree v))
  pub summed : size v ≡ sum size (descendants tree v) + K.cost (map entry (descendants tree v))

module _ (K : Kind) (n : ℕ) (cell : ℕ → K.Region) (tree : List ℕ) where
  -- The first pass: a taxon's region is its cell, at no length; each interior node is settled.
  pub record FirstPass (entry : ℕ → K.Region) (size : ℕ → ℕ) : Type 0 where
    pub taxa : (k : ℕ) → 1 ≤ k → k ≤ n → (entry k ≡ cell k) × (size k ≡ 0)
    pub forks : (v : ℕ) → n < v → v ≤ length tree → Settled K tree entry size v

  -- The second pass: from above, the root's descendant sees the root's cell; any other interior node sees the join of its sisters' regions
  -- with what its ancestor sees from above.
  pub record SecondPass (ρ δ : ℕ) (entry above : ℕ → K.Region) : Type 0 where
    pub top : above δ ≡ cell ρ
    pub rest : (v : ℕ) → n < v → v ≤ length tree → v ≢ δ
        → above v ≡ K.join (map entry (sisters tree v) ++ (above (ancestor tree v) ∷ []))

  -- The final region: the join of the descendants' regions and the region from above.
  abbrev pub final : (entry above : ℕ → K.Region) → ℕ → K.Region
  final entry above v = K.join (map entry (descendants tree v) ++ (above v ∷ []))

  -- The character's length: what is below the root's descendant, and the distance from there to the root's cell.
  abbrev pub length_by : (ρ δ : ℕ) (entry : ℕ → K.Region) (size : ℕ → ℕ) → ℕ
  length_by ρ δ entry size = size δ + K.cost (cell ρ ∷ entry δ ∷ [])

  -- A way that is chosen from the root downward: each node has the state of its range nearest its ancestor's state. A taxon's range is its cell.
  -- ACCTRAN takes the first pass's regions for the interior nodes' ranges, and DELTRAN the final regions.
  pub record Chosen (ρ : ℕ) (range : ℕ → K.Region) (w : ℕ → K.State) : Type 0 where
    pub taxa : (k : ℕ) → 1 ≤ k → k ≤ n → k ≢ ρ → w k ≡ K.nearest (cell k) (w (ancestor tree k))
    pub forks : (v : ℕ) → n < v → v ≤ length tree → w v ≡ K.nearest (range v) (w (ancestor tree v))

  -- The root's state: one of its cell, and of the join of its cell with its descendant's region. (Where the cell is one state, that state.)
  pub record RootChosen (ρ δ : ℕ) (entry : ℕ → K.Region) (w : ℕ → K.State) : Type 0 where
    pub own : In K (w ρ) (cell ρ)
    pub joined : In K (w ρ) (K.join (cell ρ ∷ entry δ ∷ []))
