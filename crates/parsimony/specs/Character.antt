-- One ordered character whose taxa have one state each, as a program has it: `state k` is the state of the taxon k, and a list has an entry for
-- each interior node, the node n + 1 first.
-- Assumes nothing.
use Rattle.std.specs.Prelude.{List, ℕ, suc, ◌-◌, ◌≤◌, ◌<◌, length, get_or, ℤ, pos}
use Rattle.std.proofs.Math.Decide.{dec_le}
use Rattle.parsimony.specs.Lists.{choose}
use Rattle.parsimony.specs.Ordered.{Range, span, point, ordered}
use Rattle.parsimony.specs.Meaning.{EntryMeans, FinalMeans}

-- the entry of the interior node v
abbrev pub at_node : ℕ → List ℕ → ℕ → ℕ
at_node n entries v = get_or entries (v - suc n) 0

module _ (n : ℕ) (state : ℕ → ℕ) where
  -- a taxon's cell is its state alone
  abbrev pub cells : ℕ → Range
  cells k = point (state k)

  -- the range of a node: a taxon's state alone, and at an interior node from the entry of one list to that of another
  abbrev pub ranges : (lows highs : List ℕ) → ℕ → Range
  ranges lows highs v = choose (dec_le v n) (point (state v)) (span (at_node n lows v) (at_node n highs v))

  -- the length below a node: none at a taxon
  abbrev pub sizes : List ℕ → ℕ → ℕ
  sizes lengths v = choose (dec_le v n) 0 (at_node n lengths v)

  -- the way that has these states at the interior nodes
  abbrev pub way_of : List ℕ → ℕ → ℤ
  way_of states v = pos (choose (dec_le v n) (state v) (at_node n states v))

  module _ (tree : List ℕ) where
    -- the three lists of a first pass mean what they should: at each interior node a range and a length
    pub record FirstMeans (lows highs lengths : List ℕ) : Type 0 where
      pub fits : (v : ℕ) → n < v → v ≤ length tree → at_node n lows v ≤ at_node n highs v
      pub means : (v : ℕ) → n < v → v ≤ length tree
          → EntryMeans ordered n cells tree v (span (at_node n lows v) (at_node n highs v)) (at_node n lengths v)

    -- the two lists of final ranges do
    pub record FinalsMean (lows highs : List ℕ) : Type 0 where
      pub fits : (v : ℕ) → n < v → v ≤ length tree → at_node n lows v ≤ at_node n highs v
      pub means : (v : ℕ) → n < v → v ≤ length tree → FinalMeans ordered n cells tree v (span (at_node n lows v) (at_node n highs v))
