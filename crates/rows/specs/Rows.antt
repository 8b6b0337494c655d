-- Several characters side by side: lists with a row for each node, and in it an entry for each of w characters. So a list is a matrix of w columns
-- (`state_of` of the crate `parsimony`), with the nodes for its taxa.
-- Assumes nothing.
use Rattle.std.specs.Prelude.{◌≡◌, ◌≢◌, ◌⊎◌, List, [], ◌∷◌, ℕ, ◌+◌, ◌≤◌, ◌<◌, length, get_or, set}
use Rattle.parsimony.specs.Ordered as ordered
use Rattle.parsimony.specs.Ordered.{span}
use Rattle.parsimony.specs.Matrix.{state_of}
use Rattle.ranges.specs.declared.Range.{Range}
use Rattle.ranges.specs.Ranges.{Joined}

-- the range and the length of the node v, in the character i of w
abbrev pub range_at : (lows highs : List ℕ) (w i v : ℕ) → ordered.Range
range_at lows highs w i v = span (state_of lows w i v) (state_of highs w i v)

-- three lists have the same at the node v, in the character i of w, as three others
abbrev pub Same : (lows highs lengths lows' highs' lengths' : List ℕ) (w i v : ℕ) → Type 0
Same lows highs lengths lows' highs' lengths' w i v =
    (state_of lows' w i v ≡ state_of lows w i v) × (state_of highs' w i v ≡ state_of highs w i v)
    × (state_of lengths' w i v ≡ state_of lengths w i v)

-- three lists have room for 8 characters and 510 nodes
abbrev pub Room : (lows highs lengths : List ℕ) → Type 0
Room lows highs lengths = (length lows ≡ 4080) × (length highs ≡ 4080) × (length lengths ≡ 4080)

-- ---- one entry

pub record Placed (at a b : ℕ) (lows highs lengths : List ℕ) : Type 0 where
  pub here : at < 4080
  pub first : a < 4080
  pub second : b < 4080
  pub fits_first : get_or lows a 0 ≤ get_or highs a 0
  pub fits_second : get_or lows b 0 ≤ get_or highs b 0
  pub small : get_or lengths a 0 + get_or lengths b 0 ≤ 4294901760

-- the entry at `at` is settled from those at a and b, and nothing else is written
pub record SettledAt (at a b : ℕ) (lows highs lengths lows' highs' lengths' : List ℕ) : Type 0 where
  pub range : Range
  pub joined : Joined (span (get_or lows a 0) (get_or highs a 0) ∷ span (get_or lows b 0) (get_or highs b 0) ∷ []) range
  pub low_written : lows' ≡ set lows at range.low
  pub high_written : highs' ≡ set highs at range.high
  pub length_written : lengths'
      ≡ set lengths at
      (get_or lengths a 0 + get_or lengths b 0
      + ordered.cost (span (get_or lows a 0) (get_or highs a 0) ∷ span (get_or lows b 0) (get_or highs b 0) ∷ []))

-- ---- one node

-- the node and its two descendants are nodes, and the descendants' entries are ranges and small lengths
pub record Settleable (node left right w : ℕ) (lows highs lengths : List ℕ) : Type 0 where
  pub room : Room lows highs lengths
  pub few : w ≤ 8
  pub some : (1 ≤ node) × (1 ≤ left) × (1 ≤ right)
  pub most : (node ≤ 510) × (left ≤ 510) × (right ≤ 510)
  pub apart : (left ≢ node) × (right ≢ node)
  pub fits : (i : ℕ) → 1 ≤ i → i ≤ w
      → (state_of lows w i left ≤ state_of highs w i left) × (state_of lows w i right ≤ state_of highs w i right)
  pub small : (i : ℕ) → 1 ≤ i → i ≤ w → state_of lengths w i left + state_of lengths w i right ≤ 4294901760

-- the node is settled from its descendants in the first `to` of the w characters, and nothing else is written
pub record SettledRow (node left right w to : ℕ) (lows highs lengths lows' highs' lengths' : List ℕ) : Type 0 where
  pub room : Room lows' highs' lengths'
  pub fits : (i : ℕ) → 1 ≤ i → i ≤ to → state_of lows' w i node ≤ state_of highs' w i node
  pub joined : (i : ℕ) → 1 ≤ i → i ≤ to
      → range_at lows' highs' w i node ≡ ordered.join (range_at lows highs w i left ∷ range_at lows highs w i right ∷ [])
  pub summed : (i : ℕ) → 1 ≤ i → i ≤ to
      → state_of lengths' w i node
      ≡ state_of lengths w i left + state_of lengths w i right + ordered.cost (range_at lows highs w i left ∷ range_at lows highs w i right ∷ [])
  pub kept : (i v : ℕ) → 1 ≤ i → i ≤ w → 1 ≤ v → (v ≢ node) ⊎ (to < i)
      → Same lows highs lengths lows' highs' lengths' w i v
