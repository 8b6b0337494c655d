-- One of the w characters of a block by itself: its entries at the interior nodes, and its length. A block's lists are as in the crate `blocks`.
-- Assumes nothing.
use Rattle.std.specs.Prelude.{◌≡◌, List, [], ◌∷◌, ℕ, ◌+◌, ◌-◌, ◌*◌, ◌≤◌, ◌<◌, length, get_or}
use Rattle.parsimony.specs.Ordered as ordered
use Rattle.parsimony.specs.Matrix.{state_of}
use Rattle.parsimony.specs.Character.{at_node}
use Rattle.rows.specs.Rows.{range_at}

-- ---- its entries

-- the list has an entry for each interior node, and i is one of the w characters
pub record Takes {A : Type 0} (n w i : ℕ) (entries : List A) : Type 0 where
  pub least : 3 ≤ n
  pub most : n ≤ 256
  pub few : w ≤ 8
  pub some : 1 ≤ i
  pub one : i ≤ w
  pub long : length entries ≡ n - 2

-- it has what a list of the block has at the interior nodes, the node n + 1 first
pub record Copied {A : Type 0} (n w i : ℕ) (block entries : List A) : Type 0 where
  pub long : length entries ≡ n - 2
  pub copied : (k : ℕ) (d : A) → k < n - 2 → get_or entries k d ≡ get_or block ((n + k) * w + (i - 1)) d

-- the same, said of nodes
pub record Taken (n w i : ℕ) (block entries : List ℕ) : Type 0 where
  pub long : length entries ≡ n - 2
  pub taken : (v : ℕ) → n < v → v ≤ 2 * n - 2 → at_node n entries v ≡ state_of block w i v

-- ---- its length

-- the root and its descendant are nodes with ranges in the character i, and there is room for the length
pub record Ends (ρ δ w i : ℕ) (lows highs lengths : List ℕ) : Type 0 where
  pub few : w ≤ 8
  pub some : 1 ≤ i
  pub one : i ≤ w
  pub nodes : (1 ≤ ρ) × (1 ≤ δ)
  pub last : (ρ ≤ 510) × (δ ≤ 510)
  pub root_fits : state_of lows w i ρ ≤ state_of highs w i ρ
  pub fits : state_of lows w i δ ≤ state_of highs w i δ
  pub small : state_of lengths w i δ ≤ 4294901760

-- what is below the root's descendant, and the distance from there to the root's range
abbrev pub length_at : (ρ δ w i : ℕ) (lows highs lengths : List ℕ) → ℕ
length_at ρ δ w i lows highs lengths =
    state_of lengths w i δ + ordered.cost (range_at lows highs w i ρ ∷ range_at lows highs w i δ ∷ [])
