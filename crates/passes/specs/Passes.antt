-- The first pass over a block of w characters of a matrix, those after the first a.
-- A block's lists are as in the crate `rows`: a row for each node, and in it an entry for each of the w characters.
-- Assumes nothing.
use Rattle.std.specs.Prelude.{◌≡◌, ◌≢◌, ◌⊎◌, List, ℕ, ◌+◌, ◌*◌, ◌≤◌, ◌<◌, length}
use Rattle.parsimony.specs.Ordered as ordered
use Rattle.parsimony.specs.Steps.{Settled}
use Rattle.parsimony.specs.Matrix.{state_of}
use Rattle.shapes.specs.Filling.{Orders}
use Rattle.rows.specs.Rows.{range_at, Same, Room}
use Rattle.blocks.specs.Blocks.{Fits}

-- ---- the taxa's rows

-- the matrix has rows for n taxa, the block is within its c characters, and the lists have room
pub record Loads (n c a w : ℕ) (matrix lows highs lengths : List ℕ) : Type 0 where
  pub rows : n * c ≤ length matrix
  pub most : n ≤ 256
  pub within : a + w ≤ c
  pub few : w ≤ 8
  pub room : Room lows highs lengths

-- the taxon k has its state alone, in the character i of the block, and no length
abbrev pub HasState : (c a w : ℕ) (matrix lows highs lengths : List ℕ) (i k : ℕ) → Type 0
HasState c a w matrix lows highs lengths i k =
    (state_of lows w i k ≡ state_of matrix c (a + i) k) × (state_of highs w i k ≡ state_of matrix c (a + i) k) × (state_of lengths w i k ≡ 0)

-- the taxon t is loaded in the first `to` of the w characters, and nothing else is written
pub record LoadedRow (t c a w to : ℕ) (matrix lows highs lengths lows' highs' lengths' : List ℕ) : Type 0 where
  pub room : Room lows' highs' lengths'
  pub here : (i : ℕ) → 1 ≤ i → i ≤ to → HasState c a w matrix lows' highs' lengths' i t
  pub kept : (i v : ℕ) → 1 ≤ i → i ≤ w → 1 ≤ v → (v ≢ t) ⊎ (to < i) → Same lows highs lengths lows' highs' lengths' w i v

-- the first n taxa are
pub record Loaded (n c a w : ℕ) (matrix lows highs lengths : List ℕ) : Type 0 where
  pub room : Room lows highs lengths
  pub taxa : (i k : ℕ) → 1 ≤ i → i ≤ w → 1 ≤ k → k ≤ n → HasState c a w matrix lows highs lengths i k

-- ---- the pass

-- the shape is that of an accepted table, whose root has the descendant δ, and no state is above 9999
pub record Passable (n c a w δ : ℕ) (left right matrix lows highs lengths : List ℕ) : Type 0 where
  pub tree : List ℕ
  pub ρ : ℕ
  pub orders : Orders n δ tree ρ left right
  pub loads : Loads n c a w matrix lows highs lengths
  pub small : (i k : ℕ) → 1 ≤ i → i ≤ w → 1 ≤ k → k ≤ n → state_of matrix c (a + i) k ≤ 9999

-- every interior node is settled, in each character
pub record PassedIn (n c a w : ℕ) (tree matrix lows highs lengths : List ℕ) : Type 0 where
  pub room : Room lows highs lengths
  pub taxa : (i k : ℕ) → 1 ≤ i → i ≤ w → 1 ≤ k → k ≤ n → HasState c a w matrix lows highs lengths i k
  pub settled : (i v : ℕ) → 1 ≤ i → i ≤ w → n < v → v ≤ length tree
      → Settled ordered.ordered tree (range_at lows highs w i) (state_of lengths w i) v
  pub fits : (i v : ℕ) → 1 ≤ i → i ≤ w → n < v → v ≤ length tree → Fits n tree lows highs lengths w i v

-- in any accepted table of that shape
abbrev pub Passed : (n c a w δ : ℕ) (left right matrix lows highs lengths : List ℕ) → Type 0
Passed n c a w δ left right matrix lows highs lengths =
    (tree : List ℕ) (ρ : ℕ) → Orders n δ tree ρ left right → PassedIn n c a w tree matrix lows highs lengths
