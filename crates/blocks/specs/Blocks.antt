-- The subtree of a node, in several characters side by side (the lists are those of the crate `rows`).
-- Assumes nothing.
use Rattle.std.specs.Prelude.{◌≡◌, ◌≢◌, List, ℕ, ◌+◌, ◌*◌, ◌≤◌, ◌<◌, length}
use Rattle.parsimony.specs.Table.{deep, Accepted}
use Rattle.parsimony.specs.Ordered as ordered
use Rattle.parsimony.specs.Steps.{Settled}
use Rattle.parsimony.specs.Matrix.{state_of}
use Rattle.trees.specs.Answers.{Sized}
use Rattle.shapes.specs.Shape.{under, inside, Filled}
use Rattle.rows.specs.Rows.{range_at, Same, Room}

-- an entry has a range, which goes no higher than 9999, and a length, which has at most 9999 for each interior node
abbrev pub Fits : (n : ℕ) (tree lows highs lengths : List ℕ) (w i v : ℕ) → Type 0
Fits n tree lows highs lengths w i v =
    (state_of lows w i v ≤ state_of highs w i v) × (state_of highs w i v ≤ 9999) × (state_of lengths w i v ≤ 9999 * inside n tree v)

-- the shape is that of an accepted table, `node` is one of its nodes and not the root, and the taxa's entries are ranges up to 9999, at no length
pub record Walks (node n w : ℕ) (tree : List ℕ) (ρ δ : ℕ) (left right lows highs lengths : List ℕ) : Type 0 where
  pub sized : Sized n tree
  pub accepted : Accepted n tree ρ δ
  pub shape : Filled n tree left right
  pub some : 1 ≤ node
  pub most : node ≤ length tree
  pub apart : node ≢ ρ
  pub room : Room lows highs lengths
  pub few : w ≤ 8
  pub fits : (i k : ℕ) → 1 ≤ i → i ≤ w → 1 ≤ k → k ≤ n → (state_of lows w i k ≤ state_of highs w i k) × (state_of highs w i k ≤ 9999)
  pub none : (i k : ℕ) → 1 ≤ i → i ≤ w → 1 ≤ k → k ≤ n → state_of lengths w i k ≡ 0

-- and as many nodes are allowed as there can be one below the other from it down
pub record Walkable (node allowed n w : ℕ) (left right lows highs lengths : List ℕ) : Type 0 where
  pub tree : List ℕ
  pub ρ : ℕ
  pub δ : ℕ
  pub walks : Walks node n w tree ρ δ left right lows highs lengths
  pub allows : length tree < deep tree (length tree) node + allowed

-- each interior node of the subtree is settled, and no other row is written
pub record WalkedIn (node n w : ℕ) (tree lows highs lengths lows' highs' lengths' : List ℕ) : Type 0 where
  pub room : Room lows' highs' lengths'
  pub settled : (i v : ℕ) → 1 ≤ i → i ≤ w → n < v → v ≤ length tree → 1 ≤ under tree node v
      → Settled ordered.ordered tree (range_at lows' highs' w i) (state_of lengths' w i) v
  pub fits : (i v : ℕ) → 1 ≤ i → i ≤ w → n < v → v ≤ length tree → 1 ≤ under tree node v → Fits n tree lows' highs' lengths' w i v
  pub taxa : (i k : ℕ) → 1 ≤ i → i ≤ w → 1 ≤ k → k ≤ n → Same lows highs lengths lows' highs' lengths' w i k
  pub others : (i v : ℕ) → 1 ≤ i → i ≤ w → 1 ≤ v → v ≤ length tree → under tree node v ≡ 0
      → Same lows highs lengths lows' highs' lengths' w i v

-- what a walk leaves, in any accepted table whose shape it was given
abbrev pub Walked : (node n w : ℕ) (left right lows highs lengths lows' highs' lengths' : List ℕ) → Type 0
Walked node n w left right lows highs lengths lows' highs' lengths' =
    (tree : List ℕ) (ρ δ : ℕ) → Walks node n w tree ρ δ left right lows highs lengths
    → WalkedIn node n w tree lows highs lengths lows' highs' lengths'
