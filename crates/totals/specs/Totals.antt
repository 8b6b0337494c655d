-- The length of a tree: the sum over all characters of a matrix, and what the steps towards it ask and leave.
-- Assumes nothing.
use Rattle.std.specs.Prelude.{◌≡◌, List, ℕ, ◌+◌, ◌≤◌}
use Rattle.parsimony.specs.Lists.{sum, from}
use Rattle.parsimony.specs.Table.{Accepted}
use Rattle.parsimony.specs.Ordered.{ordered}
use Rattle.parsimony.specs.Meaning.{LengthMeans}
use Rattle.parsimony.specs.Matrix.{state_of}
use Rattle.parsimony.specs.Character.{cells}
use Rattle.trees.specs.Answers.{Sized}
use Rattle.shapes.specs.Filling.{Orders}
use Rattle.entry_lists.specs.EntryLists.{Ends, length_at}
use Rattle.extents.specs.Extents.{Cells}

-- an accepted tree, and a matrix for its taxa
pub record Given (n c ρ δ : ℕ) (tree matrix : List ℕ) : Type 0 where
  pub sized : Sized n tree
  pub accepted : Accepted n tree ρ δ
  pub cells : Cells n c matrix

-- l is the length of the tree: the sum of the least lengths of its characters
pub record HasLength (n c : ℕ) (tree matrix : List ℕ) (l : ℕ) : Type 0 where
  pub lengths : ℕ → ℕ
  pub least : (j : ℕ) → 1 ≤ j → j ≤ c → LengthMeans ordered n (cells n (state_of matrix c j)) tree (lengths j)
  pub total : l ≡ sum lengths (from 1 c)

-- ---- the steps

-- the shape of such a tree
pub record GivenBlocks (n c ρ δ : ℕ) (left right matrix : List ℕ) : Type 0 where
  pub tree : List ℕ
  pub orders : Orders n δ tree ρ left right
  pub cells : Cells n c matrix

-- in any accepted table of this shape
abbrev pub LengthIn : (n c ρ δ : ℕ) (left right matrix : List ℕ) (l : ℕ) → Type 0
LengthIn n c ρ δ left right matrix l = (tree : List ℕ) → Orders n δ tree ρ left right → HasLength n c tree matrix l

-- each of the w characters of a block has a length, which is small, and so is the sum so far
pub record Adds (ρ δ w : ℕ) (lows highs lengths : List ℕ) (s : ℕ) : Type 0 where
  pub few : w ≤ 8
  pub ends : (i : ℕ) → 1 ≤ i → i ≤ w → Ends ρ δ w i lows highs lengths
  pub small : (i : ℕ) → 1 ≤ i → i ≤ w → length_at ρ δ w i lows highs lengths ≤ 2549745
  pub sum_small : s ≤ 1305469440

-- a sum with the lengths of the first k of them
abbrev pub added : (ρ δ w : ℕ) (lows highs lengths : List ℕ) (s k : ℕ) → ℕ
added ρ δ w lows highs lengths s k = s + sum (λ i. length_at ρ δ w i lows highs lengths) (from 1 k)
