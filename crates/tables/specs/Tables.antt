-- The kept table: three lists with an entry for each character and each interior node. Character 1 comes first; the entries of one character, its
-- stretch, are adjacent, the node n + 1 first. So a stretch is three lists of one character, and means what they mean.
-- Assumes nothing.
use Rattle.std.specs.Prelude.{◌≡◌, List, ◌++◌, ℕ, ◌-◌, ◌*◌, ◌≤◌, ◌<◌, length, take, drop}
use Rattle.parsimony.specs.Steps.{FirstPass}
use Rattle.parsimony.specs.Ordered.{ordered}
use Rattle.parsimony.specs.Matrix.{state_of}
use Rattle.parsimony.specs.Character.{at_node, cells, ranges, sizes, FirstMeans}
use Rattle.shapes.specs.Filling.{Orders}
use Rattle.entry_lists.specs.EntryLists.{Taken}

-- the stretch of the character j, where each has w entries
abbrev pub stretch : (w : ℕ) → List ℕ → ℕ → List ℕ
stretch w entries j = take w (drop ((j - 1) * w) entries)

-- the list with another stretch for the character j
abbrev pub with_stretch : (w : ℕ) → List ℕ → (j : ℕ) → List ℕ → List ℕ
with_stretch w entries j part = take ((j - 1) * w) entries ++ (part ++ drop w (drop ((j - 1) * w) entries))

-- three lists have room for n - 2 entries of each of c characters
pub record TableLong (n c : ℕ) (lows highs lengths : List ℕ) : Type 0 where
  pub low_long : length lows ≡ (n - 2) * c
  pub high_long : length highs ≡ (n - 2) * c
  pub length_long : length lengths ≡ (n - 2) * c

-- every entry has its meaning: the least length of the subtree, and the states that shortest ways of the subtree have at the node
pub record TableMeans (n c : ℕ) (tree matrix lows highs lengths : List ℕ) : Type 0 where
  pub long : TableLong n c lows highs lengths
  pub means : (j : ℕ) → 1 ≤ j → j ≤ c
      → FirstMeans n (state_of matrix c j) tree (stretch (n - 2) lows j) (stretch (n - 2) highs j) (stretch (n - 2) lengths j)

-- ---- the steps of the builder

-- three lists are the first pass of the character j
pub record Settles (n c j : ℕ) (tree matrix lows highs lengths : List ℕ) : Type 0 where
  pub fits : (v : ℕ) → n < v → v ≤ length tree → at_node n lows v ≤ at_node n highs v
  pub pass : FirstPass ordered n (cells n (state_of matrix c j)) tree (ranges n (state_of matrix c j) lows highs) (sizes n (state_of matrix c j) lengths)

-- the first k stretches are, in any accepted table of this shape
pub record BuiltTo (n c ρ δ : ℕ) (left right matrix : List ℕ) (k : ℕ) (lows highs lengths : List ℕ) : Type 0 where
  pub long : TableLong n c lows highs lengths
  pub settled : (tree : List ℕ) → Orders n δ tree ρ left right → (j : ℕ) → 1 ≤ j → j ≤ k
      → Settles n c j tree matrix (stretch (n - 2) lows j) (stretch (n - 2) highs j) (stretch (n - 2) lengths j)

-- one character of a block, in three lists of its own
pub record TakenAll (n w i : ℕ) (block-lows block-highs block-lengths lows highs lengths : List ℕ) : Type 0 where
  pub low_ends : Taken n w i block-lows lows
  pub high_ends : Taken n w i block-highs highs
  pub below : Taken n w i block-lengths lengths
