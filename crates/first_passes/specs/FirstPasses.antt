-- The first pass of one character: what it asks, and what it leaves.
-- Assumes nothing.
use Rattle.std.specs.Prelude.{◌≡◌, List, ℕ, ◌-◌, ◌*◌, ◌≤◌, ◌<◌, length}
use Rattle.parsimony.specs.Ordered.{ordered}
use Rattle.parsimony.specs.Meaning.{LengthMeans}
use Rattle.parsimony.specs.Steps.{FirstPass}
use Rattle.parsimony.specs.Matrix.{state_of}
use Rattle.parsimony.specs.Character.{at_node, cells, ranges, sizes}
use Rattle.shapes.specs.Filling.{Orders}

-- an accepted table of this shape, and a character without a state above 9999
pub record Given (n c j ρ δ : ℕ) (left right matrix : List ℕ) : Type 0 where
  pub tree : List ℕ
  pub orders : Orders n δ tree ρ left right
  pub some : 1 ≤ j
  pub most : j ≤ c
  pub rows : length matrix ≡ n * c
  pub small : (k : ℕ) → 1 ≤ k → k ≤ n → state_of matrix c j k ≤ 9999

-- three lists are the first pass, and l is the length
pub record BegunIn (n c j : ℕ) (tree matrix lows highs lengths : List ℕ) (l : ℕ) : Type 0 where
  pub low_long : length lows ≡ n - 2
  pub high_long : length highs ≡ n - 2
  pub length_long : length lengths ≡ n - 2
  pub fits : (v : ℕ) → n < v → v ≤ length tree → at_node n lows v ≤ at_node n highs v
  pub pass : FirstPass ordered n (cells n (state_of matrix c j)) tree (ranges n (state_of matrix c j) lows highs) (sizes n (state_of matrix c j) lengths)
  pub least : LengthMeans ordered n (cells n (state_of matrix c j)) tree l

-- in any accepted table of this shape
abbrev pub Begun : (n c j ρ δ : ℕ) (left right matrix lows highs lengths : List ℕ) (l : ℕ) → Type 0
Begun n c j ρ δ left right matrix lows highs lengths l =
    (tree : List ℕ) → Orders n δ tree ρ left right → BegunIn n c j tree matrix lows highs lengths l
