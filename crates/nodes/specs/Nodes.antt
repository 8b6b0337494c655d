-- One node and one character: what is read of it, what it sees from above, and what is written for it.
-- The lists have an entry for each interior node, the node n + 1 first. `j` is the character.
-- Assumes nothing.
use Rattle.std.specs.Prelude.{◌≡◌, ◌≢◌, List, [], ◌∷◌, ◌++◌, map, ℕ, suc, ◌-◌, ◌*◌, ◌≤◌, ◌<◌, length, get_or, set}
use Rattle.std.proofs.Math.Decide.{ℕ_discrete}
use Rattle.parsimony.specs.Lists.{choose}
use Rattle.parsimony.specs.Table.{ancestor, sisters, Accepted}
use Rattle.parsimony.specs.Ordered as ordered
use Rattle.parsimony.specs.Ordered.{span, point}
use Rattle.parsimony.specs.Matrix.{state_of}
use Rattle.parsimony.specs.Character.{at_node, ranges}
use Rattle.ranges.specs.declared.Range.{Range}
use Rattle.ranges.specs.Ranges.{range_of, IsRange, Joined}
use Rattle.trees.specs.Answers.{Sized}
use Rattle.shapes.specs.Shape.{Filled}

-- the node v is one of the tree, and its entries are a range if it is interior
pub record Readable (n c j v : ℕ) (matrix lows highs : List ℕ) : Type 0 where
  pub some : 1 ≤ j
  pub most : j ≤ c
  pub rows : length matrix ≡ n * c
  pub low_long : length lows ≡ n - 2
  pub high_long : length highs ≡ n - 2
  pub node : 1 ≤ v
  pub last : v ≤ 2 * n - 2
  pub fits : n < v → at_node n lows v ≤ at_node n highs v

-- r is the range of the node v
pub record IsAt (n c j v : ℕ) (matrix lows highs : List ℕ) (r : Range) : Type 0 where
  pub fits : IsRange r
  pub range : range_of r ≡ ranges n (state_of matrix c j) lows highs v

-- of two nodes, the one that is not v
abbrev pub other_of : (v a b : ℕ) → ℕ
other_of v a b = choose (ℕ_discrete a v) b a

-- the entry of the interior node v, in a list of what each sees from above
abbrev pub seen_at : (n : ℕ) (above : List Range) → ℕ → Range
seen_at n above v = get_or above (v - suc n) (record { low = 0; high = 0 })

-- what is seen from above, by such a list
abbrev pub above_of : (n : ℕ) (above : List Range) → ℕ → ordered.Range
above_of n above v = range_of (seen_at n above v)

-- the node v is interior, and it is known what its ancestor sees from above; asked in full, as by the records of `descents` and `mending`, so that none has
-- to be read for another
pub record Seeing (n c j ρ δ v : ℕ) (tree matrix left right lows highs : List ℕ) (above : List Range) : Type 0 where
  pub sized : Sized n tree
  pub accepted : Accepted n tree ρ δ
  pub shape : Filled n tree left right
  pub some : 1 ≤ j
  pub most : j ≤ c
  pub rows : length matrix ≡ n * c
  pub low_long : length lows ≡ n - 2
  pub high_long : length highs ≡ n - 2
  pub fits : (u : ℕ) → n < u → u ≤ length tree → at_node n lows u ≤ at_node n highs u
  pub inner : n < v
  pub last : v ≤ length tree
  pub known : v ≢ δ → IsRange (seen_at n above (ancestor tree v))

-- r is the range that v sees from above
pub record Seen (n c j ρ δ v : ℕ) (tree matrix lows highs : List ℕ) (above : List Range) (r : Range) : Type 0 where
  pub fits : IsRange r
  pub top : v ≡ δ → range_of r ≡ point (state_of matrix c j ρ)
  pub rest : v ≢ δ
      → range_of r
      ≡ ordered.join (map (ranges n (state_of matrix c j) lows highs) (sisters tree v) ++ (above_of n above (ancestor tree v) ∷ []))

-- the descendants of v can be read, and its final range written
pub record Finishing (n c j v : ℕ) (r : Range) (matrix left right lows highs lows' highs' : List ℕ) : Type 0 where
  pub taxa : (3 ≤ n) × (n ≤ 256)
  pub inner : n < v
  pub last : v ≤ 2 * n - 2
  pub above : IsRange r
  pub first : Readable n c j (at_node n left v) matrix lows highs
  pub second : Readable n c j (at_node n right v) matrix lows highs
  pub low_long : length lows' ≡ n - 2
  pub high_long : length highs' ≡ n - 2

-- it is written, and nothing else
pub record Finished (n c j v : ℕ) (r : Range) (matrix left right lows highs lows₀ highs₀ lows' highs' : List ℕ) : Type 0 where
  pub range : Range
  pub joined : Joined
      (ranges n (state_of matrix c j) lows highs (at_node n left v) ∷ ranges n (state_of matrix c j) lows highs (at_node n right v) ∷ range_of r ∷ [])
      range
  pub low_written : lows' ≡ set lows₀ (v - n - 1) range.low
  pub high_written : highs' ≡ set highs₀ (v - n - 1) range.high
