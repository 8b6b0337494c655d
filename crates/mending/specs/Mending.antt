-- What a correction does to the entries of its character: those of the interior nodes between the taxon and the root are settled anew, and no other
-- is written. The matrix is the corrected one; the lists have an entry for each interior node, the node n + 1 first.
-- Assumes nothing.
use Rattle.std.specs.Prelude.{◌≡◌, List, [], ◌∷◌, ℕ, ◌+◌, ◌-◌, ◌*◌, ◌≤◌, ◌<◌, length, get_or, set}
use Rattle.parsimony.specs.Table.{ancestor, below, Accepted}
use Rattle.parsimony.specs.Ordered as ordered
use Rattle.parsimony.specs.Ordered.{ordered}
use Rattle.parsimony.specs.Steps.{Settled}
use Rattle.parsimony.specs.Matrix.{state_of}
use Rattle.parsimony.specs.Character.{at_node, ranges, sizes}
use Rattle.ranges.specs.declared.Range.{Range}
use Rattle.ranges.specs.Ranges.{Joined}
use Rattle.trees.specs.Answers.{Sized}
use Rattle.shapes.specs.Shape.{Filled}
use Rattle.paths.specs.Paths.{path_of}
use Rattle.nodes.specs.Nodes.{Readable}

-- an entry that a pass can leave: a range, no higher than 9999, and a length of at most 5,089,491
pub record Sound (low high l : ℕ) : Type 0 where
  pub fits : low ≤ high
  pub small : high ≤ 9999
  pub short : l ≤ 5089491

-- the entries at the node v are the same in two triples of lists
abbrev pub SameAt : (n : ℕ) (lows highs lengths lows' highs' lengths' : List ℕ) (v : ℕ) → Type 0
SameAt n lows highs lengths lows' highs' lengths' v =
    (at_node n lows' v ≡ at_node n lows v) × (at_node n highs' v ≡ at_node n highs v) × (at_node n lengths' v ≡ at_node n lengths v)

-- the three lists after a correction at the taxon t
pub record Mended (n c j t : ℕ) (tree matrix lows highs lengths lows' highs' lengths' : List ℕ) : Type 0 where
  pub low_long : length lows' ≡ n - 2
  pub high_long : length highs' ≡ n - 2
  pub length_long : length lengths' ≡ n - 2
  -- off the path nothing is written
  pub off : (v : ℕ) → n < v → v ≤ length tree → below tree v t ≡ 0 → SameAt n lows highs lengths lows' highs' lengths' v
  -- on the path each entry is settled
  pub on : (v : ℕ) → n < v → v ≤ length tree → 1 ≤ below tree v t
      → Settled ordered tree (ranges n (state_of matrix c j) lows' highs') (sizes n (state_of matrix c j) lengths') v
  pub fits : (v : ℕ) → n < v → v ≤ length tree → 1 ≤ below tree v t → at_node n lows' v ≤ at_node n highs' v

-- ---- the steps

-- the two descendants of the node v can be read
pub record MendsNode (n c j v : ℕ) (matrix left right lows highs lengths : List ℕ) : Type 0 where
  pub taxa : (3 ≤ n) × (n ≤ 256)
  pub inner : n < v
  pub last : v ≤ 2 * n - 2
  pub first : Readable n c j (at_node n left v) matrix lows highs
  pub second : Readable n c j (at_node n right v) matrix lows highs
  pub long : length lengths ≡ n - 2
  pub small : sizes n (λ k. 0) lengths (at_node n left v) + sizes n (λ k. 0) lengths (at_node n right v) ≤ 4294901760

-- its entries are settled from theirs, and nothing else is written
pub record MendedNode (n c j v : ℕ) (matrix left right lows highs lengths lows' highs' lengths' : List ℕ) : Type 0 where
  pub range : Range
  pub joined : Joined (ranges n (state_of matrix c j) lows highs (at_node n left v) ∷ ranges n (state_of matrix c j) lows highs (at_node n right v) ∷ [])
      range
  pub low_written : lows' ≡ set lows (v - n - 1) range.low
  pub high_written : highs' ≡ set highs (v - n - 1) range.high
  pub length_written : lengths'
      ≡ set lengths (v - n - 1)
      (sizes n (λ k. 0) lengths (at_node n left v) + sizes n (λ k. 0) lengths (at_node n right v)
      + ordered.cost
      (ranges n (state_of matrix c j) lows highs (at_node n left v) ∷ ranges n (state_of matrix c j) lows highs (at_node n right v) ∷ []))

-- the path is that of the taxon t, and the entries beside it are sound
pub record MendsPath (n c j t count : ℕ) (tree matrix left right path lows highs lengths : List ℕ) : Type 0 where
  pub ρ : ℕ
  pub δ : ℕ
  pub sized : Sized n tree
  pub accepted : Accepted n tree ρ δ
  pub shape : Filled n tree left right
  pub some : 1 ≤ j
  pub most : j ≤ c
  pub rows : length matrix ≡ n * c
  pub states : (k : ℕ) → 1 ≤ k → k ≤ n → state_of matrix c j k ≤ 9999
  pub taxon : (1 ≤ t) × (t ≤ n)
  pub counts : count ≡ length (path_of n tree t)
  pub lists : (i : ℕ) → i < count → get_or path i 0 ≡ get_or (path_of n tree t) i 0
  pub low_long : length lows ≡ n - 2
  pub high_long : length highs ≡ n - 2
  pub length_long : length lengths ≡ n - 2
  pub beside : (u : ℕ) → n < u → u ≤ length tree → n < ancestor tree u → 1 ≤ below tree (ancestor tree u) t → below tree u t ≡ 0
      → Sound (at_node n lows u) (at_node n highs u) (at_node n lengths u)
