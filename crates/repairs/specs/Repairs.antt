-- A cell of the matrix, the path of its taxon, and what is written for both.
-- The lists have an entry for each interior node, the node n + 1 first.
-- Assumes nothing.
use Rattle.std.specs.Prelude.{◌≡◌, List, ℕ, ◌-◌, ◌*◌, ◌≤◌, ◌<◌, length, get_or, set}
use Rattle.parsimony.specs.Table.{Accepted}
use Rattle.parsimony.specs.Matrix.{cell_number, state_of}
use Rattle.refusals.specs.Search.{Never}
use Rattle.trees.specs.Answers.{Sized}
use Rattle.paths.specs.Paths.{path_of}
use Rattle.entries.specs.Entries.{BadBeside, OneCharacter}
use Rattle.mending.specs.Mending as mending

-- ---- what is written

-- the matrix with the state s in the cell of the taxon t and the character j
abbrev pub with_cell : (c t j s : ℕ) → List ℕ → List ℕ
with_cell c t j s matrix = set matrix (cell_number c t j - 1) s

-- the cell is written, the path is settled anew for the corrected matrix, and nothing else is written
pub record Mended (n c t j s : ℕ) (tree matrix lows highs lengths matrix' lows' highs' lengths' : List ℕ) : Type 0 where
  pub cell : matrix' ≡ with_cell c t j s matrix
  pub path : mending.Mended n c j t tree matrix' lows highs lengths lows' highs' lengths'

-- ---- what is given

-- an accepted tree, a taxon, and a character of the matrix without a state above 9999
pub record Cell (n c t j : ℕ) (tree matrix : List ℕ) : Type 0 where
  pub ρ : ℕ
  pub δ : ℕ
  pub sized : Sized n tree
  pub accepted : Accepted n tree ρ δ
  pub taxon : (1 ≤ t) × (t ≤ n)
  pub character : (1 ≤ j) × (j ≤ c)
  pub few : c ≤ 512
  pub rows : length matrix ≡ n * c
  pub small : (k : ℕ) → 1 ≤ k → k ≤ n → state_of matrix c j k ≤ 9999

-- with the entries of the character
pub record Correctable (n c t j : ℕ) (tree matrix lows highs lengths : List ℕ) : Type 0 where
  pub cell : Cell n c t j tree matrix
  pub lists : OneCharacter n lows highs lengths

-- ---- the path

-- a list begins with the path of the taxon t, which has `count` nodes
pub record HasPath (n t count : ℕ) (tree path : List ℕ) : Type 0 where
  pub counts : count ≡ length (path_of n tree t)
  pub nodes : (i : ℕ) → i < count → get_or path i 0 ≡ get_or (path_of n tree t) i 0

-- the path, and the entries
pub record Looks (n t count : ℕ) (tree path lows highs lengths : List ℕ) : Type 0 where
  pub ρ : ℕ
  pub δ : ℕ
  pub sized : Sized n tree
  pub accepted : Accepted n tree ρ δ
  pub listed : HasPath n t count tree path
  pub lists : OneCharacter n lows highs lengths

-- a correction that is not refused, and its path
pub record Mends (n c t j s count : ℕ) (tree path matrix lows highs lengths : List ℕ) : Type 0 where
  pub given : Correctable n c t j tree matrix lows highs lengths
  pub small : s ≤ 9999
  pub listed : HasPath n t count tree path
  pub clear : Never (BadBeside n t tree lows highs lengths) (2 * n - 2)
