-- Climbs that lead to the root, and what the search for a lost node finds.
-- Assumes nothing.
use Rattle.std.specs.Prelude.{◌≡◌, ◌≢◌, Bool, true, false, List, ℕ, ◌+◌, ◌≤◌, length, get_or, Option, Some, None}
use Rattle.parsimony.specs.Table.{ancestor, climb}
use Rattle.refusals.specs.Search.{Lowest}
use Rattle.faults.specs.Faults.{Lost}

-- the table is small, ρ is a node, and each other node has an ancestor in the table
pub record Climbable (ρ : ℕ) (tree : List ℕ) : Type 0 where
  pub few : length tree ≤ 510
  pub some : 1 ≤ ρ
  pub most : ρ ≤ length tree
  pub onward : (k : ℕ) → 1 ≤ k → k ≤ length tree → k ≢ ρ → (1 ≤ ancestor tree k) × (ancestor tree k ≤ length tree)

-- a node comes to ρ in some number of steps
abbrev pub Reaches : List ℕ → (ρ k : ℕ) → Type 0
Reaches tree ρ k = (s : ℕ) × (climb tree s k ≡ ρ)

-- what the search for a lost node found: the lowest, or every node comes to ρ
abbrev pub FindsLost : ℕ → List ℕ → Option ℕ → Type 0
FindsLost ρ tree (Some k) = Lowest (Lost tree ρ) (length tree) k
FindsLost ρ tree None = (k : ℕ) → 1 ≤ k → k ≤ length tree → Reaches tree ρ k

-- the marks before a climb from k: whoever has one comes to ρ, and k and the nodes after it have not been given as marks yet
pub record Marked (ρ : ℕ) (tree : List ℕ) (k : ℕ) (marks : List ℕ) : Type 0 where
  pub long : length marks ≡ 511
  pub reach : (v : ℕ) → get_or marks v 0 ≢ 0 → Reaches tree ρ v
  pub fresh : (v j : ℕ) → k ≤ j → j ≤ length tree → get_or marks v 0 ≢ j

-- what a climb from k tells
abbrev pub Climbed : (ρ : ℕ) → List ℕ → (k : ℕ) → List ℕ → Bool → Type 0
Climbed ρ tree k marks true = Marked ρ tree (k + 1) marks × Reaches tree ρ k
Climbed ρ tree k marks false = Lost tree ρ k
