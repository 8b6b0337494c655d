-- What the searches for the faults ask, and what they find on the way: the contracts of the functions behind `check_below`.
-- Assumes nothing.
use Rattle.std.specs.Prelude.{◌≡◌, ◌≢◌, ◌⊎◌, List, ℕ, ◌≤◌, ◌<◌, length, get_or}
use Rattle.parsimony.specs.Table.{ancestor, descendants}

-- an entry is stray in a table of m nodes: it is above them, or names a taxon that is not the root
abbrev pub Strays : (n ρ m entry : ℕ) → Type 0
Strays n ρ m entry = (m < entry) ⊎ ((1 ≤ entry) × (entry ≤ n) × (entry ≢ ρ))

-- a node k has a wrong count of descendants: the root, but not one; an interior node, but not two
abbrev pub Wrong : (n ρ k count : ℕ) → Type 0
Wrong n ρ k count = ((k ≡ ρ) × (count ≢ 1)) ⊎ ((n < k) × (count ≢ 2))

-- the table is small, and each of its entries is a node or 0
pub record InTable (tree : List ℕ) : Type 0 where
  pub few : length tree ≤ 510
  pub within : (k : ℕ) → ancestor tree k ≤ length tree

-- a list of 511 counts, all 0
pub record Cleared (counts : List ℕ) : Type 0 where
  pub long : length counts ≡ 511
  pub zero : (v : ℕ) → get_or counts v 0 ≡ 0

-- entry v is the number of the descendants of v
abbrev pub Counted : List ℕ → List ℕ → Type 0
Counted tree counts = (v : ℕ) → 1 ≤ v → v ≤ length tree → get_or counts v 0 ≡ length (descendants tree v)
