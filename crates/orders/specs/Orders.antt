-- An order of the interior nodes in which each stands behind its ancestor: what it is, what the functions ask, and what they do to a list at each step.
-- Assumes nothing.
use Rattle.std.specs.Prelude.{◌≡◌, ◌≢◌, List, ℕ, ◌+◌, ◌-◌, ◌≤◌, ◌<◌, length, get_or, set}
use Rattle.std.proofs.Math.Decide.{dec_le}
use Rattle.parsimony.specs.Lists.{choose}
use Rattle.parsimony.specs.Table.{ancestor}
use Rattle.shapes.specs.Filling.{Orders}

-- a list has each interior node once, the root's descendant first and every other node behind its ancestor
pub record IsOrder (n : ℕ) (tree : List ℕ) (δ : ℕ) (order : List ℕ) : Type 0 where
  pub inner : (i : ℕ) → i < n - 2 → (n < get_or order i 0) × (get_or order i 0 ≤ length tree)
  pub first : get_or order 0 0 ≡ δ
  pub after : (i : ℕ) → 1 ≤ i → i < n - 2 → (j : ℕ) × (j < i) × (get_or order j 0 ≡ ancestor tree (get_or order i 0))
  pub once : (i j : ℕ) → i < j → j < n - 2 → get_or order i 0 ≢ get_or order j 0
  pub all : (v : ℕ) → n < v → v ≤ length tree → (i : ℕ) × (i < n - 2) × (get_or order i 0 ≡ v)

-- a list with one more node at the place k; nothing changes for a taxon
abbrev pub put_at : (n a k : ℕ) → List ℕ → List ℕ
put_at n a k order = choose (dec_le a n) order (set order k a)

-- and the next place
abbrev pub place_after : (n a k : ℕ) → ℕ
place_after n a k = choose (dec_le a n) k (k + 1)

-- there is a table that has these lists of descendants
pub record Orderable (n δ : ℕ) (left right : List ℕ) : Type 0 where
  pub tree : List ℕ
  pub ρ : ℕ
  pub orders : Orders n δ tree ρ left right

-- what the list holds, in any such table
abbrev pub Listed : (n δ : ℕ) (left right order : List ℕ) → Type 0
Listed n δ left right order = (tree : List ℕ) (ρ : ℕ) → Orders n δ tree ρ left right → IsOrder n tree δ order
