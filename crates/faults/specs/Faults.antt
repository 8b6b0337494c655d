-- The faults of a tree table beside the root's, a definition for each sentence of document 01's refusals 4 to 6.
-- Assumes nothing.
use Rattle.std.specs.Prelude.{◌≡◌, ◌≢◌, ◌⊎◌, List, ℕ, ◌≤◌, ◌<◌, length}
use Rattle.parsimony.specs.Table.{ancestor, descendants, climb}

-- 6: a node whose ancestors never reach the root, in no number of steps
abbrev pub Lost : List ℕ → (ρ k : ℕ) → Type 0
Lost tree ρ k = (s : ℕ) → climb tree s k ≢ ρ

module _ (n : ℕ) (tree : List ℕ) (ρ : ℕ) where
  -- 4: an entry that is above the nodes, or names a taxon that is not the root
  abbrev pub StrayEntry : ℕ → Type 0
  StrayEntry k = (length tree < ancestor tree k) ⊎ ((1 ≤ ancestor tree k) × (ancestor tree k ≤ n) × (ancestor tree k ≢ ρ))

  -- 5: the root without one descendant, or an interior node without two
  abbrev pub WrongCount : ℕ → Type 0
  WrongCount k = ((k ≡ ρ) × (length (descendants tree k) ≢ 1)) ⊎ ((n < k) × (length (descendants tree k) ≢ 2))
