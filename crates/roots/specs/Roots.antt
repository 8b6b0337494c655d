-- The root of a tree table, a definition for each sentence of document 01's refusal 3; and what the searches for the root and for its descendant ask
-- and find.
-- Assumes nothing.
use Rattle.std.specs.Prelude.{◌≡◌, ◌⊎◌, List, ℕ, ◌≤◌, ◌<◌, length, Result, Ok, Err}
use Rattle.parsimony.specs.Table.{ancestor}
use Rattle.refusals.specs.Search.{Lowest, Never}
use Rattle.roots.specs.declared.NoRoot.{NoRoot}
use Rattle.roots.specs.declared.NoRoot.TheVariants.{Stray, Missing}

module _ (n : ℕ) (tree : List ℕ) where
  -- ρ is the root: a node and a taxon, with the only 0 entry
  pub record IsRoot (ρ : ℕ) : Type 0 where
    pub some : 1 ≤ ρ
    pub most : ρ ≤ length tree
    pub taxon : ρ ≤ n
    pub root : ancestor tree ρ ≡ 0
    pub sole : (k : ℕ) → 1 ≤ k → k ≤ length tree → ancestor tree k ≡ 0 → k ≡ ρ

  -- 3: a 0 entry that is interior or follows another 0
  abbrev pub StrayZero : ℕ → Type 0
  StrayZero k = (ancestor tree k ≡ 0) × ((n < k) ⊎ ((j : ℕ) × (1 ≤ j) × (j < k) × (ancestor tree j ≡ 0)))

  -- 3: there is no 0 entry
  abbrev pub NoZero : Type 0
  NoZero = Never (λ k. ancestor tree k ≡ 0) (length tree)

-- what the search for the root found
abbrev pub FindsRoot : ℕ → List ℕ → Result ℕ NoRoot → Type 0
FindsRoot n tree (Ok ρ) = IsRoot n tree ρ
FindsRoot n tree (Err (Stray k)) = Lowest (StrayZero n tree) (length tree) k
FindsRoot n tree (Err Missing) = NoZero n tree

-- some node has this ancestor
abbrev pub Named : ℕ → List ℕ → Type 0
Named ρ tree = (k : ℕ) × (1 ≤ k) × (k ≤ length tree) × (ancestor tree k ≡ ρ)
