-- The search for the root, entry by entry: at most one 0 so far, and it is a taxon's.
-- Assumes nothing.
use mathlib.Core.Path.{◌≡◌}
use mathlib.Core.List.{List}
use Prim.Native.Nat.{ℕ, ◌≤◌}
use Rattle.std.specs.Prelude.{Option, Some, None}
use Rattle.parsimony.specs.Table.{ancestor}
use Rattle.refusals.specs.Search.{Never}

module _ (n : ℕ) (tree : List ℕ) where
  -- of the first k entries none but that of `root` is 0, and it is a taxon's
  abbrev pub SoFar : ℕ → Option ℕ → Type 0
  SoFar k None = Never (λ j. ancestor tree j ≡ 0) k
  SoFar k (Some r) = (1 ≤ r) × (r ≤ k) × (r ≤ n) × (ancestor tree r ≡ 0) × ((j : ℕ) → 1 ≤ j → j ≤ k → ancestor tree j ≡ 0 → j ≡ r)
