-- What the answer of a search says, and of a test. The lowest number of which something holds: document 01 gives the lowest place of each fault, and
-- this is what "lowest" means.
-- Assumes nothing.
use Rattle.std.specs.Prelude.{Bool, true, false, ℕ, ◌≤◌, ◌<◌, Option, Some, None}

-- k is the lowest number from 1 to m of which P holds
pub record Lowest (P : ℕ → Type 0) (m k : ℕ) : Type 0 where
  pub some : 1 ≤ k
  pub most : k ≤ m
  pub holds : P k
  pub first : (j : ℕ) → 1 ≤ j → j < k → P j → ⊥

-- P holds of no number from 1 to m
abbrev pub Never : (ℕ → Type 0) → ℕ → Type 0
Never P m = (k : ℕ) → 1 ≤ k → k ≤ m → P k → ⊥

-- what a search from 1 to m found
abbrev pub Finds : (ℕ → Type 0) → ℕ → Option ℕ → Type 0
Finds P m (Some k) = Lowest P m k
Finds P m None = Never P m

-- what a yes or no says
abbrev pub Tells : Type 0 → Bool → Type 0
Tells P true = P
Tells P false = P → ⊥
