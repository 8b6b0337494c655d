-- What the correction of a cell does to the matrix and to the entries of its character, and when it is refused.
-- The lists have an entry for each interior node, the node n + 1 first.
-- Assumes nothing.
use Rattle.std.specs.Prelude.{◌≡◌, List, [], ◌∷◌, ℕ, ◌<◌, Result, Ok, Err}
use Rattle.parsimony.specs.Table.{between}
use Rattle.refusals.specs.declared.Refusal.{Refusal}
use Rattle.refusals.specs.Checks.{Check, at, Refuses, Passes}
use Rattle.entries.specs.Entries.{beside_entries}
use Rattle.paths.specs.declared.Path.{Path}
use Rattle.repairs.specs.Repairs.{Mended, Mends}

-- 9 and 10
abbrev pub state_checks : (n t s : ℕ) (tree lows highs lengths : List ℕ) → List {1} Check
state_checks n t s tree lows highs lengths = at 9 0 (9999 < s) ∷ beside_entries n t tree lows highs lengths ∷ []

-- neither applies, and the path is that of the taxon; or one of them does
abbrev pub Admits : (n c t j s : ℕ) (tree matrix lows highs lengths : List ℕ) → Result Path Refusal → Type 0
Admits n c t j s tree matrix lows highs lengths (Ok path) =
    Mends n c t j s path.count tree path.nodes matrix lows highs lengths × (path.count ≡ between n tree t)
Admits n c t j s tree matrix lows highs lengths (Err r) = Refuses (state_checks n t s tree lows highs lengths) r

-- neither applies; the count is the number of interior nodes between the taxon and the root
pub record Corrected (n c t j s : ℕ) (tree matrix lows highs lengths matrix' lows' highs' lengths' : List ℕ) (k : ℕ) : Type 0 where
  pub passes : Passes (state_checks n t s tree lows highs lengths)
  pub mended : Mended n c t j s tree matrix lows highs lengths matrix' lows' highs' lengths'
  pub count : k ≡ between n tree t

-- or one of them does, and nothing is changed
abbrev pub Corrects : (n c t j s : ℕ) (tree matrix lows highs lengths matrix' lows' highs' lengths' : List ℕ) → Result ℕ Refusal → Type 0
Corrects n c t j s tree matrix lows highs lengths matrix' lows' highs' lengths' (Ok k) =
    Corrected n c t j s tree matrix lows highs lengths matrix' lows' highs' lengths' k
Corrects n c t j s tree matrix lows highs lengths matrix' lows' highs' lengths' (Err r) =
    Refuses (state_checks n t s tree lows highs lengths) r × (matrix' ≡ matrix) × (lows' ≡ lows) × (highs' ≡ highs) × (lengths' ≡ lengths)
