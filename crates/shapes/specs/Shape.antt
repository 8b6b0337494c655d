-- The shape of an accepted table, as lists that a pass can follow.
-- Assumes nothing.
use Rattle.std.specs.Prelude.{◌≡◌, List, [], ◌∷◌, ℕ, suc, ◌-◌, ◌≤◌, ◌<◌, length}
use Rattle.parsimony.specs.Lists.{sum, from}
use Rattle.parsimony.specs.Table.{descendants, meets}
use Rattle.parsimony.specs.Character.{at_node}

-- two lists have each interior node's two descendants, the lower one in the first; the node n + 1 comes first
abbrev pub Filled : ℕ → List ℕ → (left right : List ℕ) → Type 0
Filled n tree left right = (v : ℕ) → n < v → v ≤ length tree → descendants tree v ≡ at_node n left v ∷ at_node n right v ∷ []

-- 1 if v is k or below k, and else 0
abbrev pub under : List ℕ → (k v : ℕ) → ℕ
under tree k v = meets tree (length tree) k v

-- the number of interior nodes that are v or below v
abbrev pub inside : ℕ → List ℕ → ℕ → ℕ
inside n tree v = sum (under tree v) (from (suc n) (length tree - n))
