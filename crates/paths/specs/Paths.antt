-- The path from a node of an accepted table to the root, as a list: what it is, what the function asks, and what it leaves.
-- Assumes nothing.
use Rattle.std.specs.Prelude.{◌≡◌, List, [], ◌∷◌, ℕ, zero, suc, ◌≤◌, length}
use Rattle.std.proofs.Math.Decide.{dec_le}
use Rattle.std.proofs.lemmas.List.Edits.{sets}
use Rattle.parsimony.specs.Lists.{choose}
use Rattle.parsimony.specs.Table.{ancestor, between, Accepted}
use Rattle.trees.specs.Answers.{Sized}

-- the interior nodes above k, from its ancestor up, s of them at the most
unfoldable pub path_by : ℕ → List ℕ → ℕ → ℕ → List ℕ
path_by n tree zero k = []
path_by n tree (suc s) k =
    let rest = path_by n tree s (ancestor tree k) in
    choose (dec_le (ancestor tree k) n) [] (ancestor tree k ∷ rest)

-- the path from a node to the root: the interior nodes between them
abbrev pub path_of : ℕ → List ℕ → ℕ → List ℕ
path_of n tree k = path_by n tree (length tree) k

-- the table is accepted, and k is a node
pub record Pathable (n : ℕ) (tree : List ℕ) (k : ℕ) : Type 0 where
  pub sized : Sized n tree
  pub ρ : ℕ
  pub δ : ℕ
  pub accepted : Accepted n tree ρ δ
  pub some : 1 ≤ k
  pub most : k ≤ length tree

-- the list begins with the path from k to the root, and r is its length: the number of interior nodes between them
pub record IsPath (n : ℕ) (tree : List ℕ) (k : ℕ) (before after : List ℕ) (r : ℕ) : Type 0 where
  pub lists : after ≡ sets before 0 (path_of n tree k)
  pub counts : r ≡ length (path_of n tree k)
  pub number : r ≡ between n tree k
