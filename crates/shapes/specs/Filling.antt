-- What the functions of the shape ask, and what they do to a list at each step; and what those that follow the lists ask of them.
-- Assumes nothing.
use Rattle.std.specs.Prelude.{◌≡◌, List, ℕ, ◌-◌, ◌≤◌, ◌<◌, length, set}
use Rattle.std.proofs.Math.Decide.{dec_le}
use Rattle.parsimony.specs.Lists.{choose}
use Rattle.parsimony.specs.Table.{ancestor, descendants, Accepted}
use Rattle.shapes.specs.Shape.{Filled}
use Rattle.trees.specs.Answers.{Sized}

-- a list of descendants, with the node noted as one of a's: nothing changes where a is a taxon, or 0
abbrev pub noted : (n a node : ℕ) → List ℕ → List ℕ
noted n a node list = choose (dec_le a n) list (set list (a - n - 1) node)

-- the table has entries that are nodes, and two descendants at each interior node
pub record Fillable (n : ℕ) (tree : List ℕ) : Type 0 where
  pub sized : Sized n tree
  pub within : (k : ℕ) → ancestor tree k ≤ length tree
  pub two : (v : ℕ) → n < v → v ≤ length tree → length (descendants tree v) ≡ 2

-- the lists of descendants are those of an accepted table, whose root has the descendant δ
pub record Orders (n δ : ℕ) (tree : List ℕ) (ρ : ℕ) (left right : List ℕ) : Type 0 where
  pub sized : Sized n tree
  pub accepted : Accepted n tree ρ δ
  pub shape : Filled n tree left right
