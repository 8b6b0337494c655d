-- What the answers about a tree table say, an accepted one's and a refused one's; and the checks of document 01, in its order.
-- Assumes nothing.
use Rattle.std.specs.Prelude.{◌≡◌, ◌⊎◌, List, [], ◌∷◌, ◌++◌, ℕ, ◌-◌, ◌*◌, ◌≤◌, ◌<◌, length, Result, Ok, Err}
use Rattle.parsimony.specs.Table as table
use Rattle.refusals.specs.declared.Refusal.{Refusal}
use Rattle.refusals.specs.Search.{Lowest}
use Rattle.refusals.specs.Checks.{Check, at, Refuses, Slice, slices}
use Rattle.roots.specs.Roots.{IsRoot, StrayZero, NoZero}
use Rattle.faults.specs.Faults.{StrayEntry, WrongCount, Lost}
use Rattle.trees.specs.declared.Rooted.{Rooted}

-- n and the table have the sizes of document 01
pub record Sized (n : ℕ) (tree : List ℕ) : Type 0 where
  pub least : 3 ≤ n
  pub most : n ≤ 256
  pub nodes : length tree ≡ 2 * n - 2

module _ (n : ℕ) (tree : List ℕ) where
  -- 1, of n alone
  abbrev pub TaxaOutside : Type 0
  TaxaOutside = (n < 3) ⊎ (256 < n)

  -- 3: no 0 entry, or the lowest that is interior or follows another
  abbrev pub zeros : Check
  zeros = record { number = 3; At = λ k. ((k ≡ 0) × NoZero n tree) ⊎ Lowest (StrayZero n tree) (length tree) k }

  -- the lowest node with a fault that speaks of the root
  abbrev pub rooted : ℕ → ((ρ k : ℕ) → Type 0) → Check
  rooted number P = record { number = number; At = λ k. (ρ : ℕ) × IsRoot n tree ρ × Lowest (P ρ) (length tree) k }

  -- 3 to 6
  abbrev pub tree_faults : List {1} Check
  tree_faults = zeros ∷ rooted 4 (StrayEntry n tree) ∷ rooted 5 (WrongCount n tree) ∷ rooted 6 (Lost tree) ∷ []

  -- the tree, as a lent slice
  abbrev pub tree_slice : Slice
  tree_slice = record { has = length tree; asked = 2 * n - 2 }

  -- 1 to 6
  abbrev pub tree_checks : List {1} Check
  tree_checks = at 1 0 TaxaOutside ∷ slices 1 (tree_slice ∷ []) ++ tree_faults

  -- what an answer says of a table of the right size
  abbrev pub Checks : Result Rooted Refusal → Type 0
  Checks (Ok r) = table.Accepted n tree r.root r.top
  Checks (Err r) = Refuses tree_faults r

  -- what an answer says of any table
  abbrev pub Answers : Result Rooted Refusal → Type 0
  Answers (Ok r) = Sized n tree × table.Accepted n tree r.root r.top
  Answers (Err r) = Refuses tree_checks r
