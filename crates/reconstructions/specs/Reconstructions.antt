-- One character's states at the interior nodes, chosen from ranges from the root down.
-- The lists have an entry for each interior node, the node n + 1 first. `j` is the character.
-- Assumes nothing.
use Rattle.std.specs.Prelude.{◌≡◌, List, ℕ, ◌-◌, ◌*◌, ◌≤◌, length, pos}
use Rattle.parsimony.specs.Table.{ancestor}
use Rattle.parsimony.specs.Ordered.{ordered}
use Rattle.parsimony.specs.Steps.{Chosen}
use Rattle.parsimony.specs.Matrix.{state_of}
use Rattle.parsimony.specs.Character.{cells, ranges, way_of}
use Rattle.choices.specs.declared.Resolve.{Resolve}
use Rattle.choices.specs.declared.Resolve.TheVariants.{Acctran, Deltran}

-- the states: they are chosen from the ranges, from the root down
pub record Chooses (n c j ρ : ℕ) (tree matrix lows highs states : List ℕ) : Type 0 where
  pub long : length states ≡ n - 2
  pub chosen : Chosen ordered n (cells n (state_of matrix c j)) tree ρ (ranges n (state_of matrix c j) lows highs) (way_of n (state_of matrix c j) states)

-- of two lists, the one that the states are chosen from
abbrev pub list_of : {A : Type 0} → Resolve → (first final : A) → A
list_of Acctran first final = first
list_of Deltran first final = final

-- ---- the steps

-- the node v is interior, so it has an ancestor
pub record Choosing (n c j v : ℕ) (tree matrix states : List ℕ) : Type 0 where
  pub some : 1 ≤ j
  pub most : j ≤ c
  pub rows : length matrix ≡ n * c
  pub node : 1 ≤ v
  pub last : v ≤ length tree
  pub long : length states ≡ n - 2
  pub ancestor_some : 1 ≤ ancestor tree v
  pub ancestor_last : ancestor tree v ≤ 2 * n - 2

-- r is its ancestor's state
abbrev pub ChosenAt : (n c j v : ℕ) (tree matrix states : List ℕ) (r : ℕ) → Type 0
ChosenAt n c j v tree matrix states r = pos r ≡ way_of n (state_of matrix c j) states (ancestor tree v)
