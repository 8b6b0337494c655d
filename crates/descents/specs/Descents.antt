-- One character's ranges at the interior nodes, and the final ranges that are made of them from the root down.
-- The lists have an entry for each interior node, the node n + 1 first. `j` is the character.
-- Assumes nothing.
use Rattle.std.specs.Prelude.{◌≡◌, List, ℕ, ◌-◌, ◌*◌, ◌≤◌, ◌<◌, length}
use Rattle.parsimony.specs.Table.{Accepted}
use Rattle.parsimony.specs.Ordered as ordered
use Rattle.parsimony.specs.Ordered.{span, ordered}
use Rattle.parsimony.specs.Steps.{SecondPass, final}
use Rattle.parsimony.specs.Matrix.{state_of}
use Rattle.parsimony.specs.Character.{at_node, cells, ranges}
use Rattle.trees.specs.Answers.{Sized}
use Rattle.orders.specs.Orders.{IsOrder}

-- ---- what is given

-- an accepted tree, an order of its interior nodes, a character of a matrix for its taxa, and a range at each interior node
pub record Descends (n c j ρ δ : ℕ) (tree matrix order lows highs : List ℕ) : Type 0 where
  pub sized : Sized n tree
  pub accepted : Accepted n tree ρ δ
  pub turns : IsOrder n tree δ order
  pub some : 1 ≤ j
  pub most : j ≤ c
  pub rows : length matrix ≡ n * c
  pub low_long : length lows ≡ n - 2
  pub high_long : length highs ≡ n - 2
  pub fits : (v : ℕ) → n < v → v ≤ length tree → at_node n lows v ≤ at_node n highs v

-- ---- what is made of it

-- the final ranges: there is a second pass whose final ranges these are
pub record Finals (n c j ρ δ : ℕ) (tree matrix lows highs lows' highs' : List ℕ) : Type 0 where
  pub above : ℕ → ordered.Range
  pub second : SecondPass ordered n (cells n (state_of matrix c j)) tree ρ δ (ranges n (state_of matrix c j) lows highs) above
  pub low_long : length lows' ≡ n - 2
  pub high_long : length highs' ≡ n - 2
  pub fits : (v : ℕ) → n < v → v ≤ length tree → at_node n lows' v ≤ at_node n highs' v
  pub finals : (v : ℕ) → n < v → v ≤ length tree
      → span (at_node n lows' v) (at_node n highs' v)
      ≡ final ordered n (cells n (state_of matrix c j)) tree (ranges n (state_of matrix c j) lows highs) above v
