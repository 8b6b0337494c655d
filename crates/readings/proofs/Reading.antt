-- What the steps of a kept character ask, and what they leave.
-- Assumes nothing.
use mathlib.Core.Path.{◌≡◌, subst₂}
use mathlib.Core.List.{List}
use Prim.Native.Nat.{ℕ, ◌-◌, ◌*◌, ◌≤◌}
use native.Mathlib.Omega.{arith}
use Rattle.parsimony.specs.Character.{at_node}
use Rattle.parsimony.proofs.Tables.Trees.{Tree, δ-most}
use Rattle.parsimony.proofs.Tables.Whole.{δ-inner}
use Rattle.shapes.specs.Shape.{Filled}
use Rattle.orders.specs.Orders.{IsOrder}
use Rattle.shapes.specs.Filling.{Orders}
use Rattle.descents.specs.Descents.{Descends, Finals}
use Rattle.entries.proofs.Searching.{clean}
use Rattle.tallies.specs.Tallies.{IsLength, HasTop}
use Rattle.readings.specs.Readings.{IsRead, Clean}

module _ (n c j ρ δ : ℕ) (tree matrix lows highs lengths final_lows final_highs : List ℕ)
    (G : Clean n c j ρ δ tree matrix lows highs lengths final_lows final_highs) where
  pub orders : (left right : List ℕ) → Filled n tree left right → Orders n δ tree ρ left right
  orders left right F = record { sized = G.given.sized; accepted = G.given.accepted; shape = F }

  pub descends : (order : List ℕ) → IsOrder n tree δ order → Descends n c j ρ δ tree matrix order lows highs
  descends order O =
      record {
        sized = G.given.sized;
        accepted = G.given.accepted;
        turns = O;
        some = G.given.character.0;
        most = G.given.character.1;
        rows = G.given.rows;
        low_long = G.given.lists.low_long;
        high_long = G.given.lists.high_long;
        fits = λ v lo hi.
            (clean (at_node n lows v) (at_node n highs v) (at_node n lengths v)
            (λ b. G.sound v (omega arith) (omega (arith, G.given.sized.nodes)) (lo, b))).0;
      }

  pub has-top : HasTop n c j ρ δ matrix lows highs lengths
  has-top =
      record {
        lists = G.given.lists;
        root = (G.given.accepted.is_tree.some, G.given.accepted.is_tree.taxon);
        inner = δ-inner T;
        last = last;
        character = G.given.character;
        rows = G.given.rows;
        state = G.given.small ρ G.given.accepted.is_tree.some G.given.accepted.is_tree.taxon;
        sound = G.sound δ (omega (arith, δ-inner T)) last;
      }
    where
      T : Tree
      T = record { n = n; tree = tree; ρ = ρ; δ = δ; is_tree = G.given.accepted.is_tree }

      last : δ ≤ 2 * n - 2
      last = omega (arith, δ-most T, G.given.sized.nodes)

-- the same root and descendant, under other names
module _ (n c j ρ δ ρ' δ' : ℕ) (p : ρ' ≡ ρ) (q : δ' ≡ δ) (tree matrix lows highs lengths : List ℕ) where
  pub is_read : (a b : List ℕ) (l : ℕ) → IsLength n c j ρ' δ' matrix lows highs lengths l → Finals n c j ρ' δ' tree matrix lows highs a b
      → IsRead n c j ρ δ tree matrix lows highs lengths a b l
  is_read a b l L F =
      subst₂ (λ x y. IsRead n c j x y tree matrix lows highs lengths a b l) p q (record { length = L tree; finals = F })
