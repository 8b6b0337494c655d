-- What the steps leave of one character has its meaning.
-- Assumes nothing.
use mathlib.Core.Path.{◌≡◌, sym, ◌∙◌, subst}
use mathlib.Core.List.{List}
use Prim.Native.Nat.{ℕ, ◌-◌, ◌≤◌, ◌<◌}
use lib.ListN.{length}
use Rattle.parsimony.specs.Ordered.{ordered}
use Rattle.parsimony.specs.Way.{length_of}
use Rattle.parsimony.specs.Meaning.{LengthMeans, Reconstructs}
use Rattle.parsimony.specs.Steps.{Chosen}
use Rattle.parsimony.specs.Matrix.{state_of}
use Rattle.parsimony.specs.Character.{at_node, cells, ranges, way_of}
use Rattle.parsimony.specs.Index as index
use Rattle.parsimony.proofs.Characters.{range-inner, way-taxon, first-means, length_from_entries, length-least, acctran_way, finals_mean, deltran_way}
use Rattle.parsimony.proofs.Uniqueness.{one-least}
use Rattle.parsimony.proofs.Tables.Trees.{Tree}
use Rattle.shapes.specs.Shape.{Filled}
use Rattle.orders.specs.Orders.{IsOrder, Listed}
use Rattle.shapes.specs.Filling.{Orders}
use Rattle.descents.specs.Descents.{Descends, Finals}
use Rattle.reconstructions.specs.Reconstructions.{Chooses, list_of}
use Rattle.choices.specs.declared.Resolve.{Resolve}
use Rattle.choices.specs.declared.Resolve.TheVariants.{Acctran, Deltran}
use Rattle.scores.specs.declared.Scores.{Scores}
use Rattle.scores.specs.Scores.{Results, ranges_of, CharacterMeans}
use Rattle.first_passes.specs.FirstPasses.{Begun, BegunIn}
use Rattle.scores.specs.Steps.{HasScores}
use Rattle.character_scores.specs.CharacterScores.{GivenOne}

-- ---- what the steps ask

module _ {n c j ρ δ : ℕ} {tree matrix : List ℕ} {before : Results} (G : GivenOne n c j ρ δ tree matrix before) where
  -- the same of the root and its descendant as wider numbers
  pub wider : {ρ' δ' : ℕ} → ρ' ≡ ρ → δ' ≡ δ → GivenOne n c j ρ' δ' tree matrix before
  wider e f = rw e (rw f G)

  pub descends : {order lows highs : List ℕ} → IsOrder n tree δ order → length lows ≡ n - 2 → length highs ≡ n - 2
      → ((v : ℕ) → n < v → v ≤ length tree → at_node n lows v ≤ at_node n highs v) → Descends n c j ρ δ tree matrix order lows highs
  descends O l h f =
      record {
        sized = G.sized;
        accepted = G.accepted;
        turns = O;
        some = G.some;
        most = G.most;
        rows = G.rows;
        low_long = l;
        high_long = h;
        fits = f;
      }

  -- what the order and the first pass leave, of this tree
  module _ {left right : List ℕ} (F : Filled n tree left right) where
    orders : Orders n δ tree ρ left right
    orders = record { sized = G.sized; accepted = G.accepted; shape = F }

    pub turns : {δ' : ℕ} {order : List ℕ} → δ' ≡ δ → Listed n δ left right order → IsOrder n tree δ' order
    turns e L = rw e (L tree ρ orders)

    pub begun : {lows highs lengths : List ℕ} {l : ℕ} → Begun n c j ρ δ left right matrix lows highs lengths l
        → BegunIn n c j tree matrix lows highs lengths l
    begun B = B tree orders

-- ---- what they leave

module _ {n c j ρ δ : ℕ} {tree matrix : List ℕ} {before : Results} (G : GivenOne n c j ρ δ tree matrix before) (after : Results) {l : ℕ}
    (B : BegunIn n c j tree matrix after.first_lows after.first_highs after.subtree l) where
  abbrev state : ℕ → ℕ
  state = state_of matrix c j

  abbrev T : Tree
  T = record { n = n; tree = tree; ρ = ρ; δ = δ; is_tree = G.accepted.is_tree }

  module _ (F : Finals n c j ρ δ tree matrix after.first_lows after.first_highs after.final_lows after.final_highs) where
    -- either way is a shortest one
    way : (resolve : Resolve) → Chosen ordered n (cells n state) tree ρ (ranges_of resolve n state after) (way_of n state after.states)
        → Reconstructs ordered n (cells n state) tree (way_of n state after.states)
        × (length_of ordered tree (way_of n state after.states) ≡ length_from_entries T state after.first_lows after.first_highs after.subtree
        B.pass)
    way Acctran h =
        acctran_way T state after.first_lows after.first_highs after.subtree B.pass (way_of n state after.states)
        (way-taxon n state after.states ρ G.accepted.is_tree.taxon) h
    way Deltran h =
        deltran_way T state after.first_lows after.first_highs after.subtree B.pass F.above F.second
        (ranges n state after.final_lows after.final_highs)
        (λ v lo hi. range-inner n state after.final_lows after.final_highs v lo ∙ F.finals v lo hi) (way_of n state after.states)
        (way-taxon n state after.states ρ G.accepted.is_tree.taxon) h

    chosen : (resolve : Resolve)
        → Chooses n c j ρ tree matrix (list_of resolve after.first_lows after.final_lows)
        (list_of resolve after.first_highs after.final_highs)
        after.states
        → Chosen ordered n (cells n state) tree ρ (ranges_of resolve n state after) (way_of n state after.states)
    chosen Acctran C = C.chosen
    chosen Deltran C = C.chosen

    pub means : {resolve : Resolve}
        → Chooses n c j ρ tree matrix (list_of resolve after.first_lows after.final_lows)
        (list_of resolve after.first_highs after.final_highs)
        after.states
        → {m g : ℕ} → m ≡ index.m n state → g ≡ index.g n state ρ → {s : Scores} → HasScores l m g s
        → CharacterMeans n state tree ρ resolve after s
    means {resolve} C em eg S =
        let w = way resolve (chosen resolve C) in
        let least = length-least T state after.first_lows after.first_highs after.subtree B.pass in
        record {
          scores =
              record {
                least = subst (LengthMeans ordered n (cells n state) tree) (sym S.length) B.least;
                m = S.m ∙ em;
                g = S.g ∙ eg;
                indices = S.indices;
              };
          long =
              record {
                first_lows = B.low_long;
                first_highs = B.high_long;
                subtree = B.length_long;
                final_lows = F.low_long;
                final_highs = F.high_long;
                states = C.long;
              };
          first = first-means T state after.first_lows after.first_highs after.subtree B.pass B.fits;
          finals = finals_mean T state after.first_lows after.first_highs after.subtree B.pass F.above F.second
              after.final_lows after.final_highs F.fits F.finals;
          way = w.0;
          as_long = w.1 ∙ one-least least B.least ∙ sym S.length;
          chosen = chosen resolve C;
        }
