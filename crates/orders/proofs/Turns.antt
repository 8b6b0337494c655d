-- The list that holds the queue of Queues.antt, and the loop that fills it: its first entries are the queue, and each turn puts the interior
-- descendants of one node behind them.
-- Assumes nothing.
use mathlib.Core.Path.{◌≡◌, refl, sym, ◌∙◌, ap, ap₂, subst}
use mathlib.Core.List.{List, [], ◌∷◌, ◌++◌}
use Prim.Native.Nat.{ℕ, suc, ◌+◌, ◌-◌, ◌≤◌, ◌<◌}
use native.Mathlib.Decide.{dec_le}
use native.Mathlib.Numerals.{add-one}
use native.Mathlib.Omega.{arith}
use lib.ListN.{length, get_or, take, set, replicate, length-set}
use lib.Seq.{get_or-take, length-take-le, take-suc-set}
use Rattle.parsimony.specs.Lists.{choose}
use Rattle.parsimony.specs.Table.{descendants}
use Rattle.parsimony.proofs.Tables.Trees.{Tree}
use Rattle.shapes.specs.Filling.{Orders}
use Rattle.orders.specs.Orders.{put_at, place_after, Orderable, Listed}
use Rattle.orders.proofs.Queues.{put_if, Queue, begins, room-first, room-second, next_turn, is_order}

-- ---- its first k entries

put_list : (n a k : ℕ) (order : List ℕ) → (n < a → k < length order) → take (place_after n a k) (put_at n a k order) ≡ put_if n a (take k order)
put_list n a k order r = go (dec_le a n)
  where
    go : (d : Dec (a ≤ n))
        → take (choose d k (k + 1)) (choose d order (set order k a)) ≡ choose d (take k order) (take k order ++ (a ∷ []))
    go (yes l) = refl
    go (no l) = ap (λ j. take j (set order k a)) (add-one k) ∙ take-suc-set order k a (r (omega arith))

put_place : (n a k : ℕ) (order : List ℕ) → (n < a → k < length order) → k ≤ length order
    → (place_after n a k ≤ length order) × (length (put_at n a k order) ≡ length order)
put_place n a k order r h = go (dec_le a n)
  where
    go : (d : Dec (a ≤ n)) → (choose d k (k + 1) ≤ length order) × (length (choose d order (set order k a)) ≡ length order)
    go (yes l) = (h, refl)
    go (no l) = (omega (arith, r (omega arith)), length-set order k a)

-- ---- the loop

module _ (n δ : ℕ) (left right : List ℕ) where
  abbrev tree_of : (tree : List ℕ) (ρ : ℕ) → Orders n δ tree ρ left right → Tree
  tree_of tree ρ O = record { n = n; tree = tree; ρ = ρ; δ = δ; is_tree = O.accepted.is_tree }

  -- the first `filled` entries are a queue of which `next` have had their turn, in any table whose shape this is
  pub record Turning (order : List ℕ) (filled next : ℕ) : Type 0 where
    pub long : length order ≡ 254
    pub fills : filled ≤ 254
    pub queue : (tree : List ℕ) (ρ : ℕ) (O : Orders n δ tree ρ left right) → Queue (tree_of tree ρ O) next (take filled order)

  pub turning_begins : Turning (set (replicate 254 0) 0 δ) 1 0
  turning_begins =
      record {
        long = refl;
        fills = omega arith;
        queue = λ tree ρ O. begins (tree_of tree ρ O);
      }

module _ {n δ : ℕ} {left right order : List ℕ} {filled next : ℕ} (R : Turning n δ left right order filled next) where
  abbrev ks : List ℕ
  ks = take filled order

  size : length ks ≡ filled
  size = length-take-le filled order (omega (arith, R.fills, R.long))

  -- the node whose turn it is, and its two descendants
  module _ (h : next < filled) {v : ℕ} (e : v ≡ get_or order next 0) where
    abbrev a : ℕ
    a = get_or left (v - n - 1) 0

    abbrev b : ℕ
    b = get_or right (v - n - 1) 0

    module _ (tree : List ℕ) (ρ : ℕ) (O : Orders n δ tree ρ left right) where
      abbrev T : Tree
      T = tree_of n δ left right tree ρ O

      turn : next < length ks
      turn = omega (arith, size)

      node_is : get_or ks next 0 ≡ v
      node_is = get_or-take filled order next 0 h ∙ sym e

      node-inner : (n < v) × (v ≤ length tree)
      node-inner = subst (λ u. (n < u) × (u ≤ length tree)) node_is ((R.queue tree ρ O).inner next turn)

      fork : descendants tree (get_or ks next 0) ≡ a ∷ b ∷ []
      fork =
          ap (descendants tree) node_is ∙ O.shape v node-inner.0 node-inner.1
          ∙ ap₂ (λ x y. x ∷ y ∷ []) (ap (λ k. get_or left k 0) place) (ap (λ k. get_or right k 0) place)
        where
          place : v - suc n ≡ v - n - 1
          place = omega arith

      nodes : length tree - n ≤ 254
      nodes = omega (arith, O.sized.nodes, O.sized.most)

      first-room : n < a → filled < 254
      first-room l = omega (arith, room-first T next ks (R.queue tree ρ O) turn a b fork l, size, nodes)

      first-list : take (place_after n a filled) (put_at n a filled order) ≡ put_if n a ks
      first-list = put_list n a filled order (λ l. omega (arith, first-room l, R.long))

      first_place : (place_after n a filled ≤ length order) × (length (put_at n a filled order) ≡ length order)
      first_place = put_place n a filled order (λ l. omega (arith, first-room l, R.long)) (omega (arith, R.fills, R.long))

      second-room : n < b → place_after n a filled < 254
      second-room l =
          omega (
            arith,
            room-second T next ks (R.queue tree ρ O) turn a b fork l,
            ap length first-list,
            length-take-le (place_after n a filled) (put_at n a filled order) (omega (arith, first_place.0, first_place.1)),
            nodes,
          )

    -- where there is such a table, the two are put
    module _ (G : Orderable n δ left right) where
      pub above : n < v
      above = (node-inner G.tree G.ρ G.orders).0

      pub has-place : v - n - 1 < 254
      has-place = omega (arith, node-inner G.tree G.ρ G.orders, nodes G.tree G.ρ G.orders)

      pub first-puts : (length order ≡ 254) × (n < a → filled < 254)
      first-puts = (R.long, first-room G.tree G.ρ G.orders)

      long₁ : length (put_at n a filled order) ≡ 254
      long₁ = (first_place G.tree G.ρ G.orders).1 ∙ R.long

      most₁ : place_after n a filled ≤ 254
      most₁ = omega (arith, (first_place G.tree G.ρ G.orders).0, R.long)

      module _ {order₁ : List ℕ} {filled₁ : ℕ} (P : (order₁ ≡ put_at n a filled order) × (filled₁ ≡ place_after n a filled)) where
        pub second-puts : (length order₁ ≡ 254) × (n < b → filled₁ < 254)
        second-puts = (ap length P.0 ∙ long₁, λ l. omega (arith, P.1, second-room G.tree G.ρ G.orders l))

        -- one turn more
        pub turned : {order₂ : List ℕ} {filled₂ : ℕ} → (order₂ ≡ put_at n b filled₁ order₁) × (filled₂ ≡ place_after n b filled₁)
            → Turning n δ left right order₂ filled₂ (next + 1)
        turned Q = rw Q.0 (rw Q.1 (rw P.0 (rw P.1 on)))
          where
            room₂ : n < b → place_after n a filled < length (put_at n a filled order)
            room₂ l = omega (arith, second-room G.tree G.ρ G.orders l, long₁)

            two : (place_after n b (place_after n a filled) ≤ length (put_at n a filled order))
                × (length (put_at n b (place_after n a filled) (put_at n a filled order)) ≡ length (put_at n a filled order))
            two = put_place n b (place_after n a filled) (put_at n a filled order) room₂ (omega (arith, most₁, long₁))

            on : Turning n δ left right (put_at n b (place_after n a filled) (put_at n a filled order)) (place_after n b (place_after n a filled)) (next + 1)
            on =
                record {
                  long = two.1 ∙ long₁;
                  fills = omega (arith, two.0, long₁);
                  queue = λ tree ρ O.
                      subst (Queue (T tree ρ O) (next + 1))
                      (sym (put_list n b (place_after n a filled) (put_at n a filled order) room₂ ∙ ap (put_if n b) (first-list tree ρ O)))
                      (next_turn (T tree ρ O) next ks (R.queue tree ρ O) (turn tree ρ O) a b (fork tree ρ O));
                }

  -- the last turn
  pub turning_ends : filled ≤ next → Listed n δ left right order
  turning_ends h tree ρ O =
      is_order (tree_of n δ left right tree ρ O) next ks (R.queue tree ρ O) (omega (arith, size, (R.queue tree ρ O).turns)) order O.sized.nodes
      O.sized.least (λ j l. sym (get_or-take filled order j 0 (omega (arith, size))))
