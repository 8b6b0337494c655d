-- The second pass, one interior node after the other. Each stands behind its ancestor, so what it sees from above is known when its turn comes, and
-- what is written for it changes nothing of the nodes before it.
-- Assumes nothing.
use mathlib.Core.Path.{◌≡◌, refl, sym, ◌∙◌, ap, ap₂, subst}
use mathlib.Core.Logic.{◌≢◌}
use mathlib.Core.List.{List, [], ◌∷◌, ◌++◌, map}
use Prim.Native.Nat.{ℕ, zero, suc, ◌+◌, ◌-◌, ◌≤◌, ◌<◌}
use native.Mathlib.Decide.{ℕ_discrete}
use native.Mathlib.Omega.{arith}
use lib.ListN.{length, get_or, set, length-set}
use Rattle.std.proofs.lemmas.List.{get_or-set_same, get_or-set_other}
use Rattle.parsimony.specs.Table.{ancestor, descendants, sisters}
use Rattle.parsimony.specs.Ordered as ordered
use Rattle.parsimony.specs.Ordered.{span, point, ordered}
use Rattle.parsimony.specs.Matrix.{state_of}
use Rattle.parsimony.specs.Character.{at_node, cells, ranges}
use Rattle.parsimony.specs.Steps.{final}
use Rattle.parsimony.proofs.Characters.{entry-written, entry_other}
use Rattle.parsimony.proofs.Tables.Trees.{Tree, δ-ancestor}
use Rattle.ranges.specs.declared.Range.{Range}
use Rattle.ranges.specs.Ranges.{range_of, IsRange}
use Rattle.shapes.specs.Shape.{Filled}
use Rattle.shapes.proofs.Subtrees as subtrees
use Rattle.nodes.specs.Nodes.{Readable, seen_at, above_of, Seeing, Seen, Finishing, Finished}
use Rattle.descents.specs.Descents.{Descends, Finals}

-- a list of what is seen from above, where nothing is written
abbrev nothing : Range
nothing = record { low = 0; high = 0 }

-- ---- the second pass, after i turns

module _ (n c j ρ δ : ℕ) (tree matrix order lows highs : List ℕ) where
  pub record PassedTo (i : ℕ) (above : List Range) (lows' highs' : List ℕ) : Type 0 where
    pub above_long : length above ≡ 254
    pub low_long : length lows' ≡ n - 2
    pub high_long : length highs' ≡ n - 2
    pub top : 1 ≤ i → above_of n above δ ≡ point (state_of matrix c j ρ)
    pub rest : (k : ℕ) → 1 ≤ k → k < i
        → above_of n above (get_or order k 0)
        ≡ ordered.join (map (ranges n (state_of matrix c j) lows highs) (sisters tree (get_or order k 0)) ++
        (above_of n above (ancestor tree (get_or order k 0)) ∷ []))
    pub known : (k : ℕ) → k < i → IsRange (seen_at n above (get_or order k 0))
    pub fits : (k : ℕ) → k < i → at_node n lows' (get_or order k 0) ≤ at_node n highs' (get_or order k 0)
    pub finals : (k : ℕ) → k < i
        → span (at_node n lows' (get_or order k 0)) (at_node n highs' (get_or order k 0))
        ≡ final ordered n (cells n (state_of matrix c j)) tree (ranges n (state_of matrix c j) lows highs) (above_of n above)
        (get_or order k 0)

-- ---- the turns

module _ {n c j ρ δ : ℕ} {tree matrix order lows highs : List ℕ} (D : Descends n c j ρ δ tree matrix order lows highs) where
  abbrev turn : ℕ → ℕ
  turn k = get_or order k 0

  abbrev tree_of : Tree
  tree_of = record { n = n; tree = tree; ρ = ρ; δ = δ; is_tree = D.accepted.is_tree }

  pub turn-inner : (k : ℕ) → k < n - 2 → (n < turn k) × (turn k ≤ length tree)
  turn-inner = D.turns.inner

  pub turn_place : (k : ℕ) → k < n - 2 → turn k - n - 1 < n - 2
  turn_place k l = omega (arith, (turn-inner k l).0, (turn-inner k l).1, D.sized.nodes)

  -- only the first is the root's descendant
  pub turn-top : (k : ℕ) → 1 ≤ k → k < n - 2 → turn k ≢ δ
  turn-top k p l e = D.turns.once 0 k (omega arith) l (D.turns.first ∙ sym e)

  -- the ancestor of a node has had its turn before
  pub turn_up : (k : ℕ) → 1 ≤ k → k < n - 2 → (i : ℕ) × (i < k) × (turn i ≡ ancestor tree (turn k))
  turn_up = D.turns.after

  pub up_apart : (k i : ℕ) → k ≤ i → i < n - 2 → ancestor tree (turn k) ≢ turn i
  up_apart zero i p l e =
      omega (
        arith,
        ap (ancestor tree) D.turns.first,
        δ-ancestor tree_of,
        D.accepted.is_tree.taxon,
        (turn-inner i l).0,
      )
  up_apart (suc k) i p l e =
      let (h, q, r) = turn_up (suc k) (omega arith) (omega arith) in
      D.turns.once h i (omega arith) l (r ∙ e)

  -- whatever holds at every turn holds at every interior node
  pub each_turn : (P : ℕ → Type 0) → ((k : ℕ) → k < n - 2 → P (turn k)) → (v : ℕ) → n < v → v ≤ length tree → P v
  each_turn P h v lo hi =
      let (k, l, e) = D.turns.all v lo hi in
      subst P e (h k l)

  -- ---- the pass

  abbrev state : ℕ → ℕ
  state = state_of matrix c j

  abbrev entry : ℕ → ordered.Range
  entry = ranges n (state_of matrix c j) lows highs

  abbrev Passed : (i : ℕ) (above : List Range) (lows' highs' : List ℕ) → Type 0
  Passed = PassedTo n c j ρ δ tree matrix order lows highs

  pub passed_all : {i : ℕ} {above : List Range} {lows' highs' : List ℕ} → Passed i above lows' highs' → n - 2 ≤ i
      → Finals n c j ρ δ tree matrix lows highs lows' highs'
  passed_all {i} {above} {lows'} {highs'} P h =
      record {
        above = above_of n above;
        second =
            record {
              top = P.top (omega (arith, D.sized.least));
              rest = rest;
            };
        low_long = P.low_long;
        high_long = P.high_long;
        fits = each_turn (λ v. at_node n lows' v ≤ at_node n highs' v) (λ k l. P.fits k (omega arith));
        finals =
            each_turn
            (λ v. span (at_node n lows' v) (at_node n highs' v) ≡ final ordered n (cells n state) tree entry (above_of n above) v)
            (λ k l. P.finals k (omega arith));
      }
    where
      rest : (v : ℕ) → n < v → v ≤ length tree → v ≢ δ
          → above_of n above v
          ≡ ordered.join (map entry (sisters tree v) ++ (above_of n above (ancestor tree v) ∷ []))
      rest v lo hi =
          each_turn
          (λ u. u ≢ δ
          → above_of n above u
          ≡ ordered.join (map entry (sisters tree u) ++ (above_of n above (ancestor tree u) ∷ [])))
          (λ k l d. P.rest k (later k d) (omega arith)) v lo hi
        where
          later : (k : ℕ) → turn k ≢ δ → 1 ≤ k
          later zero d = absurd (d D.turns.first)
          later (suc k) d = omega arith

  -- ---- one turn

  module _ {i : ℕ} {above : List Range} {lows' highs' : List ℕ} (P : Passed i above lows' highs') (l : i < n - 2)
      (left right : List ℕ) (F : Filled n tree left right) where
    abbrev v : ℕ
    v = turn i

    seeing : Seeing n c j ρ δ v tree matrix left right lows highs above
    seeing =
        record {
          sized = D.sized;
          accepted = D.accepted;
          shape = F;
          some = D.some;
          most = D.most;
          rows = D.rows;
          low_long = D.low_long;
          high_long = D.high_long;
          fits = D.fits;
          inner = (turn-inner i l).0;
          last = (turn-inner i l).1;
          known = known i l refl;
        }
      where
        known : (k : ℕ) → k < n - 2 → k ≡ i → turn k ≢ δ → IsRange (seen_at n above (ancestor tree (turn k)))
        known zero m e d = absurd (d D.turns.first)
        known (suc k) m e d =
            let (h, q, r) = turn_up (suc k) (omega arith) m in
            subst (λ u. IsRange (seen_at n above u)) r (P.known h (omega arith))

    -- its two descendants
    fork : descendants tree v ≡ at_node n left v ∷ at_node n right v ∷ []
    fork = F v (turn-inner i l).0 (turn-inner i l).1

    readable : (u : ℕ) → 1 ≤ u → u ≤ length tree → Readable n c j u matrix lows highs
    readable u lo hi =
        record {
          some = D.some;
          most = D.most;
          rows = D.rows;
          low_long = D.low_long;
          high_long = D.high_long;
          node = lo;
          last = omega (arith, D.sized.nodes);
          fits = λ h. D.fits u h hi;
        }

    finishing : (r : Range) → IsRange r → Finishing n c j v r matrix left right lows highs lows' highs'
    finishing r q =
        let (fl, fh, fu) = subtrees.some_first tree_of v (at_node n left v) (at_node n right v) (turn-inner i l).0 (turn-inner i l).1 fork in
        let (sl, sh, su) = subtrees.some-second tree_of v (at_node n left v) (at_node n right v) (turn-inner i l).0 (turn-inner i l).1 fork in
        record {
          taxa = (D.sized.least, D.sized.most);
          inner = (turn-inner i l).0;
          last = omega (arith, (turn-inner i l).1, D.sized.nodes);
          above = q;
          first = readable (at_node n left v) fl fh;
          second = readable (at_node n right v) sl sh;
          low_long = P.low_long;
          high_long = P.high_long;
        }

    module _ (r : Range) (S : Seen n c j ρ δ v tree matrix lows highs above r) (lows'' highs'' : List ℕ)
        (W : Finished n c j v r matrix left right lows highs lows' highs' lows'' highs'') where
      abbrev above' : List Range
      above' = set above (v - n - 1) r

      abbrev fl : List ℕ
      fl = set lows' (v - n - 1) W.range.low

      abbrev fh : List ℕ
      fh = set highs' (v - n - 1) W.range.high

      lo : n < v
      lo = (turn-inner i l).0

      room : v - n - 1 < 254
      room = omega (arith, turn_place i l, D.sized.most)

      -- what is written, and what is not
      seen_here : seen_at n above' v ≡ r
      seen_here =
          ap (λ k. get_or above' k nothing) (omega arith) ∙ get_or-set_same above (v - n - 1) r nothing (omega (arith, room, P.above_long))

      seen_other : (u : ℕ) → n < u → u ≢ v → seen_at n above' u ≡ seen_at n above u
      seen_other u h d = get_or-set_other above (v - n - 1) (u - suc n) r nothing (λ e. d (omega arith))

      above_here : above_of n above' v ≡ range_of r
      above_here = ap range_of seen_here

      above_other : (u : ℕ) → n < u → u ≢ v → above_of n above' u ≡ above_of n above u
      above_other u h d = ap range_of (seen_other u h d)

      final_low : at_node n fl v ≡ W.range.low
      final_low = entry-written n lows' v W.range.low lo (omega (arith, turn_place i l, P.low_long))

      final_high : at_node n fh v ≡ W.range.high
      final_high = entry-written n highs' v W.range.high lo (omega (arith, turn_place i l, P.high_long))

      before : (k : ℕ) → k < i → turn k ≢ v
      before k m = D.turns.once k i m l

      inner : (k : ℕ) → k < i → n < turn k
      inner k m = (turn-inner k (omega arith)).0

      -- the ancestor of an earlier node, and of this one, sees what it saw
      above_up : (k : ℕ) → 1 ≤ k → k ≤ i → above_of n above' (ancestor tree (turn k)) ≡ above_of n above (ancestor tree (turn k))
      above_up k p m =
          let (h, q, e) = turn_up k p (omega arith) in
          above_other (ancestor tree (turn k)) (subst (λ u. n < u) e (turn-inner h (omega arith)).0) (up_apart k i m l)

      final_of : (u : ℕ) → above_of n above' u ≡ above_of n above u
          → final ordered n (cells n state) tree entry (above_of n above) u ≡ final ordered n (cells n state) tree entry
          (above_of n above') u
      final_of u e = ap (λ x. ordered.join (map entry (descendants tree u) ++ (x ∷ []))) (sym e)

      one-turn : Passed (i + 1) above' fl fh
      one-turn =
          record {
            above_long = length-set above (v - n - 1) r ∙ P.above_long;
            low_long = length-set lows' (v - n - 1) W.range.low ∙ P.low_long;
            high_long = length-set highs' (v - n - 1) W.range.high ∙ P.high_long;
            top = λ p. top (ℕ_discrete i 0);
            rest = λ k p m. rest k p (ℕ_discrete k i) m;
            known = λ k m. known k (ℕ_discrete k i) m;
            fits = λ k m. fits k (ℕ_discrete k i) m;
            finals = λ k m. finals k (ℕ_discrete k i) m;
          }
        where
          first_is : i ≡ 0 → v ≡ δ
          first_is e = ap turn e ∙ D.turns.first

          top : Dec (i ≡ 0) → above_of n above' δ ≡ point (state ρ)
          top (yes e) = ap (above_of n above') (sym (first_is e)) ∙ above_here ∙ S.top (first_is e)
          top (no e) =
              let d : δ ≢ v = λ q. turn-top i (omega arith) l (sym q) in
              above_other δ (subst (λ u. n < u) D.turns.first (inner 0 (omega arith))) d ∙ P.top (omega arith)

          rest : (k : ℕ) → 1 ≤ k → Dec (k ≡ i) → k < i + 1
              → above_of n above' (turn k) ≡ ordered.join (map entry (sisters tree (turn k)) ++ (above_of n above' (ancestor tree (turn k)) ∷ []))
          rest k p (no e) m =
              above_other (turn k) (inner k (omega arith)) (before k (omega arith)) ∙ P.rest k p (omega arith)
              ∙ ap (λ x. ordered.join (map entry (sisters tree (turn k)) ++ (x ∷ []))) (sym (above_up k p (omega arith)))
          rest k p (yes e) m =
              rw e
              (above_here ∙ S.rest (turn-top i (omega arith) l)
              ∙ ap (λ x. ordered.join (map entry (sisters tree v) ++ (x ∷ []))) (sym (above_up i (omega arith) (omega arith))))

          known : (k : ℕ) → Dec (k ≡ i) → k < i + 1 → IsRange (seen_at n above' (turn k))
          known k (no e) m = subst IsRange (sym (seen_other (turn k) (inner k (omega arith)) (before k (omega arith)))) (P.known k (omega arith))
          known k (yes e) m = rw e (subst IsRange (sym seen_here) S.fits)

          fits : (k : ℕ) → Dec (k ≡ i) → k < i + 1 → at_node n fl (turn k) ≤ at_node n fh (turn k)
          fits k (no e) m =
              omega (
                arith,
                P.fits k (omega arith),
                entry_other n lows' v W.range.low lo (turn k) (inner k (omega arith)) (before k (omega arith)),
                entry_other n highs' v W.range.high lo (turn k) (inner k (omega arith)) (before k (omega arith)),
              )
          fits k (yes e) m = rw e (omega (arith, final_low, final_high, W.joined.fits))

          finals : (k : ℕ) → Dec (k ≡ i) → k < i + 1
              → span (at_node n fl (turn k)) (at_node n fh (turn k)) ≡ final ordered n (cells n state) tree entry (above_of n above') (turn k)
          finals k (no e) m =
              ap₂ span (entry_other n lows' v W.range.low lo (turn k) (inner k (omega arith)) (before k (omega arith)))
              (entry_other n highs' v W.range.high lo (turn k) (inner k (omega arith)) (before k (omega arith)))
              ∙ P.finals k (omega arith) ∙ final_of (turn k) (above_other (turn k) (inner k (omega arith)) (before k (omega arith)))
          finals k (yes e) m =
              rw e
              (ap₂ span final_low final_high ∙ W.joined.joins
              ∙ ap (λ x. ordered.join (entry (at_node n left v) ∷ entry (at_node n right v) ∷ x ∷ [])) (sym above_here)
              ∙ ap (λ us. ordered.join (map entry us ++ (above_of n above' v ∷ []))) (sym fork))

      turned : Passed (i + 1) above' lows'' highs''
      turned = rw W.low_written (rw W.high_written one-turn)

    -- the same of a node that is known to be the one whose turn it is
    module _ {u : ℕ} (e : u ≡ v) where
      pub seeing_at : Seeing n c j ρ δ u tree matrix left right lows highs above
      seeing_at = subst (λ w. Seeing n c j ρ δ w tree matrix left right lows highs above) (sym e) seeing

      pub finishing_at : (r : Range) → IsRange r → Finishing n c j u r matrix left right lows highs lows' highs'
      finishing_at r q = subst (λ w. Finishing n c j w r matrix left right lows highs lows' highs') (sym e) (finishing r q)

      pub turned_at : (r : Range) → Seen n c j ρ δ u tree matrix lows highs above r → (lows'' highs'' : List ℕ)
          → Finished n c j u r matrix left right lows highs lows' highs' lows'' highs''
          → Passed (i + 1) (set above (u - n - 1) r) lows'' highs''
      turned_at =
          subst
          (λ w. (r : Range) → Seen n c j ρ δ w tree matrix lows highs above r → (lows'' highs'' : List ℕ)
          → Finished n c j w r matrix left right lows highs lows' highs' lows'' highs''
          → Passed (i + 1) (set above (w - n - 1) r) lows'' highs'')
          (sym e) turned
