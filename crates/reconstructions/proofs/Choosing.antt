-- The states, one interior node after the other: each is nearest the state of an ancestor that has its own already.
-- Assumes nothing.
use mathlib.Core.Path.{◌≡◌, sym, ◌∙◌, ap, ap₂, subst}
use mathlib.Core.List.{List}
use Prim.Native.Nat.{ℕ, suc, ◌+◌, ◌-◌, ◌≤◌, ◌<◌}
use native.Mathlib.Decide.{ℕ_discrete}
use native.Mathlib.Omega.{arith}
use lib.ListN.{length, get_or, set, length-set}
use lib.IntN.{pos}
use Rattle.parsimony.specs.Table.{ancestor}
use Rattle.parsimony.specs.Ordered.{span, nearest}
use Rattle.parsimony.specs.Matrix.{state_of}
use Rattle.parsimony.specs.Character.{at_node, ranges, way_of}
use Rattle.parsimony.proofs.Characters.{nearest-point, entry-written, entry_other, range-inner, way-taxon, way-inner, way-other}
use Rattle.parsimony.proofs.Tables.Trees.{Tree}
use Rattle.descents.specs.Descents.{Descends}
use Rattle.reconstructions.specs.Reconstructions.{ChosenAt, Chooses}
use Rattle.descents.proofs.Passing as passing

module _ (n c j : ℕ) (tree matrix order lows highs : List ℕ) where
  -- the states after i turns
  pub record ChosenTo (i : ℕ) (states : List ℕ) : Type 0 where
    pub long : length states ≡ n - 2
    pub chosen : (k : ℕ) → k < i
        → pos (at_node n states (get_or order k 0)) ≡ nearest (ranges n (state_of matrix c j) lows highs (get_or order k 0))
        (way_of n (state_of matrix c j) states (ancestor tree (get_or order k 0)))

module _ {n c j ρ δ : ℕ} {tree matrix order lows highs : List ℕ} (D : Descends n c j ρ δ tree matrix order lows highs) where
  abbrev turn : ℕ → ℕ
  turn k = get_or order k 0

  abbrev state : ℕ → ℕ
  state = state_of matrix c j

  abbrev ChosenBy : ℕ → List ℕ → Type 0
  ChosenBy = ChosenTo n c j tree matrix order lows highs

  pub chosen-all : {i : ℕ} {states : List ℕ} → ChosenBy i states → n - 2 ≤ i → Chooses n c j ρ tree matrix lows highs states
  chosen-all {i} {states} P h =
      record {
        long = P.long;
        chosen =
            record {
              taxa = λ k p l d. way-taxon n state states k l ∙ sym (nearest-point (state k) (way_of n state states (ancestor tree k)));
              forks = λ v lo hi. way-inner n state states v lo
                  ∙ passing.each_turn D
                  (λ u. pos (at_node n states u) ≡ nearest (ranges n state lows highs u) (way_of n state states (ancestor tree u)))
                  (λ k l. P.chosen k (omega arith)) v lo hi;
            };
      }

  module _ {i : ℕ} {states : List ℕ} (P : ChosenBy i states) (l : i < n - 2) where
    abbrev v : ℕ
    v = turn i

    lo : n < v
    lo = (D.turns.inner i l).0

    hi : v ≤ length tree
    hi = (D.turns.inner i l).1

    abbrev T : Tree
    T = record { n = n; tree = tree; ρ = ρ; δ = δ; is_tree = D.accepted.is_tree }

    range-fits : get_or lows (v - n - 1) 0 ≤ get_or highs (v - n - 1) 0
    range-fits =
        let place : v - n - 1 ≡ v - suc n = omega arith in
        omega (arith, D.fits v lo hi, ap (λ k. get_or lows k 0) place, ap (λ k. get_or highs k 0) place)

    chosen_next : (from x : ℕ) → ChosenAt n c j v tree matrix states from
        → pos x ≡ nearest (span (get_or lows (v - n - 1) 0) (get_or highs (v - n - 1) 0)) (pos from) → ChosenBy (i + 1) (set states (v - n - 1) x)
    chosen_next from x A e =
        record {
          long = length-set states (v - n - 1) x ∙ P.long;
          chosen = λ k m. chosen k (ℕ_discrete k i) m;
        }
      where
        place : v - n - 1 ≡ v - suc n
        place = omega (arith, lo)

        chosen : (k : ℕ) → Dec (k ≡ i) → k < i + 1
            → pos (at_node n (set states (v - n - 1) x) (turn k))
            ≡ nearest (ranges n state lows highs (turn k)) (way_of n state (set states (v - n - 1) x) (ancestor tree (turn k)))
        chosen k (no d) m =
            ap pos (entry_other n states v x lo (turn k) (D.turns.inner k (omega arith)).0 (D.turns.once k i (omega arith) l))
            ∙ P.chosen k (omega arith)
            ∙ ap (nearest (ranges n state lows highs (turn k)))
            (sym (way-other n state states v x lo (ancestor tree (turn k))
            (passing.up_apart D k i (omega arith) l)))
        chosen k (yes d) m =
            rw d
            (ap pos (entry-written n states v x lo (omega (arith, lo, hi, P.long, D.sized.nodes))) ∙ e
            ∙ ap₂ nearest
            (ap (λ h. span (get_or lows h 0) (get_or highs h 0)) place ∙ sym (range-inner n state lows highs v lo))
            (A
            ∙ sym (way-other n state states v x lo (ancestor tree v)
            (passing.up_apart D i i (omega arith) l))))

    -- the same of a node that is known to be the one whose turn it is
    module _ {u : ℕ} (e : u ≡ v) where
      pub range-fits-at : get_or lows (u - n - 1) 0 ≤ get_or highs (u - n - 1) 0
      range-fits-at = subst (λ w. get_or lows (w - n - 1) 0 ≤ get_or highs (w - n - 1) 0) (sym e) range-fits

      pub chosen_at : (from x : ℕ) → ChosenAt n c j u tree matrix states from
          → pos x ≡ nearest (span (get_or lows (u - n - 1) 0) (get_or highs (u - n - 1) 0)) (pos from) → ChosenBy (i + 1) (set states (u - n - 1) x)
      chosen_at =
          subst
          (λ w. (from x : ℕ) → ChosenAt n c j w tree matrix states from
          → pos x ≡ nearest (span (get_or lows (w - n - 1) 0) (get_or highs (w - n - 1) 0)) (pos from) → ChosenBy (i + 1) (set states (w - n - 1) x))
          (sym e) chosen_next
