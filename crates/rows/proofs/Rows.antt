-- A row, settled one character after the other.
-- Assumes nothing.
use mathlib.Core.Path.{◌≡◌, sym, ◌∙◌, ap, ap₂, subst}
use mathlib.Core.Logic.{◌≢◌, ◌⊎◌, inl, inr}
use mathlib.Core.List.{List, [], ◌∷◌}
use Prim.Native.Nat.{ℕ, ◌+◌, ◌-◌, ◌*◌, ◌≤◌, ◌<◌}
use native.Mathlib.Decide.{ℕ_discrete}
use native.Mathlib.Omega.{arith}
use lib.ListN.{length, get_or, length-set}
use Rattle.parsimony.specs.Ordered as ordered
use Rattle.parsimony.specs.Ordered.{span}
use Rattle.parsimony.specs.Matrix.{state_of}
use Rattle.parsimony.proofs.Matrices.{cell_in, state_place, state-written, state-other}
use Rattle.rows.specs.Rows.{range_at, Same, Placed, SettledAt, Settleable, SettledRow}

-- the places of a row are places of the lists
pub place_in : (v w i : ℕ) → 1 ≤ v → v ≤ 510 → w ≤ 8 → i < w → (v - 1) * w + i < 4080
place_in v w i p q f l =
    omega (arith, cell_in 510 w (v - 1) i (omega arith) l, most)
  where
    most : 510 * w ≤ 4080
    most = omega arith

module _ {node left right w : ℕ} {lows₀ highs₀ lengths₀ : List ℕ} (S : Settleable node left right w lows₀ highs₀ lengths₀) where
  module _ {lows highs lengths : List ℕ} {k : ℕ} (l : k < w) (R : SettledRow node left right w k lows₀ highs₀ lengths₀ lows highs lengths) where
    -- a descendant's entry is what it was
    entry : (v : ℕ) → 1 ≤ v → v ≢ node
        → (get_or lows ((v - 1) * w + k) 0 ≡ state_of lows₀ w (k + 1) v) × (get_or highs ((v - 1) * w + k) 0 ≡ state_of highs₀ w (k + 1) v)
        × (get_or lengths ((v - 1) * w + k) 0 ≡ state_of lengths₀ w (k + 1) v)
    entry v p n =
        let (a, b, d) = R.kept (k + 1) v (omega arith) (omega arith) p (inl n) in (
          sym (state_place lows w v k) ∙ a,
          sym (state_place highs w v k) ∙ b,
          sym (state_place lengths w v k) ∙ d,
        )

    pub placed : Placed ((node - 1) * w + k) ((left - 1) * w + k) ((right - 1) * w + k) lows highs lengths
    placed =
        let (a, b, d) = entry left S.some.1 S.apart.0 in
        let (a', b', d') = entry right S.some.2 S.apart.1 in
        let f = S.fits (k + 1) (omega arith) (omega arith) in
        record {
          here = place_in node w k S.some.0 S.most.0 S.few l;
          first = place_in left w k S.some.1 S.most.1 S.few l;
          second = place_in right w k S.some.2 S.most.2 S.few l;
          fits_first = omega (arith, f.0);
          fits_second = omega (arith, f.1);
          small = omega (arith, S.small (k + 1) (omega arith) (omega arith));
        }

    module _ {lows' highs' lengths' : List ℕ}
        (Q : SettledAt ((node - 1) * w + k) ((left - 1) * w + k) ((right - 1) * w + k) lows highs lengths lows' highs' lengths') where
      here : (node - 1) * w + k < 4080
      here = place_in node w k S.some.0 S.most.0 S.few l

      -- another entry is what it was
      unwritten : (i v : ℕ) → 1 ≤ i → i ≤ w → 1 ≤ v → (v ≢ node) ⊎ (i ≢ k + 1)
          → Same lows highs lengths lows' highs' lengths' w i v
      unwritten i v p q r h = (
        ap (λ x. state_of x w i v) Q.low_written ∙ state-other lows w node k Q.range.low l v i S.some.0 r p q h,
        ap (λ x. state_of x w i v) Q.high_written ∙ state-other highs w node k Q.range.high l v i S.some.0 r p q h,
        ap (λ x. state_of x w i v) Q.length_written ∙ state-other lengths w node k _ l v i S.some.0 r p q h,
      )

      new-low : state_of lows' w (k + 1) node ≡ Q.range.low
      new-low = ap (λ x. state_of x w (k + 1) node) Q.low_written ∙ state-written lows w node k Q.range.low l (rw R.room.0 here)

      new-high : state_of highs' w (k + 1) node ≡ Q.range.high
      new-high = ap (λ x. state_of x w (k + 1) node) Q.high_written ∙ state-written highs w node k Q.range.high l (rw R.room.1 here)

      -- the ranges of the descendants, as they were
      pair : (span (get_or lows ((left - 1) * w + k) 0) (get_or highs ((left - 1) * w + k) 0) ≡ range_at lows₀ highs₀ w (k + 1) left)
          × (span (get_or lows ((right - 1) * w + k) 0) (get_or highs ((right - 1) * w + k) 0) ≡ range_at lows₀ highs₀ w (k + 1) right)
      pair =
          let (a, b, d) = entry left S.some.1 S.apart.0 in
          let (a', b', d') = entry right S.some.2 S.apart.1 in
          (ap₂ span a b, ap₂ span a' b')

      pub one_more : SettledRow node left right w (k + 1) lows₀ highs₀ lengths₀ lows' highs' lengths'
      one_more =
          record {
            room = (
              ap length Q.low_written ∙ length-set lows _ _ ∙ R.room.0,
              ap length Q.high_written ∙ length-set highs _ _ ∙ R.room.1,
              ap length Q.length_written ∙ length-set lengths _ _ ∙ R.room.2,
            );
            fits = λ i p q. fits i p q (ℕ_discrete i (k + 1));
            joined = λ i p q. joined i p q (ℕ_discrete i (k + 1));
            summed = λ i p q. summed i p q (ℕ_discrete i (k + 1));
            kept = λ i v p q r h. kept i v p q r h;
          }
        where
          fits : (i : ℕ) → 1 ≤ i → i ≤ k + 1 → Dec (i ≡ k + 1) → state_of lows' w i node ≤ state_of highs' w i node
          fits i p q (yes e) =
              subst (λ j. state_of lows' w j node ≤ state_of highs' w j node) (sym e) (omega (arith, new-low, new-high, Q.joined.fits))
          fits i p q (no e) =
              let (a, b, d) = unwritten i node p (omega arith) S.some.0 (inr e) in
              omega (arith, R.fits i p (omega arith))

          joined : (i : ℕ) → 1 ≤ i → i ≤ k + 1 → Dec (i ≡ k + 1)
              → range_at lows' highs' w i node ≡ ordered.join (range_at lows₀ highs₀ w i left ∷ range_at lows₀ highs₀ w i right ∷ [])
          joined i p q (yes e) =
              subst (λ j. range_at lows' highs' w j node ≡ ordered.join (range_at lows₀ highs₀ w j left ∷ range_at lows₀ highs₀ w j right ∷ [])) (sym e)
              (ap₂ span new-low new-high ∙ Q.joined.joins ∙ ap₂ (λ x y. ordered.join (x ∷ y ∷ [])) pair.0 pair.1)
          joined i p q (no e) =
              let (a, b, d) = unwritten i node p (omega arith) S.some.0 (inr e) in
              ap₂ span a b ∙ R.joined i p (omega arith)

          summed : (i : ℕ) → 1 ≤ i → i ≤ k + 1 → Dec (i ≡ k + 1)
              → state_of lengths' w i node
              ≡ state_of lengths₀ w i left + state_of lengths₀ w i right
              + ordered.cost (range_at lows₀ highs₀ w i left ∷ range_at lows₀ highs₀ w i right ∷ [])
          summed i p q (yes e) =
              subst
              (λ j. state_of lengths' w j node
              ≡ state_of lengths₀ w j left + state_of lengths₀ w j right
              + ordered.cost (range_at lows₀ highs₀ w j left ∷ range_at lows₀ highs₀ w j right ∷ [])) (sym e)
              (ap (λ x. state_of x w (k + 1) node) Q.length_written ∙ state-written lengths w node k _ l (rw R.room.2 here)
              ∙ ap₂ (λ x y. x + y) (ap₂ (λ x y. x + y) (entry left S.some.1 S.apart.0).2 (entry right S.some.2 S.apart.1).2)
              (ap₂ (λ x y. ordered.cost (x ∷ y ∷ [])) pair.0 pair.1))
          summed i p q (no e) =
              let (a, b, d) = unwritten i node p (omega arith) S.some.0 (inr e) in
              d ∙ R.summed i p (omega arith)

          kept : (i v : ℕ) → 1 ≤ i → i ≤ w → 1 ≤ v → (v ≢ node) ⊎ (k + 1 < i)
              → Same lows₀ highs₀ lengths₀ lows' highs' lengths' w i v
          kept i v p q r (inl n) =
              let (a, b, d) = unwritten i v p q r (inl n) in
              let (a', b', d') = R.kept i v p q r (inl n) in
              (a ∙ a', b ∙ b', d ∙ d')
          kept i v p q r (inr m) =
              let (a, b, d) = unwritten i v p q r (inr (λ (e : i ≡ k + 1). omega arith)) in
              let (a', b', d') = R.kept i v p q r (inr (omega arith)) in
              (a ∙ a', b ∙ b', d ∙ d')
