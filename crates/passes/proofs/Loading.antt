-- The rows of the taxa, loaded one cell after the other.
-- Assumes nothing.
use mathlib.Core.Path.{◌≡◌, ◌∙◌, ap}
use mathlib.Core.Logic.{◌≢◌, ◌⊎◌, inl, inr}
use mathlib.Core.List.{List}
use Prim.Native.Nat.{ℕ, ◌+◌, ◌-◌, ◌*◌, ◌≤◌, ◌<◌}
use native.Mathlib.Decide.{ℕ_discrete}
use native.Mathlib.Omega.{arith}
use lib.ListN.{length, get_or, set, length-set}
use Rattle.parsimony.specs.Matrix.{state_of}
use Rattle.parsimony.proofs.Matrices.{cell_in, state-written, state-other}
use Rattle.rows.specs.Rows.{Same}
use Rattle.rows.proofs.Rows.{place_in}
use Rattle.blocks.proofs.Walks.{same-on}
use Rattle.passes.specs.Passes.{Loads, HasState, LoadedRow, Loaded}

-- ---- one row

module _ {t c a w : ℕ} {matrix lows₀ highs₀ lengths₀ : List ℕ} (some : 1 ≤ t) (L : Loads t c a w matrix lows₀ highs₀ lengths₀) where
  -- the cell is one of the matrix, and its place one of the lists
  pub cell_place : (k : ℕ) → k < w → (t - 1) * c + a + k < length matrix
  cell_place k l = omega (arith, cell_in t c (t - 1) (a + k) (omega arith) (omega (arith, L.within)), L.rows)

  pub row_place : (k : ℕ) → k < w → (t - 1) * w + k < 4080
  row_place k l = place_in t w k some (omega (arith, L.most)) L.few l

  module _ {k : ℕ} (l : k < w) {lows highs lengths : List ℕ} (R : LoadedRow t c a w k matrix lows₀ highs₀ lengths₀ lows highs lengths) (x : ℕ)
      (read : x ≡ get_or matrix ((t - 1) * c + a + k) 0) where
    abbrev at : ℕ
    at = (t - 1) * w + k

    state_is : x ≡ state_of matrix c (a + (k + 1)) t
    state_is = read ∙ ap (λ j. get_or matrix j 0) (omega arith)

    pub one_more : LoadedRow t c a w (k + 1) matrix lows₀ highs₀ lengths₀ (set lows at x) (set highs at x) (set lengths at 0)
    one_more =
        record {
          room = (
            length-set lows at x ∙ R.room.0,
            length-set highs at x ∙ R.room.1,
            length-set lengths at 0 ∙ R.room.2,
          );
          here = λ i p q. here i p q (ℕ_discrete i (k + 1));
          kept = λ i v p q r h.
              same-on lows₀ highs₀ lengths₀ lows highs lengths (set lows at x) (set highs at x) (set lengths at 0) w i v
              (R.kept i v p q r (before i v h)) (other i v p q r (after i v h));
        }
      where
        other : (i v : ℕ) → 1 ≤ i → i ≤ w → 1 ≤ v → (v ≢ t) ⊎ (i ≢ k + 1)
            → Same lows highs lengths (set lows at x) (set highs at x) (set lengths at 0) w i v
        other i v p q r h = (
          state-other lows w t k x l v i some r p q h,
          state-other highs w t k x l v i some r p q h,
          state-other lengths w t k 0 l v i some r p q h,
        )

        before : (i v : ℕ) → (v ≢ t) ⊎ (k + 1 < i) → (v ≢ t) ⊎ (k < i)
        before i v (inl d) = inl d
        before i v (inr d) = inr (omega arith)

        after : (i v : ℕ) → (v ≢ t) ⊎ (k + 1 < i) → (v ≢ t) ⊎ (i ≢ k + 1)
        after i v (inl d) = inl d
        after i v (inr d) = inr (λ e. omega arith)

        here : (i : ℕ) → 1 ≤ i → i ≤ k + 1 → Dec (i ≡ k + 1) → HasState c a w matrix (set lows at x) (set highs at x) (set lengths at 0) i t
        here i p q (yes e) =
            rw e (
              state-written lows w t k x l (omega (arith, row_place k l, R.room.0)) ∙ state_is,
              state-written highs w t k x l (omega (arith, row_place k l, R.room.1)) ∙ state_is,
              state-written lengths w t k 0 l (omega (arith, row_place k l, R.room.2)),
            )
        here i p q (no e) =
            let (f, g, h) = R.here i p (omega arith) in
            let (f', g', h') = other i t p (omega arith) some (inr e) in
            (f' ∙ f, g' ∙ g, h' ∙ h)

-- ---- all rows

module _ (n c a w : ℕ) (matrix : List ℕ) where
  pub loaded_more : (k : ℕ) (lows highs lengths lows' highs' lengths' : List ℕ) → Loaded k c a w matrix lows highs lengths
      → LoadedRow (k + 1) c a w w matrix lows highs lengths lows' highs' lengths' → Loaded (k + 1) c a w matrix lows' highs' lengths'
  loaded_more k lows highs lengths lows' highs' lengths' D R =
      record { room = R.room; taxa = λ i u p q r s. taxa i u p q r s (ℕ_discrete u (k + 1)) }
    where
      taxa : (i u : ℕ) → 1 ≤ i → i ≤ w → 1 ≤ u → u ≤ k + 1 → Dec (u ≡ k + 1) → HasState c a w matrix lows' highs' lengths' i u
      taxa i u p q r s (yes e) = rw e (R.here i p q)
      taxa i u p q r s (no e) =
          let (f, g, h) = D.taxa i u p q r (omega arith) in
          let (f', g', h') = R.kept i u p q r (inl e) in
          (f' ∙ f, g' ∙ g, h' ∙ h)
