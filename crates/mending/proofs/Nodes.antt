-- One node, settled from its two descendants as their entries stand.
-- Assumes nothing.
use mathlib.Core.Path.{◌≡◌, refl, ◌∙◌, ap, ap₂}
use mathlib.Core.List.{List, [], ◌∷◌}
use Prim.Native.Nat.{ℕ, ◌+◌, ◌-◌}
use native.Mathlib.Omega.{arith}
use lib.ListN.{get_or, set}
use Rattle.parsimony.specs.Ordered as ordered
use Rattle.parsimony.specs.Matrix.{state_of}
use Rattle.parsimony.specs.Character.{at_node, ranges, sizes}
use Rattle.ranges.specs.declared.Range.{Range}
use Rattle.ranges.specs.Ranges.{range_of, Joined}
use Rattle.nodes.specs.Nodes.{Readable, IsAt}
use Rattle.mending.specs.Mending.{MendsNode, MendedNode}

-- ---- the two descendants, read by the node's place

module _ {n c j v : ℕ} {matrix left right lows highs lengths : List ℕ} (M : MendsNode n c j v matrix left right lows highs lengths) where
  -- a descendant d, read in one of the two lists
  module _ (side : List ℕ) (R : Readable n c j (at_node n side v) matrix lows highs) (d : ℕ) (e : d ≡ get_or side (v - n - 1) 0) where
    side_is : d ≡ at_node n side v
    side_is = e ∙ ap (λ k. get_or side k 0) (omega (arith, M.inner))

    range_is : (r : Range) → IsAt n c j d matrix lows highs r → range_of r ≡ ranges n (state_of matrix c j) lows highs (at_node n side v)
    range_is r A = A.range ∙ ap (ranges n (state_of matrix c j) lows highs) side_is

    size_is : (x : ℕ) → x ≡ sizes n (λ k. 0) lengths d → x ≡ sizes n (λ k. 0) lengths (at_node n side v)
    size_is x q = q ∙ ap (sizes n (λ k. 0) lengths) side_is

  module _ (a b : ℕ) (ea : a ≡ get_or left (v - n - 1) 0) (eb : b ≡ get_or right (v - n - 1) 0) (x y : Range) (X : IsAt n c j a matrix lows highs x)
      (Y : IsAt n c j b matrix lows highs y) (la lb : ℕ) (sa : la ≡ sizes n (λ k. 0) lengths a) (sb : lb ≡ sizes n (λ k. 0) lengths b) where
    pub mended : (r : Range) → Joined (range_of x ∷ range_of y ∷ []) r → (k k' : ℕ) → k' ≡ k → k ≡ ordered.cost (range_of x ∷ range_of y ∷ [])
        → MendedNode n c j v matrix left right lows highs lengths (set lows (v - n - 1) r.low) (set highs (v - n - 1) r.high)
        (set lengths (v - n - 1) (la + lb + k'))
    mended r J k k' ek e =
        let p = range_is left M.first a ea x X in
        let q = range_is right M.second b eb y Y in
        record {
          range = r;
          joined = record { fits = J.fits; joins = J.joins ∙ ap₂ (λ s t. ordered.join (s ∷ t ∷ [])) p q };
          low_written = refl;
          high_written = refl;
          length_written =
              ap (set lengths (v - n - 1))
              (ap₂ (λ s t. s + t)
              (ap₂ (λ s t. s + t) (size_is left M.first a ea la sa) (size_is right M.second b eb lb sb))
              (ek ∙ e ∙ ap₂ (λ s t. ordered.cost (s ∷ t ∷ [])) p q));
        }
