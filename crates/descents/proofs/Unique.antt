-- The final ranges are known from the first pass's: from the root down, each node sees the same from above in any two second passes.
-- Assumes nothing.
use mathlib.Core.Path.{◌≡◌, sym, ◌∙◌, ap}
use mathlib.Core.List.{List, [], ◌∷◌, ◌++◌, map}
use Prim.Native.Nat.{ℕ, zero, suc, ◌-◌, ◌*◌, ◌≤◌, ◌<◌}
use native.Mathlib.Decide.{ℕ_discrete}
use native.Mathlib.Omega.{arith}
use lib.ListN.{length}
use Rattle.parsimony.specs.Table.{ancestor, descendants, sisters, climb, Accepted}
use Rattle.parsimony.specs.Ordered as ordered
use Rattle.parsimony.specs.Matrix.{state_of}
use Rattle.parsimony.specs.Character.{at_node, ranges}
use Rattle.parsimony.proofs.Characters.{same_entries}
use Rattle.parsimony.proofs.Uniqueness.{span-ends}
use Rattle.parsimony.proofs.Tables.Trees.{Tree}
use Rattle.shapes.proofs.Subtrees.{inner-ancestor}
use Rattle.descents.specs.Descents.{Finals}

module _ (n c j : ℕ) (tree : List ℕ) (ρ δ : ℕ) (A : Accepted n tree ρ δ) (nodes : length tree ≡ 2 * n - 2)
    (matrix lows highs a b a' b' : List ℕ) (F : Finals n c j ρ δ tree matrix lows highs a b)
    (F' : Finals n c j ρ δ tree matrix lows highs a' b') where
  open A.is_tree use {taxon, within, reach}

  abbrev T : Tree
  T = record { n = n; tree = tree; ρ = ρ; δ = δ; is_tree = A.is_tree }

  abbrev entry : ℕ → ordered.Range
  entry = ranges n (state_of matrix c j) lows highs

  -- of a node that comes to the root in s steps
  same_above : (s v : ℕ) → n < v → v ≤ length tree → climb tree s v ≡ ρ → F.above v ≡ F'.above v
  same_above zero v lo hi e = absurd (omega (arith, taxon))
  same_above (suc s) v lo hi e = go (ℕ_discrete v δ) (λ l. same_above s (ancestor tree v) l (within v) e)
    where
      go : Dec (v ≡ δ) → (n < ancestor tree v → F.above (ancestor tree v) ≡ F'.above (ancestor tree v)) → F.above v ≡ F'.above v
      go (yes r) ih = rw r (F.second.top ∙ sym F'.second.top)
      go (no r) ih =
          F.second.rest v lo hi r
          ∙ ap (λ x. ordered.join (map entry (sisters tree v) ++ (x ∷ []))) (ih (inner-ancestor T v lo hi r))
          ∙ sym (F'.second.rest v lo hi r)

  same-finals : (v : ℕ) → n < v → v ≤ length tree → (at_node n a v ≡ at_node n a' v) × (at_node n b v ≡ at_node n b' v)
  same-finals v lo hi =
      let (s, e) = reach v (omega arith) hi in
      span-ends _ _ _ _ (F.fits v lo hi) (F'.fits v lo hi)
      (F.finals v lo hi ∙ ap (λ x. ordered.join (map entry (descendants tree v) ++ (x ∷ []))) (same_above s v lo hi e)
      ∙ sym (F'.finals v lo hi))

  pub one-finals : (a ≡ a') × (b ≡ b')
  one-finals = (
    same_entries n tree a a' nodes F.low_long F'.low_long (λ v lo hi. (same-finals v lo hi).0),
    same_entries n tree b b' nodes F.high_long F'.high_long (λ v lo hi. (same-finals v lo hi).1),
  )
