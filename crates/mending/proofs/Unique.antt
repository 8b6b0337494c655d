-- A correction has one outcome: off the path the entries are the old ones, and on the path they are settled, so each is known from those of the
-- node's descendants.
-- Assumes nothing.
use mathlib.Core.Path.{◌≡◌, sym, ◌∙◌, ap, ap₂}
use mathlib.Core.List.{List}
use Prim.Native.Nat.{ℕ, ◌+◌, ◌-◌, ◌*◌, ◌≤◌, ◌<◌}
use native.Mathlib.Decide.{dec_le}
use native.Mathlib.Omega.{arith}
use lib.ListN.{length}
use Rattle.parsimony.specs.Table.{descendants, below, Accepted}
use Rattle.parsimony.specs.Ordered as ordered
use Rattle.parsimony.specs.Ordered.{span, ordered}
use Rattle.parsimony.specs.Matrix.{state_of}
use Rattle.parsimony.specs.Character.{ranges, sizes}
use Rattle.parsimony.proofs.Sums.{All}
use Rattle.parsimony.proofs.Characters.{same_entries, range-taxon, range-inner, size-taxon, size-inner}
use Rattle.parsimony.proofs.Uniqueness.{span-ends}
use Rattle.parsimony.proofs.Tables.Fitting.{upward}
use Rattle.parsimony.proofs.Tables.Mending.{Alike, all_alike}
use Rattle.parsimony.proofs.Tables.Trees.{Tree}
use Rattle.mending.specs.Mending.{SameAt, Mended}

module _ (n c j t : ℕ) (tree : List ℕ) (ρ δ : ℕ) (A : Accepted n tree ρ δ) (nodes : length tree ≡ 2 * n - 2)
    (matrix lows highs lengths a b d a' b' d' : List ℕ) (M : Mended n c j t tree matrix lows highs lengths a b d)
    (M' : Mended n c j t tree matrix lows highs lengths a' b' d') where
  abbrev T : Tree
  T = record { n = n; tree = tree; ρ = ρ; δ = δ; is_tree = A.is_tree }

  abbrev state : ℕ → ℕ
  state = state_of matrix c j

  -- what the two have at a node
  abbrev Same : ℕ → Type 0
  Same = Alike ordered (ranges n state a' b') (ranges n state a b) (sizes n state d') (sizes n state d)

  -- off the path both have the old entries
  off-path : (v : ℕ) → n < v → v ≤ length tree → below tree v t ≡ 0 → SameAt n a' b' d' a b d v
  off-path v lo hi z =
      let (p, q, r) = M.off v lo hi z in
      let (p', q', r') = M'.off v lo hi z in
      (p ∙ sym p', q ∙ sym q', r ∙ sym r')

  taxon : (k : ℕ) → k ≤ n → Same k
  taxon k l = (
    range-taxon n state a b k l ∙ sym (range-taxon n state a' b' k l),
    size-taxon n state d k l ∙ sym (size-taxon n state d' k l),
  )

  fork : (v : ℕ) → n < v → v ≤ length tree → All Same (descendants tree v) → Same v
  fork v lo hi h = go (dec_le 1 (below tree v t))
    where
      go : Dec (1 ≤ below tree v t) → Same v
      go (yes l) =
          let (e, s) = all_alike ordered (ranges n state a' b') (ranges n state a b) (sizes n state d') (sizes n state d) (descendants tree v) h in (
            (M.on v lo hi l).joined ∙ ap ordered.join e ∙ sym (M'.on v lo hi l).joined,
            (M.on v lo hi l).summed ∙ ap₂ (λ x xs. x + ordered.cost xs) s e ∙ sym (M'.on v lo hi l).summed,
          )
      go (no l) =
          let (p, q, r) = off-path v lo hi (omega arith) in (
            range-inner n state a b v lo ∙ ap₂ span p q ∙ sym (range-inner n state a' b' v lo),
            size-inner n state d v lo ∙ r ∙ sym (size-inner n state d' v lo),
          )

  -- so they have the same entries
  same_at : (v : ℕ) → n < v → v ≤ length tree → SameAt n a' b' d' a b d v
  same_at v lo hi = go (dec_le 1 (below tree v t))
    where
      go : Dec (1 ≤ below tree v t) → SameAt n a' b' d' a b d v
      go (yes l) =
          let (e, s) = upward T Same (λ k p q r. taxon k q) fork v (omega arith) hi (λ (z : v ≡ ρ). omega (arith, A.is_tree.taxon)) in
          let (p, q) = span-ends _ _ _ _ (M.fits v lo hi l) (M'.fits v lo hi l)
          (sym (range-inner n state a b v lo) ∙ e ∙ range-inner n state a' b' v lo) in
          (p, q, sym (size-inner n state d v lo) ∙ s ∙ size-inner n state d' v lo)
      go (no l) = off-path v lo hi (omega arith)

  pub one-mended : (a ≡ a') × (b ≡ b') × (d ≡ d')
  one-mended = (
    same_entries n tree a a' nodes M.low_long M'.low_long (λ v lo hi. (same_at v lo hi).0),
    same_entries n tree b b' nodes M.high_long M'.high_long (λ v lo hi. (same_at v lo hi).1),
    same_entries n tree d d' nodes M.length_long M'.length_long (λ v lo hi. (same_at v lo hi).2),
  )
