-- Entries that have their meaning for a matrix have it for the corrected matrix too, once the path is mended: they are settled (Meant of the crate
-- `parsimony`), they stay so where nothing is written, and what is settled has its meaning.
-- Assumes nothing.
use mathlib.Core.Path.{◌≡◌, sym, ◌∙◌, ap, ap₂}
use mathlib.Core.Logic.{◌≢◌}
use mathlib.Core.List.{List}
use Prim.Native.Nat.{ℕ, ◌≤◌, ◌<◌}
use native.Mathlib.Decide.{dec_le}
use native.Mathlib.Omega.{arith}
use lib.ListN.{length}
use Rattle.parsimony.specs.Table.{below, Accepted}
use Rattle.parsimony.specs.Ordered.{span, point, ordered}
use Rattle.parsimony.specs.Steps.{FirstPass}
use Rattle.parsimony.specs.Matrix.{state_of}
use Rattle.parsimony.specs.Character.{at_node, cells, ranges, sizes, FirstMeans}
use Rattle.parsimony.proofs.Characters.{range-taxon, range-inner, size-taxon, size-inner, first-means}
use Rattle.parsimony.proofs.Tables.Meant.{meant_settled}
use Rattle.parsimony.proofs.Ranges.Laws.{ordered_laws}
use Rattle.parsimony.proofs.Theorems.{correction}
use Rattle.mending.specs.Mending.{Mended}

pub mended-means : (n c j t : ℕ) (tree : List ℕ) (ρ δ : ℕ) → Accepted n tree ρ δ
    → (matrix matrix' lows highs lengths lows' highs' lengths' : List ℕ)
    → ((k : ℕ) → 1 ≤ k → k ≤ n → k ≢ t → state_of matrix' c j k ≡ state_of matrix c j k)
    → FirstMeans n (state_of matrix c j) tree lows highs lengths
    → Mended n c j t tree matrix' lows highs lengths lows' highs' lengths'
    → FirstMeans n (state_of matrix' c j) tree lows' highs' lengths'
mended-means n c j t tree ρ δ A matrix matrix' lows highs lengths lows' highs' lengths' others F M =
    first-means (record { n = n; tree = tree; ρ = ρ; δ = δ; is_tree = A.is_tree }) state' lows' highs' lengths' settled fits
  where
    state : ℕ → ℕ
    state = state_of matrix c j

    state' : ℕ → ℕ
    state' = state_of matrix' c j

    settled : FirstPass ordered n (cells n state') tree (ranges n state' lows' highs') (sizes n state' lengths')
    settled =
        correction ordered ordered_laws n (cells n state) tree ρ δ A.is_tree (cells n state') (ranges n state lows highs)
        (ranges n state' lows' highs') (sizes n state lengths) (sizes n state' lengths') t
        (meant_settled n state tree ρ δ A.is_tree lows highs lengths F)
        (λ k p q r. ap point (others k p q r))
        (λ k p q. (range-taxon n state' lows' highs' k q, size-taxon n state' lengths' k q))
        (λ v lo hi z. let (p, q, r) = M.off v lo hi z in (
          range-inner n state' lows' highs' v lo ∙ ap₂ span p q ∙ sym (range-inner n state lows highs v lo),
          size-inner n state' lengths' v lo ∙ r ∙ sym (size-inner n state lengths v lo),
        ))
        M.on

    fits : (v : ℕ) → n < v → v ≤ length tree → at_node n lows' v ≤ at_node n highs' v
    fits v lo hi = go (dec_le 1 (below tree v t))
      where
        go : Dec (1 ≤ below tree v t) → at_node n lows' v ≤ at_node n highs' v
        go (yes l) = M.fits v lo hi l
        go (no l) = omega (arith, M.off v lo hi (omega arith), F.fits v lo hi)
