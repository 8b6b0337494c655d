-- After the last node of a path the path is mended.
-- Assumes nothing.
use mathlib.Core.Path.{◌≡◌, subst}
use mathlib.Core.List.{List}
use Prim.Native.Nat.{ℕ, suc, ◌≤◌, ◌<◌}
use native.Mathlib.Omega.{arith}
use Rattle.parsimony.specs.Table.{climb, below}
use Rattle.parsimony.specs.Ordered.{ordered}
use Rattle.parsimony.specs.Steps.{Settled}
use Rattle.parsimony.specs.Matrix.{state_of}
use Rattle.parsimony.specs.Character.{at_node, ranges, sizes}
use Rattle.parsimony.proofs.Tables.Trees.{Tree, steps_below}
use Rattle.paths.proofs.Paths.{path-all}
use Rattle.mending.proofs.Climbs as climbs
use Rattle.mending.proofs.Turns.{MendedTo}
use Rattle.mending.specs.Mending.{Mended, MendsPath}

module _ {n c j t count : ℕ} {tree matrix left right path lows₀ highs₀ lengths₀ : List ℕ}
    (M : MendsPath n c j t count tree matrix left right path lows₀ highs₀ lengths₀) where
  abbrev T : Tree
  T = record { n = n; tree = tree; ρ = M.ρ; δ = M.δ; is_tree = M.accepted.is_tree }

  abbrev MendedBy : (i : ℕ) (lows highs lengths : List ℕ) → Type 0
  MendedBy = MendedTo n c j t count tree matrix lows₀ highs₀ lengths₀

  pub mended-all : {i : ℕ} {lows highs lengths : List ℕ} → MendedBy i lows highs lengths → i ≡ count
      → Mended n c j t tree matrix lows₀ highs₀ lengths₀ lows highs lengths
  mended-all {i} {lows} {highs} {lengths} D l =
      record {
        low_long = D.low_long;
        high_long = D.high_long;
        length_long = D.length_long;
        off = λ v lo hi z. D.others v lo hi (λ h m e. not_below v h (omega arith) e z);
        on = λ v lo hi z. let (h, m, e) = path-all T t v lo z in
            subst (Settled ordered tree (ranges n (state_of matrix c j) lows highs) (sizes n (state_of matrix c j) lengths)) e
            (D.settled h (omega (arith, M.counts)));
        fits = λ v lo hi z. let (h, m, e) = path-all T t v lo z in
            subst (λ u. at_node n lows u ≤ at_node n highs u) e (D.fits h (omega (arith, M.counts)));
      }
    where
      not_below : (v h : ℕ) → h < count → climb tree (suc h) t ≡ v → below tree v t ≡ 0 → ⊥
      not_below v h m e z =
          omega (arith, steps_below T v t h (omega (arith, climbs.step-inner T t count M.counts h m, e)) e)
