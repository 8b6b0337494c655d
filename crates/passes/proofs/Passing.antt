-- The first pass from the loaded rows: the walk begins at the root's descendant, which has every interior node below it.
-- Assumes nothing.
use mathlib.Core.Path.{◌∙◌}
use mathlib.Core.List.{List}
use Prim.Native.Nat.{ℕ, ◌+◌, ◌≤◌}
use native.Mathlib.Omega.{arith}
use Rattle.parsimony.specs.Matrix.{state_of}
use Rattle.parsimony.proofs.Tables.Trees.{Tree, δ-some, δ-most, δ-apart}
use Rattle.shapes.specs.Filling.{Orders}
use Rattle.shapes.proofs.Subtrees as subtrees
use Rattle.blocks.specs.Blocks.{Walks, WalkedIn}
use Rattle.passes.specs.Passes.{Loaded, PassedIn}

module _ {n δ : ℕ} {tree : List ℕ} {ρ : ℕ} {left right : List ℕ} (O : Orders n δ tree ρ left right) where
  abbrev T : Tree
  T = record { n = n; tree = tree; ρ = ρ; δ = δ; is_tree = O.accepted.is_tree }

  module _ {c a w : ℕ} {matrix lows highs lengths : List ℕ} (few : w ≤ 8)
      (small : (i k : ℕ) → 1 ≤ i → i ≤ w → 1 ≤ k → k ≤ n → state_of matrix c (a + i) k ≤ 9999)
      (L : Loaded n c a w matrix lows highs lengths) where
    pub walks : Walks δ n w tree ρ δ left right lows highs lengths
    walks =
        record {
          sized = O.sized;
          accepted = O.accepted;
          shape = O.shape;
          some = δ-some T;
          most = δ-most T;
          apart = δ-apart T;
          room = L.room;
          few = few;
          fits = λ i k p q r s.
              let (f, g, h) = L.taxa i k p q r s in
              (omega arith, omega (arith, small i k p q r s));
          none = λ i k p q r s. (L.taxa i k p q r s).2;
        }

    pub walked : {lows' highs' lengths' : List ℕ} → WalkedIn δ n w tree lows highs lengths lows' highs' lengths'
        → PassedIn n c a w tree matrix lows' highs' lengths'
    walked W =
        record {
          room = W.room;
          taxa = λ i k p q r s.
              let (f, g, h) = L.taxa i k p q r s in
              let (f', g', h') = W.taxa i k p q r s in
              (f' ∙ f, g' ∙ g, h' ∙ h);
          settled = λ i v p q lo hi. W.settled i v p q lo hi (omega (arith, subtrees.under_top T v lo hi));
          fits = λ i v p q lo hi. W.fits i v p q lo hi (omega (arith, subtrees.under_top T v lo hi));
        }
