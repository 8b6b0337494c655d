-- The first pass of one character: a block of one.
-- Assumes nothing.
use mathlib.Core.Path.{◌≡◌, sym, subst}
use mathlib.Core.List.{List}
use Prim.Native.Nat.{ℕ, ◌+◌, ◌-◌, ◌≤◌}
use native.Mathlib.Omega.{arith}
use Rattle.parsimony.specs.Ordered.{ordered}
use Rattle.parsimony.specs.Meaning.{LengthMeans}
use Rattle.parsimony.specs.Steps.{FirstPass}
use Rattle.parsimony.specs.Matrix.{state_of}
use Rattle.parsimony.specs.Character.{cells, ranges, sizes}
use Rattle.rows.specs.Rows.{Room}
use Rattle.passes.specs.Passes.{Passable, Passed}
use Rattle.entry_lists.specs.EntryLists.{Copied, Taken, Ends, length_at}
use Rattle.entry_lists.proofs.Passed.{taken, one_settles, one-fits, ends, length_is}
use Rattle.first_passes.specs.FirstPasses.{Given, Begun}

module _ {n c j ρ δ : ℕ} {left right matrix : List ℕ} (G : Given n c j ρ δ left right matrix) where
  -- the character after the first j - 1
  this : j - 1 + 1 ≡ j
  this = omega (arith, G.some)

  -- i is 1 where there is one character
  only : (i : ℕ) → 1 ≤ i → i ≤ 1 → j - 1 + i ≡ j
  only i p q = omega (arith, G.some)

  pub passable : (lows highs lengths : List ℕ) → Room lows highs lengths → Passable n c (j - 1) 1 δ left right matrix lows highs lengths
  passable lows highs lengths room =
      record {
        tree = G.tree;
        ρ = ρ;
        orders = G.orders;
        loads =
            record {
              rows = omega (arith, G.rows);
              most = G.orders.sized.most;
              within = omega (arith, G.some, G.most);
              few = omega arith;
              room = room;
            };
        small = λ i k p q r s. subst (λ x. state_of matrix c x k ≤ 9999) (sym (only i p q)) (G.small k r s);
      }

  module _ {lows highs lengths : List ℕ} (P : Passed n c (j - 1) 1 δ left right matrix lows highs lengths) where
    pub ends-here : Ends ρ δ 1 1 lows highs lengths
    ends-here = ends G.orders (P G.tree ρ G.orders) 1 (omega arith) (omega arith) (omega arith)

    pub begun : {flows fhighs flengths : List ℕ} → Copied n 1 1 lows flows → Copied n 1 1 highs fhighs → Copied n 1 1 lengths flengths
        → {l : ℕ} → l ≡ length_at ρ δ 1 1 lows highs lengths → Begun n c j ρ δ left right matrix flows fhighs flengths l
    begun {flows} {fhighs} {flengths} E F H e tree O =
        let Q = P tree ρ O in
        record {
          low_long = E.long;
          high_long = F.long;
          length_long = H.long;
          fits = λ v lo hi. (one-fits O Q 1 (omega arith) (omega arith) (one E) (one F) (one H) v lo hi).0;
          pass = subst (λ x. FirstPass ordered n (cells n (state_of matrix c x)) tree (ranges n (state_of matrix c x) flows fhighs)
              (sizes n (state_of matrix c x) flengths)) this (one_settles O Q 1 (omega arith) (omega arith) (one E) (one F) (one H));
          least = rw e (subst (λ x. LengthMeans ordered n (cells n (state_of matrix c x)) tree (length_at ρ δ 1 1 lows highs lengths)) this
              (length_is O Q 1 (omega arith) (omega arith)));
        }
      where
        one : {block entries : List ℕ} → Copied n 1 1 block entries → Taken n 1 1 block entries
        one = taken (omega arith)
