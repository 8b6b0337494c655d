-- The length of the tree, one block of characters after the other.
-- Assumes nothing.
use mathlib.Core.Path.{◌≡◌, refl, sym, ◌∙◌, ap, subst}
use mathlib.Core.List.{List}
use Prim.Native.Nat.{ℕ, ◌+◌, ◌-◌, ◌*◌, ◌≤◌, min}
use native.Mathlib.Omega.{arith}
use Rattle.parsimony.specs.Lists.{sum, from}
use Rattle.parsimony.specs.Ordered.{ordered}
use Rattle.parsimony.specs.Meaning.{LengthMeans}
use Rattle.parsimony.specs.Matrix.{state_of}
use Rattle.parsimony.specs.Character.{cells}
use Rattle.parsimony.proofs.Sums.{sum_parts, sum-most, sum_alike}
use Rattle.parsimony.proofs.Uniqueness.{one-least}
use Rattle.parsimony.proofs.Ranges.Laws.{ordered_laws}
use Rattle.parsimony.proofs.Rose.Lengths.{least}
use Rattle.parsimony.proofs.Tables.Trees.{Tree}
use Rattle.parsimony.proofs.Tables.Whole.{whole}
use Rattle.parsimony.proofs.Tables.Ways.{whole-least}
use Rattle.shapes.specs.Filling.{Orders}
use Rattle.rows.specs.Rows.{Room}
use Rattle.passes.specs.Passes.{Passable, Passed}
use Rattle.entry_lists.specs.EntryLists.{length_at}
use Rattle.entry_lists.proofs.Passed.{ends, length_is, length-small}
use Rattle.totals.specs.Totals.{GivenBlocks, LengthIn, Adds, added}

module _ (n c ρ δ : ℕ) (left right matrix : List ℕ) where
  module _ (tree : List ℕ) (O : Orders n δ tree ρ left right) where
    abbrev T : Tree
    T = record { n = n; tree = tree; ρ = ρ; δ = δ; is_tree = O.accepted.is_tree }

    -- the least length of a character
    abbrev least_of : ℕ → ℕ
    least_of j = least ordered (cells n (state_of matrix c j)) (whole T)

    least-of : (j : ℕ) → LengthMeans ordered n (cells n (state_of matrix c j)) tree (least_of j)
    least-of j = whole-least ordered ordered_laws (cells n (state_of matrix c j)) T

  -- after the first k characters: the sum of their least lengths
  pub record SumsTo (k s : ℕ) (lows highs lengths : List ℕ) : Type 0 where
    pub within : k ≤ c
    pub room : Room lows highs lengths
    pub small : s ≤ 2549745 * k
    pub sums : (tree : List ℕ) (O : Orders n δ tree ρ left right) → s ≡ sum (least_of tree O) (from 1 k)

module _ {n c ρ δ : ℕ} {left right matrix : List ℕ} where
  pub sums_none : {lows highs lengths : List ℕ} → Room lows highs lengths → SumsTo n c ρ δ left right matrix 0 0 lows highs lengths
  sums_none room = record { within = omega arith; room = room; small = omega arith; sums = λ tree O. refl }

  -- as many characters, said otherwise
  pub sums_at : {k k' s : ℕ} {lows highs lengths : List ℕ} → k ≡ k' → SumsTo n c ρ δ left right matrix k s lows highs lengths
      → SumsTo n c ρ δ left right matrix k' s lows highs lengths
  sums_at {k} {k'} {s} {lows} {highs} {lengths} e S = subst (λ j. SumsTo n c ρ δ left right matrix j s lows highs lengths) e S

module _ {n c ρ δ : ℕ} {left right matrix : List ℕ} {k s : ℕ} {lows₀ highs₀ lengths₀ : List ℕ}
    (S : SumsTo n c ρ δ left right matrix k s lows₀ highs₀ lengths₀) where
  pub sums_all : c ≤ k → LengthIn n c ρ δ left right matrix s
  sums_all l tree O =
      record {
        lengths = least_of n c ρ δ left right matrix tree O;
        least = λ j p q. least-of n c ρ δ left right matrix tree O j;
        total = S.sums tree O ∙ ap (λ m. sum (least_of n c ρ δ left right matrix tree O) (from 1 m)) all;
      }
    where
      all : k ≡ c
      all = omega (arith, S.within)

  -- ---- one block

  module _ {w : ℕ} (ew : w ≡ min (c - k) 8) (G : GivenBlocks n c ρ δ left right matrix) where
    block_within : k + w ≤ c
    block_within = omega (arith, S.within)

    block-few : w ≤ 8
    block-few = omega arith

    block-small : (i u : ℕ) → 1 ≤ i → i ≤ w → 1 ≤ u → u ≤ n → state_of matrix c (k + i) u ≤ 9999
    block-small i u p q r t = G.cells.small (k + i) u (omega arith) (omega (arith, block_within)) r t

    pub passable : Passable n c k w δ left right matrix lows₀ highs₀ lengths₀
    passable =
        record {
          tree = G.tree;
          ρ = ρ;
          orders = G.orders;
          loads =
              record { rows = omega (arith, G.cells.rows); most = G.cells.most; within = block_within; few = block-few; room = S.room };
          small = block-small;
        }

    module _ {lows highs lengths : List ℕ} (P : Passed n c k w δ left right matrix lows highs lengths) where
      abbrev here : ℕ → ℕ
      here i = length_at ρ δ w i lows highs lengths

      here-small : (i : ℕ) → 1 ≤ i → i ≤ w → here i ≤ 2549745
      here-small i p q = length-small G.orders (P G.tree ρ G.orders) i p q (λ u r t. block-small i u p q r t)

      pub adds : Adds ρ δ w lows highs lengths s
      adds =
          record {
            few = block-few;
            ends = λ i p q. ends G.orders (P G.tree ρ G.orders) i p q block-few;
            small = here-small;
            sum_small = omega (arith, S.small, S.within, G.cells.few);
          }

      pub sums_on : {t : ℕ} → t ≡ added ρ δ w lows highs lengths s w → SumsTo n c ρ δ left right matrix (k + w) t lows highs lengths
      sums_on e =
          record {
            within = block_within;
            room = (P G.tree ρ G.orders).room;
            small = omega (arith, S.small, sum-most here 2549745 w here-small);
            sums = λ tree O.
                let l = least_of n c ρ δ left right matrix tree O in
                e ∙ ap (λ x. x + sum here (from 1 w)) (S.sums tree O)
                ∙ ap (λ x. sum l (from 1 k) + x) (sum_alike here (λ i. l (k + i)) w (same tree O))
                ∙ sym (sum_parts l k w);
          }
        where
          same : (tree : List ℕ) (O : Orders n δ tree ρ left right) (i : ℕ) → 1 ≤ i → i ≤ w
              → here i ≡ least_of n c ρ δ left right matrix tree O (k + i)
          same tree O i p q = one-least (length_is O (P tree ρ O) i p q) (least-of n c ρ δ left right matrix tree O (k + i))
