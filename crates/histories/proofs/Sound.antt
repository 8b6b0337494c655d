-- Entries that have their meaning, of states up to 9999, are never bad: no end is above the highest state, and no length is above
-- 9999 * (2 n - 2 - 1) ≤ 9999 * 509 = 5,089,491. So refusal 10 does not apply to them.
-- Assumes nothing.
use mathlib.Core.Path.{◌≡◌, refl}
use mathlib.Core.List.{List}
use Prim.Native.Nat.{ℕ, ◌-◌, ◌*◌, ◌≤◌}
use native.Mathlib.Omega.{arith}
use lib.ListN.{length}
use Rattle.std.specs.Prelude.{None}
use Rattle.parsimony.specs.Table.{Accepted}
use Rattle.parsimony.specs.Matrix.{state_of}
use Rattle.parsimony.specs.Character.{FirstMeans}
use Rattle.parsimony.proofs.Tables.Bounds.{meant_high, meant_short}
use Rattle.refusals.specs.Search.{Never}
use Rattle.refusals.specs.Checks.{Clear, Passes, slices}
use Rattle.refusals.proofs.Laws.{never_lowest}
use Rattle.refusals.proofs.Order.{clear_slice, clear-lowest}
use Rattle.cells.specs.Above.{AboveAt, AboveIn}
use Rattle.cells.proofs.Reading.{none_above, states-small}
use Rattle.trees.specs.Answers.{Sized}
use Rattle.limits.specs.Limits.{lent_slices, InLimits}
use Rattle.checks.specs.Calls.{all_checks}
use Rattle.checks.proofs.Orders.{matrix-passes}
use Rattle.tables.specs.Tables.{stretch, TableLong}
use Rattle.entries.specs.Entries.{BadAt, BadBeside, all_entries, character_entries, beside_entries}
use Rattle.entries.proofs.Searching.{not_bad}
use Rattle.histories.specs.Kept.{Table, table_slices, Means, build_checks}
use Rattle.histories.proofs.Passed.{passed}

-- ---- the entries of one character

module _ (n c j : ℕ) (tree matrix : List ℕ) (ρ δ : ℕ) (A : Accepted n tree ρ δ) (S : Sized n tree) (N : Never (AboveIn matrix c j) n)
    (lows highs lengths : List ℕ) (M : FirstMeans n (state_of matrix c j) tree lows highs lengths) where
  pub never_bad : Never (BadAt n lows highs lengths) (2 * n - 2)
  never_bad v p q (lo, b) =
      let hi : v ≤ length tree = omega (arith, S.nodes) in
      let small = states-small n c j matrix N in
      not_bad _ _ _ (M.fits v lo hi) (meant_high n (state_of matrix c j) tree ρ δ A 9999 small lows highs lengths M v lo hi)
      (omega (arith, meant_short n (state_of matrix c j) tree ρ δ A 9999 small lows highs lengths M v lo hi, S.nodes, S.most)) b

  pub clear-character : Clear (character_entries n lows highs lengths)
  clear-character = clear-lowest 10 (BadAt n lows highs lengths) (2 * n - 2) never_bad

  pub clear-beside : (t : ℕ) → Clear (beside_entries n t tree lows highs lengths)
  clear-beside t = clear-lowest 10 (BadBeside n t tree lows highs lengths) (2 * n - 2) (λ v p q (a, b, d, bad). never_bad v p q bad)

-- ---- a table that has its meaning

-- a tree and a matrix that a build accepts, and the table that it leaves
pub record Stands (n c : ℕ) (tree matrix : List ℕ) (T : Table) : Type 0 where
  pub limits : InLimits n c
  pub nodes : length tree ≡ 2 * n - 2
  pub rows : length matrix ≡ n * c
  pub ρ : ℕ
  pub δ : ℕ
  pub accepted : Accepted n tree ρ δ
  pub small : Never (AboveAt matrix) (n * c)
  pub means : Means n c tree matrix T

module _ (n c : ℕ) (tree matrix : List ℕ) where
  -- what a build leaves stands
  pub passes_stands : (T₀ T : Table) → Passes (build_checks n c tree matrix T₀) → Means n c tree matrix T → Stands n c tree matrix T
  passes_stands T₀ T P M =
      let Q = passed n c tree matrix (table_slices n c T₀) (all_checks n c matrix) P in
      record {
        limits = Q.limits;
        nodes = Q.nodes;
        rows = Q.rows;
        ρ = Q.ρ;
        δ = Q.δ;
        accepted = Q.accepted;
        small = never_lowest (AboveAt matrix) (n * c) Q.cleared.0;
        means = M;
      }

  module _ (T : Table) (B : Stands n c tree matrix T) where
    pub sized : Sized n tree
    sized = record { least = B.limits.least; most = B.limits.most; nodes = B.nodes }

    -- slices of the right lengths
    pub exact-slices : (T₁ : Table) → TableLong n c T₁.lows T₁.highs T₁.lengths
        → Passes (slices 1 (lent_slices n c tree matrix (table_slices n c T₁)))
    exact-slices T₁ L = (
      clear_slice 1 (length tree) (2 * n - 2) B.nodes,
      (
        clear_slice 2 (length matrix) (n * c) B.rows,
        (
          clear_slice 3 (length T₁.lows) ((n - 2) * c) L.low_long,
          (
            clear_slice 4 (length T₁.highs) ((n - 2) * c) L.high_long,
            (clear_slice 5 (length T₁.lengths) ((n - 2) * c) L.length_long, tt),
          ),
        ),
      ),
    )

    -- a build into them is not refused
    pub build-passes : (T₁ : Table) → TableLong n c T₁.lows T₁.highs T₁.lengths → Passes (build_checks n c tree matrix T₁)
    build-passes T₁ L =
        matrix-passes n c tree matrix (table_slices n c T₁) B.limits None (exact-slices T₁ L) refl B.ρ B.δ B.accepted B.small

    -- 10 applies nowhere: neither in one character, nor beside a path in it, nor in all
    module _ (j : ℕ) (p : 1 ≤ j) (q : j ≤ c) where
      abbrev lows : List ℕ
      lows = stretch (n - 2) T.lows j

      abbrev highs : List ℕ
      highs = stretch (n - 2) T.highs j

      abbrev lengths : List ℕ
      lengths = stretch (n - 2) T.lengths j

      pub clear-one : Clear (character_entries n lows highs lengths)
      clear-one =
          clear-character n c j tree matrix B.ρ B.δ B.accepted sized (none_above n c j matrix p q B.small) lows highs lengths
          (B.means.means j p q)

      pub clear-path : (t : ℕ) → Clear (beside_entries n t tree lows highs lengths)
      clear-path =
          clear-beside n c j tree matrix B.ρ B.δ B.accepted sized (none_above n c j matrix p q B.small) lows highs lengths
          (B.means.means j p q)

    pub clear-all : Clear (all_entries n c T.lows T.highs T.lengths)
    clear-all k (j, (p, q), L, N) =
        never_bad n c j tree matrix B.ρ B.δ B.accepted sized (none_above n c j matrix p q B.small) _ _ _ (B.means.means j p q) k
        L.some L.most L.holds
