-- A search that has passed i cells, or i taxa, and found no state above 9999: one more.
-- Assumes nothing.
use mathlib.Core.Path.{◌≡◌, ap}
use mathlib.Core.List.{List}
use Prim.Native.Nat.{ℕ, ◌+◌, ◌-◌, ◌*◌, ◌≤◌, ◌<◌}
use native.Mathlib.Omega.{arith}
use lib.ListN.{get_or}
use Rattle.refusals.specs.Search.{Lowest, Never}
use Rattle.refusals.proofs.Laws.{never_more, lowest-here}
use Rattle.parsimony.specs.Matrix.{cell_at, state_of}
use Rattle.cells.specs.Above.{AboveAt, AboveIn}

module _ (matrix : List ℕ) where
  here : (i : ℕ) → cell_at matrix (i + 1) ≡ get_or matrix i 0
  here i = ap (λ k. get_or matrix k 0) (omega arith)

  pub found-cell : (m i : ℕ) → i < m → Never (AboveAt matrix) i → 9999 < get_or matrix i 0 → Lowest (AboveAt matrix) m (i + 1)
  found-cell m i l h a = lowest-here (AboveAt matrix) m i l h (omega (arith, here i))

  pub passed_cell : (i : ℕ) → Never (AboveAt matrix) i → get_or matrix i 0 ≤ 9999 → Never (AboveAt matrix) (i + 1)
  passed_cell i h a = never_more (AboveAt matrix) i h (λ z. omega (arith, here i))

  module _ (c j : ℕ) (some : 1 ≤ j) where
    row : (t : ℕ) → state_of matrix c j (t + 1) ≡ get_or matrix (t * c + (j - 1)) 0
    row t = ap (λ k. get_or matrix k 0) (ends (t + 1 - 1) (omega arith))
      where
        ends : (s : ℕ) → s ≡ t → s * c + j - 1 ≡ t * c + (j - 1)
        ends s e = rw e (omega arith)

    pub found-taxon : (n t : ℕ) → t < n → Never (AboveIn matrix c j) t → 9999 < get_or matrix (t * c + (j - 1)) 0
        → Lowest (AboveIn matrix c j) n (t + 1)
    found-taxon n t l h a = lowest-here (AboveIn matrix c j) n t l h (omega (arith, row t))

    pub passed_taxon : (t : ℕ) → Never (AboveIn matrix c j) t → get_or matrix (t * c + (j - 1)) 0 ≤ 9999 → Never (AboveIn matrix c j) (t + 1)
    passed_taxon t h a = never_more (AboveIn matrix c j) t h (λ z. omega (arith, row t))
