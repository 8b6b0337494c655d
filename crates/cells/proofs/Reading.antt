-- The cell of a taxon and a character is one of the matrix; and where no cell is above 9999, no state is.
-- Assumes nothing.
use mathlib.Core.Path.{◌≡◌, ap}
use mathlib.Core.List.{List}
use Prim.Native.Nat.{ℕ, ◌+◌, ◌-◌, ◌*◌, ◌≤◌, ◌<◌}
use native.Mathlib.Nat.{mul-le-mul_right}
use native.Mathlib.Omega.{arith, by_contra}
use lib.ListN.{length, get_or}
use Rattle.parsimony.specs.Matrix.{cell_number, state_of}
use Rattle.parsimony.proofs.Matrices.{cell_in}
use Rattle.refusals.specs.Search.{Never}
use Rattle.cells.specs.Above.{InMatrix, AboveAt, AboveIn}

pub cell_place : (c j t : ℕ) (matrix : List ℕ) → InMatrix c j t matrix → (t - 1) * c + (j - 1) < length matrix
cell_place c j t matrix M =
    omega (arith, cell_in t c (t - 1) (j - 1) (omega (arith, M.taxon)) (omega (arith, M.some, M.most)), M.rows)

pub cell-state : (c j t : ℕ) (matrix : List ℕ) → InMatrix c j t matrix → get_or matrix ((t - 1) * c + (j - 1)) 0 ≡ state_of matrix c j t
cell-state c j t matrix M = ap (λ k. get_or matrix k 0) (omega (arith, M.some))

pub in_matrix : (n c j t : ℕ) (matrix : List ℕ) → 1 ≤ j → j ≤ c → length matrix ≡ n * c → 1 ≤ t → t ≤ n → InMatrix c j t matrix
in_matrix n c j t matrix some most rows taxon l =
    record { some = some; most = most; taxon = taxon; rows = omega (arith, rows, rest) }
  where
    rest : t * c ≤ n * c
    rest = mul-le-mul_right c l

-- ---- states up to 9999

module _ (n c j : ℕ) (matrix : List ℕ) where
  -- no state of a character is above 9999 where no cell is
  pub none_above : 1 ≤ j → j ≤ c → Never (AboveAt matrix) (n * c) → Never (AboveIn matrix c j) n
  none_above a b N t p q h =
      N (cell_number c t j) (omega arith) (omega (arith, cell_in n c (t - 1) (j - 1) (omega arith) (omega arith))) h

  -- and one that is not above 9999 is at most 9999
  pub states-small : Never (AboveIn matrix c j) n → (k : ℕ) → 1 ≤ k → k ≤ n → state_of matrix c j k ≤ 9999
  states-small N k p q = by_contra (state_of matrix c j k) 9999 (N k p q)
