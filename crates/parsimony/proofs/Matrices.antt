-- The layout of a matrix: which place is whose, and what a cell holds after one is written.
-- Assumes nothing.
use mathlib.Core.Path.{◌≡◌, ◌∙◌, ap}
use mathlib.Core.Logic.{◌≢◌, ◌⊎◌, ⊎_elim}
use mathlib.Core.List.{List}
use Prim.Native.Nat.{ℕ, suc, ◌+◌, ◌-◌, ◌*◌, ◌≤◌, ◌<◌}
use native.Mathlib.Nat.{suc-mul, mul-le-mul_right}
use native.Mathlib.Decide.{dec_le}
use native.Mathlib.Omega.{arith}
use lib.ListN.{length, get_or, set}
use lib.Seq.{get_or-set_same, get_or-set_other}
use Rattle.parsimony.specs.Matrix.{state_of}

-- the cell of a row and a column, counted from 0, is one of the matrix
pub cell_in : (n c t j : ℕ) → t < n → j < c → t * c + j < n * c
cell_in n c t j p q =
    let h : suc t * c ≤ n * c = mul-le-mul_right c p in
    omega (arith, suc-mul t c)

-- a row begins after the end of the rows before it
later_row : (c t u j : ℕ) → t < u → j < c → t * c + j < u * c
later_row c t u j p q = cell_in u c t j p q

-- a place is of one row and one column
pub one_place : (c t j u i : ℕ) → j < c → i < c → t * c + j ≡ u * c + i → (t ≡ u) × (j ≡ i)
one_place c t j u i p q e = go (dec_le t u) (dec_le u t)
  where
    go : Dec (t ≤ u) → Dec (u ≤ t) → (t ≡ u) × (j ≡ i)
    go (yes a) (yes b) =
        let r : t ≡ u = omega arith in
        let s : t * c ≡ u * c = ap (λ x. x * c) r in
        (r, omega arith)
    go (no a) d = let h = later_row c u t i (omega arith) q in absurd (omega arith)
    go (yes a) (no b) = let h = later_row c t u j (omega arith) p in absurd (omega arith)

module _ (matrix : List ℕ) (c : ℕ) where
  -- the state of a row and a column, by the place counted from 0
  pub state_place : (t i : ℕ) → state_of matrix c (i + 1) t ≡ get_or matrix ((t - 1) * c + i) 0
  state_place t i = ap (λ k. get_or matrix k 0) (omega arith)

  -- one cell is written
  module _ (v i x : ℕ) (inside : i < c) where
    pub state-written : (v - 1) * c + i < length matrix → state_of (set matrix ((v - 1) * c + i) x) c (i + 1) v ≡ x
    state-written l =
        ap (λ k. get_or (set matrix ((v - 1) * c + i) x) k 0) (omega arith) ∙ get_or-set_same matrix ((v - 1) * c + i) x 0 l

    pub state-other : (u j : ℕ) → 1 ≤ v → 1 ≤ u → 1 ≤ j → j ≤ c → (u ≢ v) ⊎ (j ≢ i + 1)
        → state_of (set matrix ((v - 1) * c + i) x) c j u ≡ state_of matrix c j u
    state-other u j pv pu a b h = get_or-set_other matrix ((v - 1) * c + i) ((u - 1) * c + j - 1) x 0 apart
      where
        apart : (u - 1) * c + j - 1 ≢ (v - 1) * c + i
        apart e =
            let (r, s) = one_place c (u - 1) (j - 1) (v - 1) i (omega arith) inside (omega arith) in
            ⊎_elim (λ n. n (omega arith)) (λ n. n (omega arith)) h
