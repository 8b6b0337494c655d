-- An index as document 01 has it, in the words of the crate `parsimony`; and a matrix in which one character can be read.
-- Assumes nothing.
use Rattle.std.specs.Prelude.{◌≡◌, List, ℕ, ◌*◌, ◌≤◌, length, Option, Some, None}
use Rattle.parsimony.specs.Index as index
use Rattle.indices.specs.declared.Fraction.{Fraction}

-- a fraction, over and under, or none
abbrev pub index_of : Option Fraction → index.Index
index_of (Some f) = index.fraction f.over f.under
index_of None = index.none

-- the matrix has a row of c cells for each of n taxa, at most 256, and j is one of its characters
pub record Readable (n c j : ℕ) (matrix : List ℕ) : Type 0 where
  pub least : 1 ≤ n
  pub most : n ≤ 256
  pub some : 1 ≤ j
  pub within : j ≤ c
  pub cells : length matrix ≡ n * c
