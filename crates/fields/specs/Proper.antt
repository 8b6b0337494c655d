-- A fraction that is at most 1, and an index that is such a fraction or none: what CI and RI are.
-- Assumes nothing.
use Rattle.std.specs.Prelude.{ℕ, ◌≤◌, Option, Some, None}
use Rattle.indices.specs.declared.Fraction.{Fraction}

-- a fraction that is at most 1
pub record AtMost (over under : ℕ) : Type 0 where
  pub most : over ≤ under
  pub some : 1 ≤ under

-- an index that can be printed: none, or such a fraction
abbrev pub Proper : Option Fraction → Type 0
Proper (Some f) = AtMost f.over f.under
Proper None = Unit {0}
