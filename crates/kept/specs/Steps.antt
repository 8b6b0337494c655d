-- What the steps of the calls leave.
-- Assumes nothing.
use Rattle.std.specs.Prelude.{◌≡◌, List, ◌++◌, ℕ, ◌≤◌, Option, None, Result, Ok, Err}
use Rattle.refusals.specs.declared.Refusal.{Refusal}
use Rattle.refusals.specs.Checks.{Refuses, Passes, Slice, slices}
use Rattle.trees.specs.declared.Rooted.{Rooted}
use Rattle.limits.specs.Limits.{lent_slices, Told, InLimits}
use Rattle.checks.specs.Calls.{matrix_checks, AdmitsMatrix}
use Rattle.histories.specs.Kept.{three, NoTaxon}

-- what is told of the table's slices and those behind them
abbrev pub LendsTable : (n c a b d : ℕ) (others told : Option ℕ) → Type 0
LendsTable n c a b d others told = (ss : List Slice) → Told 6 ss others → Told 3 (three n c a b d ++ ss) told

-- a call about all characters, whose table has slices of the lengths a, b and d, goes on, with the root of the tree and its descendant, or is refused by
-- the first check that applies
abbrev pub AdmitsTable : (n c : ℕ) (tree matrix : List ℕ) (a b d : ℕ) → Result Rooted Refusal → Type 0
AdmitsTable n c tree matrix a b d (Ok r) =
    InLimits n c × Passes (slices 1 (lent_slices n c tree matrix (three n c a b d))) × AdmitsMatrix n c tree matrix None (Ok r)
AdmitsTable n c tree matrix a b d (Err r) = Refuses (matrix_checks n c tree matrix (three n c a b d)) r

-- the character j, if there is the taxon t, and else 0
pub record Wanted (n t j r : ℕ) : Type 0 where
  pub none : NoTaxon n t → r ≡ 0
  pub same : 1 ≤ t → t ≤ n → r ≡ j
