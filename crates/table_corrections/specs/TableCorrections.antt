-- What the correction of a cell does to the stretch of its character in a kept table, and to no other.
-- Assumes nothing.
use Rattle.std.specs.Prelude.{◌≡◌, ◌≢◌, List, ℕ, ◌-◌, ◌≤◌, Result, Ok, Err}
use Rattle.refusals.specs.declared.Refusal.{Refusal}
use Rattle.refusals.specs.Checks.{Refuses}
use Rattle.tables.specs.Tables.{stretch, TableLong}
use Rattle.repairs.specs.Repairs.{Cell}
use Rattle.corrections.specs.Corrections.{state_checks, Corrected}

-- the entries of the character i are the same in two tables
abbrev pub SameStretch : (n i : ℕ) (lows highs lengths lows' highs' lengths' : List ℕ) → Type 0
SameStretch n i lows highs lengths lows' highs' lengths' =
    (stretch (n - 2) lows' i ≡ stretch (n - 2) lows i) × (stretch (n - 2) highs' i ≡ stretch (n - 2) highs i)
    × (stretch (n - 2) lengths' i ≡ stretch (n - 2) lengths i)

-- the character's stretch is corrected, and no other
pub record CorrectedIn (n c t j s : ℕ) (tree matrix lows highs lengths matrix' lows' highs' lengths' : List ℕ) (k : ℕ) : Type 0 where
  pub here : Corrected n c t j s tree matrix (stretch (n - 2) lows j) (stretch (n - 2) highs j) (stretch (n - 2) lengths j)
      matrix' (stretch (n - 2) lows' j) (stretch (n - 2) highs' j) (stretch (n - 2) lengths' j) k
  pub long : TableLong n c lows' highs' lengths'
  pub others : (i : ℕ) → 1 ≤ i → i ≤ c → i ≢ j → SameStretch n i lows highs lengths lows' highs' lengths'

-- or the correction is refused, and nothing is changed
abbrev pub CorrectsIn : (n c t j s : ℕ) (tree matrix lows highs lengths matrix' lows' highs' lengths' : List ℕ) → Result ℕ Refusal → Type 0
CorrectsIn n c t j s tree matrix lows highs lengths matrix' lows' highs' lengths' (Ok k) =
    CorrectedIn n c t j s tree matrix lows highs lengths matrix' lows' highs' lengths' k
CorrectsIn n c t j s tree matrix lows highs lengths matrix' lows' highs' lengths' (Err r) =
    Refuses (state_checks n t s tree (stretch (n - 2) lows j) (stretch (n - 2) highs j) (stretch (n - 2) lengths j)) r
    × (matrix' ≡ matrix) × (lows' ≡ lows) × (highs' ≡ highs) × (lengths' ≡ lengths)

-- with the entries of all characters
pub record CorrectableIn (n c t j : ℕ) (tree matrix lows highs lengths : List ℕ) : Type 0 where
  pub cell : Cell n c t j tree matrix
  pub long : TableLong n c lows highs lengths
