-- What the calls of the kept table answer: a value or a refusal, and for each lent slice.
-- Assumes nothing.
use Rattle.std.specs.Prelude.{◌≡◌, ◌≢◌, ◌⊎◌, List, [], ◌∷◌, ◌++◌, ℕ, ◌-◌, ◌*◌, ◌≤◌, ◌<◌, length, Result, Ok, Err}
use Rattle.parsimony.specs.Lists.{sum, from}
use Rattle.parsimony.specs.Table.{between, Accepted}
use Rattle.refusals.specs.declared.Refusal.{Refusal}
use Rattle.refusals.specs.Checks.{Check, at, Refuses, Passes, Slice, slices}
use Rattle.trees.specs.Answers.{tree_faults}
use Rattle.limits.specs.Limits.{Outside, node_slice, lent_slices}
use Rattle.checks.specs.Calls.{NoCharacter, character_cell, character_checks, matrix_checks}
use Rattle.tables.specs.Tables.{stretch, TableLong, TableMeans}
use Rattle.entries.specs.Entries.{character_entries, all_entries}
use Rattle.descents.specs.Descents.{Finals}
use Rattle.mending.specs.Mending.{Mended}
use Rattle.repairs.specs.Repairs.{with_cell}
use Rattle.corrections.specs.Corrections.{state_checks}
use Rattle.table_corrections.specs.TableCorrections.{SameStretch}
use Rattle.tallies.specs.Tallies.{length_in}

-- ---- the kept table

-- three slices: low ends, high ends, subtree lengths
pub record Table : Type 0 where
  pub lows : List ℕ
  pub highs : List ℕ
  pub lengths : List ℕ

-- as lent slices of these lengths, with (n - 2) c entries asked of each
abbrev pub three : (n c a b d : ℕ) → List Slice
three n c a b d =
    record { has = a; asked = (n - 2) * c } ∷ record { has = b; asked = (n - 2) * c } ∷ record { has = d; asked = (n - 2) * c } ∷ []

-- and those of a table
abbrev pub table_slices : (n c : ℕ) → Table → List Slice
table_slices n c T = three n c (length T.lows) (length T.highs) (length T.lengths)

-- every entry has its meaning
abbrev pub Means : (n c : ℕ) (tree matrix : List ℕ) → Table → Type 0
Means n c tree matrix T = TableMeans n c tree matrix T.lows T.highs T.lengths

-- ---- build

-- 1, 2, 3 to 6, and 7 in all cells
abbrev pub build_checks : (n c : ℕ) (tree matrix : List ℕ) → Table → List {1} Check
build_checks n c tree matrix T = matrix_checks n c tree matrix (table_slices n c T)

-- The answer: the table has its meaning; or a refusal, by the first check that applies, and nothing is changed.
abbrev pub Builds : (n c : ℕ) (tree matrix : List ℕ) (before after : Table) → Result (Unit {0}) Refusal → Type 0
Builds n c tree matrix before after (Ok _) = Passes (build_checks n c tree matrix before) × Means n c tree matrix after
Builds n c tree matrix before after (Err r) = Refuses (build_checks n c tree matrix before) r × (after ≡ before)

-- ---- correct one cell

-- 8: there is no such taxon, or no such character
abbrev pub NoTaxon : (n t : ℕ) → Type 0
NoTaxon n t = (t < 1) ⊎ (n < t)

-- 8, 7 in the character's cells, 9, and 10 beside the path
abbrev pub correction_checks : (n c t j s : ℕ) (tree matrix : List ℕ) → Table → List {1} Check
correction_checks n c t j s tree matrix T =
    at 8 0 (NoTaxon n t ⊎ NoCharacter c j) ∷ character_cell n c j matrix
    ∷ state_checks n t s tree (stretch (n - 2) T.lows j) (stretch (n - 2) T.highs j) (stretch (n - 2) T.lengths j)

-- 1, 2, 3 to 6, and these
abbrev pub correct_checks : (n c t j s : ℕ) (tree matrix : List ℕ) → Table → List {1} Check
correct_checks n c t j s tree matrix T =
    at 1 0 (Outside n c) ∷ slices 1 (lent_slices n c tree matrix (table_slices n c T)) ++ (tree_faults n tree ++ correction_checks n c t j s tree matrix T)

-- what an accepted correction leaves, in any table
pub record Corrected (n c t j s : ℕ) (tree matrix : List ℕ) (T : Table) (matrix' : List ℕ) (T' : Table) (k : ℕ) : Type 0 where
  pub passes : Passes (correct_checks n c t j s tree matrix T)
  -- the matrix has the new state in its cell, and else what it had
  pub cell : matrix' ≡ with_cell c t j s matrix
  -- the count is the number of interior nodes between the taxon and the root
  pub count : k ≡ between n tree t
  -- nothing is written for another character
  pub long : TableLong n c T'.lows T'.highs T'.lengths
  pub others : (i : ℕ) → 1 ≤ i → i ≤ c → i ≢ j → SameStretch n i T.lows T.highs T.lengths T'.lows T'.highs T'.lengths
  -- and for this one the path is settled anew, and nothing else is written
  pub path : Mended n c j t tree matrix'
      (stretch (n - 2) T.lows j) (stretch (n - 2) T.highs j) (stretch (n - 2) T.lengths j)
      (stretch (n - 2) T'.lows j) (stretch (n - 2) T'.highs j) (stretch (n - 2) T'.lengths j)

-- The answer: the count; or a refusal, by the first check that applies, and nothing is changed.
abbrev pub Corrects : (n c t j s : ℕ) (tree matrix : List ℕ) (T : Table) (matrix' : List ℕ) (T' : Table) → Result ℕ Refusal → Type 0
Corrects n c t j s tree matrix T matrix' T' (Ok k) = Corrected n c t j s tree matrix T matrix' T' k
Corrects n c t j s tree matrix T matrix' T' (Err r) =
    Refuses (correct_checks n c t j s tree matrix T) r × (matrix' ≡ matrix) × (T' ≡ T)

-- ---- the kept tree length

-- 1, 2, 3 to 6, 7 in all cells, and 10 in all entries
abbrev pub length_checks : (n c : ℕ) (tree matrix : List ℕ) → Table → List {1} Check
length_checks n c tree matrix T =
    matrix_checks n c tree matrix (table_slices n c T) ++ (all_entries n c T.lows T.highs T.lengths ∷ [])

-- the sum of the characters' lengths, by their entries as they stand
pub record HasLength (n c : ℕ) (tree matrix : List ℕ) (T : Table) (l : ℕ) : Type 0 where
  pub passes : Passes (length_checks n c tree matrix T)
  pub ρ : ℕ
  pub δ : ℕ
  pub accepted : Accepted n tree ρ δ
  pub total : l ≡ sum (length_in n c ρ δ tree matrix T.lows T.highs T.lengths) (from 1 c)

-- The answer: the length; or a refusal, by the first check that applies. All slices are lent to be read only.
abbrev pub HasLengths : (n c : ℕ) (tree matrix : List ℕ) (T : Table) → Result ℕ Refusal → Type 0
HasLengths n c tree matrix T (Ok l) = HasLength n c tree matrix T l
HasLengths n c tree matrix T (Err r) = Refuses (length_checks n c tree matrix T) r

-- ---- one kept character

-- the two slices that receive final ranges come last
abbrev pub kept_slices : (n c : ℕ) → Table → (lows highs : List ℕ) → List Slice
kept_slices n c T lows highs = table_slices n c T ++ (node_slice n (length lows) ∷ node_slice n (length highs) ∷ [])

-- 1, 2, 3 to 6, 8, 7 in the character's cells, and 10 in its entries
abbrev pub kept_checks : (n c j : ℕ) (tree matrix : List ℕ) (T : Table) (lows highs : List ℕ) → List {1} Check
kept_checks n c j tree matrix T lows highs =
    character_checks n c j tree matrix (kept_slices n c T lows highs)
    ++ (character_entries n (stretch (n - 2) T.lows j) (stretch (n - 2) T.highs j) (stretch (n - 2) T.lengths j) ∷ [])

-- the length and the final ranges, by its entries as they stand
pub record HasFinals (n c j : ℕ) (tree matrix : List ℕ) (T : Table) (lows highs lows' highs' : List ℕ) (l : ℕ) : Type 0 where
  pub passes : Passes (kept_checks n c j tree matrix T lows highs)
  pub ρ : ℕ
  pub δ : ℕ
  pub accepted : Accepted n tree ρ δ
  pub length : l ≡ length_in n c ρ δ tree matrix T.lows T.highs T.lengths j
  pub finals : Finals n c j ρ δ tree matrix (stretch (n - 2) T.lows j) (stretch (n - 2) T.highs j) lows' highs'

-- The answer: the length, and the final ranges in their slices; or a refusal, by the first check that applies, and nothing is changed.
abbrev pub AnswersKept : (n c j : ℕ) (tree matrix : List ℕ) (T : Table) (lows highs lows' highs' : List ℕ) → Result ℕ Refusal → Type 0
AnswersKept n c j tree matrix T lows highs lows' highs' (Ok l) = HasFinals n c j tree matrix T lows highs lows' highs' l
AnswersKept n c j tree matrix T lows highs lows' highs' (Err r) =
    Refuses (kept_checks n c j tree matrix T lows highs) r × (lows' ≡ lows) × (highs' ≡ highs)
