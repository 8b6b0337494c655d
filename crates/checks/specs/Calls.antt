-- The checks of the calls that take a tree and a matrix, as lists in document 01's order, and what is told when some of them are made.
-- Assumes nothing.
use Rattle.std.specs.Prelude.{◌≡◌, ◌⊎◌, List, [], ◌∷◌, ◌++◌, ℕ, ◌-◌, ◌*◌, ◌≤◌, ◌<◌, length, Option, None, Result, Ok, Err}
use Rattle.parsimony.specs.Table as table
use Rattle.parsimony.specs.Matrix.{cell_number}
use Rattle.refusals.specs.declared.Refusal.{Refusal}
use Rattle.refusals.specs.Search.{Lowest, Never}
use Rattle.refusals.specs.Checks.{Check, at, lowest, Refuses, Slice, slices}
use Rattle.cells.specs.Above.{AboveAt, AboveIn}
use Rattle.trees.specs.declared.Rooted.{Rooted}
use Rattle.trees.specs.Answers.{tree_faults}
use Rattle.limits.specs.Limits.{Outside, InLimits, lent_slices, Told}

-- ---- the checks

-- 8: there is no such character
abbrev pub NoCharacter : (c j : ℕ) → Type 0
NoCharacter c j = (j < 1) ⊎ (c < j)

-- 7, in one character's cells: they come in the order of the taxa, so the lowest is that of the lowest taxon
abbrev pub character_cell : (n c j : ℕ) (matrix : List ℕ) → Check
character_cell n c j matrix = record { number = 7; At = λ p. (t : ℕ) × (p ≡ cell_number c t j) × Lowest (AboveIn matrix c j) n t }

-- 8 and 7
abbrev pub cell_checks : (n c j : ℕ) (matrix : List ℕ) → List {1} Check
cell_checks n c j matrix = at 8 0 (NoCharacter c j) ∷ character_cell n c j matrix ∷ []

-- 7, in all cells
abbrev pub all_checks : (n c : ℕ) (matrix : List ℕ) → List {1} Check
all_checks n c matrix = lowest 7 (AboveAt matrix) (n * c) ∷ []

-- A call about one character: 1, 2, 3 to 6, 8, and 7 in the character's cells.
abbrev pub character_checks : (n c j : ℕ) (tree matrix : List ℕ) → List Slice → List {1} Check
character_checks n c j tree matrix rest =
    at 1 0 (Outside n c) ∷ slices 1 (lent_slices n c tree matrix rest) ++ (tree_faults n tree ++ cell_checks n c j matrix)

-- A call about all characters: 1, 2, 3 to 6, and 7 in all cells.
abbrev pub matrix_checks : (n c : ℕ) (tree matrix : List ℕ) → List Slice → List {1} Check
matrix_checks n c tree matrix rest =
    at 1 0 (Outside n c) ∷ slices 1 (lent_slices n c tree matrix rest) ++ (tree_faults n tree ++ all_checks n c matrix)

-- ---- behind the sizes

-- n and c are in their limits, and, unless a slice is wrong, the tree and the matrix are of the right length
pub record Admissible (n c : ℕ) (tree matrix : List ℕ) (told : Option ℕ) : Type 0 where
  pub limits : InLimits n c
  pub exact : told ≡ None → (length tree ≡ 2 * n - 2) × (length matrix ≡ n * c)

-- the character is one of the c, and none of its states is above 9999
pub record CellsPass (n c j : ℕ) (matrix : List ℕ) : Type 0 where
  pub some : 1 ≤ j
  pub most : j ≤ c
  pub small : Never (AboveIn matrix c j) n

-- after the tree: the cells pass, or 8 or 7 applies
abbrev pub AdmitsCells : (n c j : ℕ) (matrix : List ℕ) → Result (Unit {0}) Refusal → Type 0
AdmitsCells n c j matrix (Ok _) = CellsPass n c j matrix
AdmitsCells n c j matrix (Err r) = Refuses (cell_checks n c j matrix) r

-- the same for all cells: or 7 applies
abbrev pub AdmitsAll : (n c : ℕ) (matrix : List ℕ) → Result (Unit {0}) Refusal → Type 0
AdmitsAll n c matrix (Ok _) = Never (AboveAt matrix) (n * c)
AdmitsAll n c matrix (Err r) = Refuses (all_checks n c matrix) r

-- a call about one character goes on, with the root of the tree and its descendant, or is refused by the first check that applies
abbrev pub AdmitsCharacter : (n c j : ℕ) (tree matrix : List ℕ) → Option ℕ → Result Rooted Refusal → Type 0
AdmitsCharacter n c j tree matrix told (Ok r) = (told ≡ None) × table.Accepted n tree r.root r.top × CellsPass n c j matrix
AdmitsCharacter n c j tree matrix told (Err r) =
    (ss : List Slice) → Told 1 ss told → Refuses (slices 1 ss ++ (tree_faults n tree ++ cell_checks n c j matrix)) r

-- and one about all characters
abbrev pub AdmitsMatrix : (n c : ℕ) (tree matrix : List ℕ) → Option ℕ → Result Rooted Refusal → Type 0
AdmitsMatrix n c tree matrix told (Ok r) = (told ≡ None) × table.Accepted n tree r.root r.top × Never (AboveAt matrix) (n * c)
AdmitsMatrix n c tree matrix told (Err r) =
    (ss : List Slice) → Told 1 ss told → Refuses (slices 1 ss ++ (tree_faults n tree ++ all_checks n c matrix)) r
