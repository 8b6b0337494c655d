-- What the answer of `read_sheet` says, read or refused, with what the lent slices hold afterwards; and its checks: those of the lent
-- slices first, and then those of the text.
-- Assumes nothing.
use Rattle.std.specs.Prelude.{◌≡◌, ℕ, length, drop, Result, Ok, Err}
use mathlib.Core.List.{List, [], ◌∷◌, ◌++◌, flatten}
use Rattle.choices.specs.declared.Resolve.{Resolve}
use Rattle.refusals.specs.declared.Refusal.{Refusal}
use Rattle.refusals.specs.Checks.{Check, Refuses, Slice, slices}
use Rattle.forms.specs.Sheets.{Sheet, choice, IsSheet}
use Rattle.forms.specs.Faults.{text_checks}
use Rattle.bodies.specs.declared.Head.{Head}

module _ (text tree matrix : List ℕ) where
  -- slice 1: 510 entries, as many as 256 taxa have nodes
  abbrev pub tree_slice : Slice
  tree_slice = record { has = length tree; asked = 510 }

  -- slice 2: 16,384 cells, as many as 32,768 bytes can hold
  abbrev pub matrix_slice : Slice
  matrix_slice = record { has = length matrix; asked = 16384 }

  -- 2, 12, 11 of lines 1 and 2, 1, 11 of the other lines
  abbrev pub sheet_checks : List {1} Check
  sheet_checks = slices 1 (tree_slice ∷ matrix_slice ∷ []) ++ text_checks text

-- A text is read as n, c and r: it is a sheet that says so. The tree holds its ancestors and the matrix its rows, one after another; entries past
-- those used are as they were.
pub record Reads (text tree matrix : List ℕ) (n c : ℕ) (r : Resolve) (tree' matrix' : List ℕ) : Type 0 where
  pub sheet : Sheet
  pub is_sheet : IsSheet text sheet
  pub taxa_is : sheet.taxa ≡ n
  pub characters_is : sheet.characters ≡ c
  pub choice_is : choice sheet.last ≡ r
  pub tree_exact : length tree ≡ 510
  pub matrix_exact : length matrix ≡ 16384
  pub tree_after : tree' ≡ sheet.ancestors ++ drop (length sheet.ancestors) tree
  pub matrix_after : matrix' ≡ flatten sheet.rows ++ drop (length (flatten sheet.rows)) matrix

-- what an answer says, and what the slices hold afterwards: on a refusal what they held before
abbrev pub Answers : (text tree matrix : List ℕ) → Result Head Refusal → (tree' matrix' : List ℕ) → Type 0
Answers text tree matrix (Ok h) tree' matrix' = Reads text tree matrix h.n h.c h.resolve tree' matrix'
Answers text tree matrix (Err q) tree' matrix' = Refuses (sheet_checks text tree matrix) q × (tree' ≡ tree) × (matrix' ≡ matrix)
