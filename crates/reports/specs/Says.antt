-- What the report on a text says: the printing of values that have their meaning, or the line of the refusal that the text, its tree or its matrix
-- gets.
-- Assumes nothing.
use Rattle.std.specs.Prelude.{◌≡◌, ℕ, ◌≤◌, length, drop, Result, Ok, Err}
use mathlib.Core.List.{List, [], ◌∷◌, ◌++◌, flatten}
use Rattle.parsimony.specs.Matrix.{state_of}
use Rattle.refusals.specs.declared.Refusal.{Refusal}
use Rattle.refusals.specs.Reasons.{number}
use Rattle.refusals.specs.Checks.{Refuses, Slice, slices}
use Rattle.choices.specs.declared.Resolve.{Resolve}
use Rattle.checks.specs.Calls.{matrix_checks}
use Rattle.forms.specs.Sheets.{Sheet, choice, IsSheet}
use Rattle.forms.specs.Faults.{text_checks}
use Rattle.scores.specs.declared.Scores.{Scores}
use Rattle.scores.specs.Scores.{CharacterMeans}
use Rattle.characters.specs.Afresh.{AllScored}
use Rattle.summaries.specs.Report.{tree_lines, refused_line}
use Rattle.turns.specs.Lines.{Found, lines_to}

-- ---- the values, and their printing

-- the report on n taxa and c characters: the lines for the tree, and those for each character
abbrev pub report_text : (n c : ℕ) → Resolve → Scores → (ℕ → Found) → List ℕ
report_text n c r s found = tree_lines n c s r ++ lines_to found c

-- ---- what the values mean

-- no check applies; the scores of the tree, and all that is found of each character, have their meaning
pub record Means (n c : ℕ) (r : Resolve) (tree matrix : List ℕ) (s : Scores) (found : ℕ → Found) : Type 0 where
  pub scored : AllScored n c tree matrix s
  pub each : (j : ℕ) → 1 ≤ j → j ≤ c → CharacterMeans n (state_of matrix c j) tree scored.ρ r (found j).results (found j).scores

-- what is written of a tree and a matrix: the report, or the refusal that all characters afresh gives
pub data Scored (n c : ℕ) (r : Resolve) (tree matrix : List ℕ) : List ℕ → Type 0 where
  report : (s : Scores) (found : ℕ → Found) → Means n c r tree matrix s found → Scored n c r tree matrix (report_text n c r s found)
  refusal : (q : Refusal) → Refuses (matrix_checks n c tree matrix []) q → Scored n c r tree matrix (refused_line (number q) q.place)

-- what is written of a text: that of the sheet which it is, or the refusal of a text that is none
pub data Says (text : List ℕ) : List ℕ → Type 0 where
  sheet : (s : Sheet) → IsSheet text s → (written : List ℕ)
      → Scored s.taxa s.characters (choice s.last) s.ancestors (flatten s.rows) written → Says text written
  none : (q : Refusal) → Refuses (text_checks text) q → Says text (refused_line (number q) q.place)

-- ---- the call

-- `out` holds what is written, and behind it what it held; the answer is how many bytes were written
pub record Prints (text out out' : List ℕ) (size : ℕ) : Type 0 where
  pub written : List ℕ
  pub says : Says text written
  pub size_is : size ≡ length written
  pub fits : size ≤ 524288
  pub after : out' ≡ written ++ drop (length written) out

-- slice 1: 524,288 bytes, in which any report has room
abbrev pub out_slice : List ℕ → Slice
out_slice out = record { has = length out; asked = 524288 }

-- the answer, and what the lent slice holds afterwards: on a refusal what it held before
abbrev pub Reports : (text out out' : List ℕ) → Result ℕ Refusal → Type 0
Reports text out out' (Ok size) = (length out ≡ 524288) × Prints text out out' size
Reports text out out' (Err q) = Refuses (slices 1 (out_slice out ∷ [])) q × (out' ≡ out)
