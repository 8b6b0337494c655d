-- What the C functions about sheets answer: what the call behind each does; and reading a sheet has the result slice as the last of the slices.
-- Assumes nothing.
use Rattle.std.specs.Prelude.{◌≡◌, List, ◌++◌, ℕ, length, Result, Ok, Err}
use Rattle.refusals.specs.declared.Refusal.{Refusal}
use Rattle.refusals.specs.Checks.{Check, Refuses, slices}
use Rattle.forms.specs.Faults.{text_checks}
use Rattle.bodies.specs.declared.Head.{Head}
use Rattle.sheets.specs.Answers.{Reads}
use Rattle.reports.specs.Says.{Reports}
use Rattle.answers.specs.Coded.{Tells}
use Rattle.sheet_answers.specs.Replies.{GivesSheet, sheet_slices, of_report}

-- ---- reading a sheet: tree 1, matrix 2, result 3

-- 2, 12, 11 of lines 1 and 2, 1, 11 of the other lines
abbrev pub read_checks : (text tree matrix result : List ℕ) → List {1} Check
read_checks text tree matrix result = slices 1 (sheet_slices (length tree) (length matrix) (length result)) ++ text_checks text

-- a sheet as `read_sheet` reads it, and a result slice of three; or a refusal, with the result slice among its checks, and nothing is changed
abbrev pub SheetAnswers : (text tree matrix result tree' matrix' : List ℕ) → Result Head Refusal → Type 0
SheetAnswers text tree matrix result tree' matrix' (Ok h) = (length result ≡ 3) × Reads text tree matrix h.n h.c h.resolve tree' matrix'
SheetAnswers text tree matrix result tree' matrix' (Err q) =
    Refuses (read_checks text tree matrix result) q × (tree' ≡ tree) × (matrix' ≡ matrix)

pub record SheetOutcome (text tree matrix result tree' matrix' result' : List ℕ) (r : ℕ) : Type 0 where
  pub answer : Result Head Refusal
  pub answers : SheetAnswers text tree matrix result tree' matrix' answer
  pub gives : GivesSheet answer result result' r

-- ---- the report: out 1

pub record ReportOutcome (text out out' : List ℕ) (r : ℕ) : Type 0 where
  pub answer : Result ℕ Refusal
  pub answers : Reports text out out' answer
  pub told : Tells (of_report answer) r
