-- How the lines of a sheet are read at a position of a text, and what is stored of them: what the functions of this crate do. That this is to find
-- the printed lines of Printed.antt, no others, is proved in proofs/Round.antt.
-- Assumes nothing.
use Rattle.std.specs.Prelude.{◌≡◌, cond, ℕ, zero, suc, ◌+◌, eqb, length, Option, Some, None, Result, Ok, Err}
use mathlib.Core.List.{List, [], ◌∷◌, ◌++◌, flatten}
use Rattle.std.proofs.lemmas.List.Edits.{sets}
use Rattle.numbers.specs.declared.Parsed.{Parsed}
use Rattle.numbers.specs.Numbers.{item_at, starts_at}
use Rattle.lines.specs.Printed.{row_key}

-- ---- the numbers of a line

-- The numbers of a line and the position after it; or, if it is not in form, the numbers before the fault.
pub data Numbers : Type 0 where
  all : List ℕ → ℕ → Numbers
  cut : List ℕ → Numbers

-- the byte after a number with which `left` numbers are left: a comma, and LF after the last
unfoldable pub mark_of : ℕ → ℕ
mark_of left = cond (eqb left 1) 10 44

-- a number before others
unfoldable pub before : ℕ → Numbers → Numbers
before v (all vs next) = all (v ∷ vs) next
before v (cut vs) = cut (v ∷ vs)

-- a number, if one was read, and then what follows it
unfoldable pub then : Option Parsed → (ℕ → Numbers) → Numbers
then None f = cut []
then (Some p) f = before p.value (f p.next)

-- `left` numbers from position i on
unfoldable pub values_at : List ℕ → ℕ → ℕ → Numbers
values_at text zero i = all [] i
values_at text (suc k) i = then (item_at text (mark_of (suc k)) i) (λ next. values_at text k next)

-- a line at position i: its key, and `count` numbers
abbrev pub line_at : List ℕ → List ℕ → ℕ → ℕ → Numbers
line_at text key count i = cond (starts_at text i key) (values_at text count (i + length key)) (cut [])

-- a line with one number
abbrev pub head_at : List ℕ → List ℕ → ℕ → Option Parsed
head_at text key i = cond (starts_at text i key) (item_at text 10 (i + length key)) None

-- ---- the rows

-- The rows and the position after them; or the number of the first line that is not in form, and all numbers before the fault.
pub data Table : Type 0 where
  whole : List (List ℕ) → ℕ → Table
  wrong : ℕ → List ℕ → Table

-- a row before others
unfoldable pub above : List ℕ → Table → Table
above row (whole rs next) = whole (row ∷ rs) next
above row (wrong line vs) = wrong line (row ++ vs)

-- a row, if one was read as line `line`, and then what follows it
unfoldable pub then_rows : Numbers → ℕ → (ℕ → Table) → Table
then_rows (cut vs) line f = wrong line vs
then_rows (all row next) line f = above row (f next)

-- `left` rows of `width` numbers from position i on, the first of them line `line`
unfoldable pub rows_at : List ℕ → ℕ → ℕ → ℕ → ℕ → Table
rows_at text width zero line i = whole [] i
rows_at text width (suc k) line i = then_rows (line_at text row_key width i) line (λ next. rows_at text width k (line + 1) next)

-- ---- what is told of them, and what is stored

-- the position after a line, if it is in form
abbrev pub told_line : Numbers → Option ℕ
told_line (all vs next) = Some next
told_line (cut vs) = None

-- the numbers that were read, up to a fault
abbrev pub numbers_of : Numbers → List ℕ
numbers_of (all vs next) = vs
numbers_of (cut vs) = vs

-- these numbers stand from `from` on; everything else is as it was
pub record Stored (v : Numbers) (out : List ℕ) (from : ℕ) (r : Option ℕ) (out' : List ℕ) : Type 0 where
  pub told : r ≡ told_line v
  pub list : out' ≡ sets out from (numbers_of v)

-- the position after the rows, if they are in form, or the first line that is not
abbrev pub told_rows : Table → Result ℕ ℕ
told_rows (whole rs next) = Ok next
told_rows (wrong line vs) = Err line

-- their numbers one after another, up to a fault
abbrev pub cells_of : Table → List ℕ
cells_of (whole rs next) = flatten rs
cells_of (wrong line vs) = vs

-- the same for the rows
pub record StoredRows (t : Table) (out : List ℕ) (from : ℕ) (r : Result ℕ ℕ) (out' : List ℕ) : Type 0 where
  pub told : r ≡ told_rows t
  pub list : out' ≡ sets out from (cells_of t)
