-- The refusals of a text, in their order: 12, 11 of the first two lines, 1, 11 of the others.
-- Assumes nothing.
use Rattle.std.specs.Prelude.{List, [], ◌∷◌, ℕ, ◌<◌, length}
use Rattle.refusals.specs.Checks.{Check, at, lowest}
use Rattle.forms.specs.Sheets.{Sheet, Within, Begins, InForm}

module _ (text : List ℕ) where
  -- 12: it has more than 32,768 bytes
  abbrev pub TooLong : Type 0
  TooLong = 32768 < length text

  -- 11: its lines are not in form as far as line k. At the lowest such k it is line k that is not in form, or that is missing.
  abbrev pub NotInForm : ℕ → Type 0
  NotInForm k = InForm text k → ⊥

  -- 1: it begins as a sheet whose n or c is outside its limits
  abbrev pub Outside : Type 0
  Outside = (s : Sheet) × Begins text s 2 × (Within s.taxa s.characters → ⊥)

  -- A sheet has 3 lines, 256 rows at the most, and the resolve line: past these, with line 261, nothing is left.
  abbrev pub text_checks : List {1} Check
  text_checks = at 12 0 TooLong ∷ lowest 11 NotInForm 2 ∷ at 1 0 Outside ∷ lowest 11 NotInForm 261 ∷ []
