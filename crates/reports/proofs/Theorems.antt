-- The report: the theorems, each in full and proved by a citation. `Reports text out out' a` is the contract of `report`: a is the answer to a text,
-- with what the lent slice held before and holds afterwards. That `report` keeps it is proved in report/Answers.antt.
-- Assumes nothing.
use mathlib.Core.Path.{◌≡◌, refl, ◌∙◌}
use mathlib.Core.List.{List, ◌++◌, flatten}
use Prim.Native.Nat.{ℕ, ◌+◌, ◌*◌, ◌≤◌, ◌<◌}
use lib.ListN.{length, drop}
use Rattle.std.specs.Prelude.{Result, Ok, Err}
use Rattle.refusals.specs.declared.Refusal.{Refusal}
use Rattle.refusals.specs.Reasons.{number}
use Rattle.refusals.specs.Checks.{Refuses}
use Rattle.forms.specs.Sheets.{Sheet, choice, IsSheet}
use Rattle.forms.specs.Faults.{text_checks}
use Rattle.fields.specs.Fields.{thousandths}
use Rattle.fields.specs.Proper.{AtMost}
use Rattle.fields.proofs.Rounding as rounding
use Rattle.summaries.specs.Report.{refused_line}
use Rattle.reports.specs.Says.{Scored, Says, none, Reports}
use Rattle.reports.proofs.Unique as unique

-- "in thousandths, halves up": t thousandths are at most half a thousandth above the fraction, and t + 1 are more than that.
pub halves_up : (over under : ℕ) → 1 ≤ under
    → (2 * under * thousandths over under ≤ 2000 * over + under) × (2000 * over + under < 2 * under * (thousandths over under + 1))
halves_up = rounding.halves_up

-- "as a plain number from 0 to 1000", where the fraction is at most 1, as CI and RI are.
pub thousandths-most : (over under : ℕ) → AtMost over under → thousandths over under ≤ 1000
thousandths-most = rounding.thousandths-most

-- What is written of a text is one text.
pub one-report : (text : List ℕ) {a b : List ℕ} → Says text a → Says text b → a ≡ b
one-report = unique.one-said

module _ (text out : List ℕ) where
  -- From the contract alone any two outcomes are equal: the answer, and what the slice holds afterwards.
  pub one_outcome : (a a' : Result ℕ Refusal) (o o' : List ℕ) → Reports text out o a → Reports text out o' a' → (a ≡ a') × (o ≡ o')
  one_outcome = unique.one_outcome text out

  -- Every text gets a report in a slice of 524,288 bytes, and it has room there.
  pub every_text_answered : length out ≡ 524288 → (a : Result ℕ Refusal) (o : List ℕ) → Reports text out o a
      → (size : ℕ) × (a ≡ Ok size) × (size ≤ 524288)
  every_text_answered h (Ok size) o (e, P) = (size, refl, P.fits)
  every_text_answered h (Err q) o (x, e) = absurd (unique.not_both text out q h x)

  -- A sheet is reported on: what stands at the front of the slice is the report on what the sheet says.
  pub sheet_reported : (s : Sheet) → IsSheet text s → (size : ℕ) (o : List ℕ) → Reports text out o (Ok size)
      → (w : List ℕ) × Scored s.taxa s.characters (choice s.last) s.ancestors (flatten s.rows) w × (o ≡ w ++ drop (length w) out)
  sheet_reported s S size o (e, P) = (P.written, unique.said_of_sheet text s S P.says, P.after)

  -- A text that is no sheet gets one line, with the refusal of the text.
  pub refused_reported : (q : Refusal) → Refuses (text_checks text) q → (size : ℕ) (o : List ℕ) → Reports text out o (Ok size)
      → o ≡ refused_line (number q) q.place ++ drop (length (refused_line (number q) q.place)) out
  refused_reported q h size o (e, P) =
      P.after ∙ unique.kept-behind out P.written (refused_line (number q) q.place) (unique.one-said text P.says (none q h))
