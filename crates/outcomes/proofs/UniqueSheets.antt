-- Reading a sheet and its report have one outcome each: from the contract alone, any two are equal, the number and what the lent slices hold afterwards.
-- Assumes nothing.
use mathlib.Core.Path.{◌≡◌, sym, ◌∙◌, ap}
use mathlib.Core.List.{List}
use Prim.Native.Nat.{ℕ}
use lib.ListN.{length}
use Rattle.std.specs.Prelude.{Result, Ok, Err}
use Rattle.refusals.specs.declared.Refusal.{Refusal}
use Rattle.refusals.specs.Checks.{slices}
use Rattle.refusals.proofs.Order.{AllSure, sure_at, sure_lowest, sure_append, sure_slices, one-refusal, not_refused}
use Rattle.forms.specs.Faults.{TooLong, NotInForm, Outside, text_checks}
use Rattle.bodies.specs.declared.Head.{Head}
use Rattle.sheets.proofs.Unique as sheets
use Rattle.reports.proofs.Unique as reports
use Rattle.answers.proofs.Reading.{same-told}
use Rattle.sheet_answers.specs.Replies.{of_sheet, three_after, sheet_slices, of_report}
use Rattle.outcomes.specs.Sheets.{read_checks, SheetAnswers, SheetOutcome, ReportOutcome}
use Rattle.outcomes.proofs.Sheeting.{sheet-passes-call}

-- ---- reading a sheet

module _ (text tree matrix result : List ℕ) where
  sure_read : AllSure (read_checks text tree matrix result)
  sure_read =
      sure_append (slices 1 (sheet_slices (length tree) (length matrix) (length result))) (text_checks text)
      (sure_slices 1 (sheet_slices (length tree) (length matrix) (length result)))
      (sure_at 12 0 (TooLong text), (sure_lowest 11 (NotInForm text) 2, (sure_at 1 0 (Outside text), (sure_lowest 11 (NotInForm text) 261, tt))))

  one_answer : (a a' : Result Head Refusal) (t t' m m' : List ℕ) → SheetAnswers text tree matrix result t m a
      → SheetAnswers text tree matrix result t' m' a' → (a ≡ a') × (t ≡ t') × (m ≡ m')
  one_answer (Ok h) (Ok h') t t' m m' (e, R) (e', R') =
      sheets.one_outcome text tree matrix (Ok h) (Ok h') t t' m m' R R'
  one_answer (Ok h) (Err q) t t' m m' (e, R) (x, _, _) =
      absurd (not_refused (read_checks text tree matrix result) (sheet-passes-call text tree matrix result e h.n h.c h.resolve t m R) q x)
  one_answer (Err q) (Ok h) t t' m m' (x, _, _) (e, R) =
      absurd (not_refused (read_checks text tree matrix result) (sheet-passes-call text tree matrix result e h.n h.c h.resolve t' m' R) q x)
  one_answer (Err q) (Err q') t t' m m' (h, e, f) (h', e', f') =
      (ap Err (one-refusal (read_checks text tree matrix result) sure_read q q' h h'), e ∙ sym e', f ∙ sym f')

  -- `badrumello_read_sheet`: the tree, the matrix, the result slice and the number are one.
  pub one_sheet_outcome : (t t' m m' after after' : List ℕ) (r r' : ℕ) → SheetOutcome text tree matrix result t m after r
      → SheetOutcome text tree matrix result t' m' after' r' → (t ≡ t') × (m ≡ m') × (after ≡ after') × (r ≡ r')
  one_sheet_outcome t t' m m' after after' r r' O O' =
      let (e, p, q) = one_answer O.answer O'.answer t t' m m' O.answers O'.answers in (
        p,
        q,
        O.gives.results ∙ ap (λ a. three_after a result) e ∙ sym O'.gives.results,
        same-told (of_sheet O.answer) (of_sheet O'.answer) r r' (ap of_sheet e) O.gives.told O'.gives.told,
      )

-- ---- the report

-- `badrumello_report`: the slice and the number are one.
pub one_report_outcome : (text out o o' : List ℕ) (r r' : ℕ) → ReportOutcome text out o r → ReportOutcome text out o' r' → (o ≡ o') × (r ≡ r')
one_report_outcome text out o o' r r' O O' =
    let (e, p) = reports.one_outcome text out O.answer O'.answer o o' O.answers O'.answers in
    (p, same-told (of_report O.answer) (of_report O'.answer) r r' (ap of_report e) O.told O'.told)
