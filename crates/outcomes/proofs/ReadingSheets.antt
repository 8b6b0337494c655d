-- What a caller may conclude from the number of a function about sheets: below 2^32 it is the answer, and otherwise value / 2^32 and value mod 2^32
-- are the number and the place of the refusal.
-- Assumes nothing.
use mathlib.Core.Path.{◌≡◌, sym, subst}
use mathlib.Core.List.{List, [], ◌∷◌}
use Prim.Native.Nat.{ℕ, ◌≤◌, ◌<◌}
use Rattle.std.specs.Prelude.{Result, Ok, Err}
use Rattle.refusals.specs.declared.Refusal.{Refusal}
use Rattle.refusals.specs.Checks.{Refuses, slices}
use Rattle.choices.specs.declared.Resolve.{Resolve}
use Rattle.bodies.specs.declared.Head.{Head}
use Rattle.sheets.specs.Answers.{Reads}
use Rattle.reports.specs.Says.{Prints, out_slice, Reports}
use Rattle.answers.specs.Coded.{limit, Tells}
use Rattle.answers.proofs.Reading.{Said, not_refused_below, no_number_above, refusal-said}
use Rattle.sheet_answers.specs.Replies.{three, GivesSheet, of_report}
use Rattle.outcomes.specs.Sheets.{read_checks, SheetAnswers, SheetOutcome, ReportOutcome}

-- ---- reading a sheet

module _ (text tree matrix result tree' matrix' result' : List ℕ) (r : ℕ) (O : SheetOutcome text tree matrix result tree' matrix' result' r) where
  -- `badrumello_read_sheet` answers a number below 2^32: it is 0, the sheet is read, and the result slice has its three numbers
  pub sheet_answered : r < limit → (r ≡ 0) × (n : ℕ) × (c : ℕ) × (k : Resolve) × Reads text tree matrix n c k tree' matrix' × (result' ≡ three n c k)
  sheet_answered l = go O.answer O.answers O.gives
    where
      go : (a : Result Head Refusal) → SheetAnswers text tree matrix result tree' matrix' a → GivesSheet a result result' r
          → (r ≡ 0) × (n : ℕ) × (c : ℕ) × (k : Resolve) × Reads text tree matrix n c k tree' matrix' × (result' ≡ three n c k)
      go (Ok h) (e, R) G = (G.told.value, h.n, h.c, h.resolve, R, G.results)
      go (Err q) A G = absurd (not_refused_below r q G.told l)

  -- and any other is a refusal, with nothing changed
  pub sheet-refused : limit ≤ r
      → (q : Refusal) × Said r q × Refuses (read_checks text tree matrix result) q × (tree' ≡ tree) × (matrix' ≡ matrix) × (result' ≡ result)
  sheet-refused l = go O.answer O.answers O.gives
    where
      go : (a : Result Head Refusal) → SheetAnswers text tree matrix result tree' matrix' a → GivesSheet a result result' r
          → (q : Refusal) × Said r q × Refuses (read_checks text tree matrix result) q × (tree' ≡ tree) × (matrix' ≡ matrix) × (result' ≡ result)
      go (Ok h) A G = absurd (no_number_above r 0 G.told l)
      go (Err q) (x, e, f) G = (q, refusal-said r q G.told, x, e, f, G.results)

-- ---- the report

module _ (text out out' : List ℕ) (r : ℕ) (O : ReportOutcome text out out' r) where
  -- `badrumello_report` answers a number below 2^32: so many bytes are written, and they are the report
  pub report_answered : r < limit → Prints text out out' r
  report_answered l = go O.answer O.answers O.told
    where
      go : (a : Result ℕ Refusal) → Reports text out out' a → Tells (of_report a) r → Prints text out out' r
      go (Ok size) (e, P) S = subst (Prints text out out') (sym S.value) P
      go (Err q) A S = absurd (not_refused_below r q S l)

  -- and any other is a refusal, with nothing changed
  pub report-refused : limit ≤ r → (q : Refusal) × Said r q × Refuses (slices 1 (out_slice out ∷ [])) q × (out' ≡ out)
  report-refused l = go O.answer O.answers O.told
    where
      go : (a : Result ℕ Refusal) → Reports text out out' a → Tells (of_report a) r
          → (q : Refusal) × Said r q × Refuses (slices 1 (out_slice out ∷ [])) q × (out' ≡ out)
      go (Ok size) A S = absurd (no_number_above r size S l)
      go (Err q) (x, e) S = (q, refusal-said r q S, x, e)
