-- Reading a sheet, with the result slice as the last of the slices; and a report has room in its slice.
-- Assumes nothing.
use mathlib.Core.Path.{◌≡◌, refl}
use mathlib.Core.List.{List, [], ◌∷◌}
use Prim.Native.Nat.{ℕ, ◌<◌}
use lib.ListN.{length}
use Rattle.std.specs.Prelude.{Result, Ok, Err}
use Rattle.refusals.specs.declared.Refusal.{Refusal}
use Rattle.refusals.specs.Checks.{Refuses, Passes, slices}
use Rattle.refusals.proofs.Order.{refuses_before, clear_slice}
use Rattle.forms.specs.Faults.{text_checks}
use Rattle.forms.proofs.Unique.{sheet-passes}
use Rattle.choices.specs.declared.Resolve.{Resolve}
use Rattle.bodies.specs.declared.Head.{Head}
use Rattle.sheets.specs.Answers.{tree_slice, matrix_slice, Reads, Answers}
use Rattle.reports.specs.Says.{Reports}
use Rattle.answers.specs.Coded.{limit, code}
use Rattle.sheet_answers.specs.Replies.{GivesSheet, sheet_slices, Short}
use Rattle.outcomes.specs.Sheets.{read_checks, SheetAnswers, SheetOutcome}
use Rattle.outcomes.proofs.Lasts.{refuses_still}

module _ (text tree matrix result : List ℕ) where
  -- refused by its sizes, the result slice among them
  pub sheet-refusal : (q : Refusal) (r : ℕ) → (r ≡ code q) × (q.place < limit)
      → Refuses (slices 1 (sheet_slices (length tree) (length matrix) (length result))) q
      → SheetOutcome text tree matrix result tree matrix result r
  sheet-refusal q r coded h =
      record {
        answer = Err q;
        answers = (refuses_before (slices 1 (sheet_slices (length tree) (length matrix) (length result))) (text_checks text) q h, refl, refl);
        gives = record { told = record { fits = coded.1; value = coded.0 }; results = refl };
      }

  module _ (exact : length result ≡ 3) where
    pub sheet-passes-call : (n c : ℕ) (r : Resolve) (t m : List ℕ) → Reads text tree matrix n c r t m → Passes (read_checks text tree matrix result)
    sheet-passes-call n c r t m R = (
      clear_slice 1 (length tree) 510 R.tree_exact,
      (
        clear_slice 2 (length matrix) 16384 R.matrix_exact,
        (clear_slice 3 (length result) 3 exact, sheet-passes text R.sheet R.is_sheet),
      ),
    )

    sheet-answers : (a : Result Head Refusal) (t m : List ℕ) → Answers text tree matrix a t m → SheetAnswers text tree matrix result t m a
    sheet-answers (Ok h) t m R = (exact, R)
    sheet-answers (Err q) t m (h, e, f) = (
      refuses_still (record { has = length result; asked = 3 }) exact (text_checks text) 1
          (tree_slice text tree matrix ∷ matrix_slice text tree matrix ∷ []) q h,
      e,
      f,
    )

    -- what `read_sheet` answers, with an exact result slice
    pub sheet-given : (a : Result Head Refusal) (t m after : List ℕ) (r : ℕ) → Answers text tree matrix a t m → GivesSheet a result after r
        → SheetOutcome text tree matrix result t m after r
    sheet-given a t m after r h G = record { answer = a; answers = sheet-answers a t m h; gives = G }

-- ---- the report

pub short : (text out out' : List ℕ) (a : Result ℕ Refusal) → Reports text out out' a → Short a
short text out out' (Ok size) (e, P) = P.fits
short text out out' (Err q) h = tt
