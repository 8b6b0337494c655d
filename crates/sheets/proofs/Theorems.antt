-- Reading a sheet: the theorems, each in full and proved by a citation. `Answers text tree matrix a tree' matrix'` is the contract of `read_sheet`: a
-- is the answer to a text, with what the lent slices held before and hold afterwards. That `read_sheet` keeps it is proved in read_sheet/Answers.antt.
-- Assumes nothing.
use mathlib.Core.Path.{◌≡◌, refl, subst}
use mathlib.Core.Logic.{◌↔◌}
use mathlib.Core.List.{List, ◌++◌, flatten}
use Prim.Native.Nat.{ℕ, suc, ◌+◌, ◌≤◌, ◌<◌}
use native.Mathlib.Omega.{arith}
use lib.ListN.{length, take, drop}
use Rattle.choices.specs.declared.Resolve.{Resolve}
use Rattle.refusals.specs.declared.Refusal.{Refusal}
use Rattle.refusals.specs.Search.{Lowest}
use Rattle.refusals.specs.Checks.{Refuses}
use Rattle.forms.specs.Sheets.{Sheet, choice, lines_of, Sized, Within, IsSheet, InForm}
use Rattle.forms.specs.Faults.{NotInForm}
use Rattle.forms.proofs.Forms as forms
use Rattle.forms.proofs.Missing as missing
use Rattle.forms.proofs.Unique as sheet
use Rattle.std.specs.Prelude.{Result, Ok, Err}
use Rattle.refusals.specs.declared.Reason.TheVariants.{Form}
use Rattle.refusals.specs.Reasons.{number}
use Rattle.bodies.specs.declared.Head.{Head}
use Rattle.sheets.specs.Answers.{sheet_checks, Answers}
use Rattle.sheets.proofs.Refusing as refusing
use Rattle.sheets.proofs.Unique as unique

-- ---- what a text says

-- A text is one sheet at the most: the printed form is not ambiguous.
pub one-sheet : (text : List ℕ) (s t : Sheet) → IsSheet text s → IsSheet text t → s ≡ t
one-sheet text s t S T = sheet.one-sheet text s t S T

-- "a tree slice of 510 entries and a matrix slice of 16,384 cells .. enough for any sheet in size"
pub slices_enough : (text : List ℕ) (s : Sheet) → IsSheet text s → (length s.ancestors ≤ 510) × (length (flatten s.rows) ≤ 16384)
slices_enough text s S = let (nodes, room) = sheet.sheet-room text s S in (nodes, omega arith)

-- Lines that are in form as far as one line are in form as far as each line before it.
pub in_form_before : (text : List ℕ) (j k : ℕ) → j ≤ k → InForm text k → InForm text j
in_form_before text j k h f = forms.earlier text j k h f

-- ---- what the call answers

module _ (text tree matrix : List ℕ) where
  -- What is accepted is exactly the printed form of what was read.
  pub accepted_is_printed : (n c : ℕ) (r : Resolve) (tree' matrix' : List ℕ)
      → Answers text tree matrix (Ok (record { n = n; c = c; resolve = r })) tree' matrix'
      → (s : Sheet) × (s.taxa ≡ n) × (s.characters ≡ c) × (choice s.last ≡ r) × (text ≡ flatten (lines_of s))
      × (tree' ≡ s.ancestors ++ drop (length s.ancestors) tree) × (matrix' ≡ flatten s.rows ++ drop (length (flatten s.rows)) matrix)
  accepted_is_printed n c r tree' matrix' R =
      (R.sheet, R.taxa_is, R.characters_is, R.choice_is, R.is_sheet.text_is, R.tree_after, R.matrix_after)

  -- Every sheet in form is accepted, with what it says; entries past those used keep their values.
  pub every-sheet-accepted : (s : Sheet) → IsSheet text s → length tree ≡ 510 → length matrix ≡ 16384
      → (a : Result Head Refusal) (tree' matrix' : List ℕ) → Answers text tree matrix a tree' matrix'
      → (a ≡ Ok (record { n = s.taxa; c = s.characters; resolve = choice s.last }))
      × (tree' ≡ s.ancestors ++ drop (length s.ancestors) tree) × (matrix' ≡ flatten s.rows ++ drop (length (flatten s.rows)) matrix)
  every-sheet-accepted s S h g a tree' matrix' A =
      unique.one_outcome text tree matrix a _ tree' _ matrix' _ A (unique.sheet-answer text tree matrix s S h g)

  -- The line of a refusal 11 is the lowest that is not in form: those before it are, and it is not, or is missing.
  pub lowest-line-refused : (q : Refusal) (tree' matrix' : List ℕ) → number q ≡ 11 → Answers text tree matrix (Err q) tree' matrix'
      → Lowest (NotInForm text) 261 q.place
  lowest-line-refused q tree' matrix' e (h, _, _) = unique.refused-line text tree matrix q e h

  -- "so is a missing line, at the number it would have": a text that stops after k lines of a sheet, before its last row.
  pub missing_line_refused : (s : Sheet) (k : ℕ) → Sized s → Within s.taxa s.characters → k < 3 + length s.rows
      → text ≡ flatten (take k (lines_of s)) → length text ≤ 32768 → length tree ≡ 510 → length matrix ≡ 16384
      → (a : Result Head Refusal) (tree' matrix' : List ℕ) → Answers text tree matrix a tree' matrix' → a ≡ Err (record { reason = Form; place = suc k })
  missing_line_refused s k Z W l e short h g a tree' matrix' A =
      (unique.one_outcome text tree matrix a (Err (record { reason = Form; place = suc k })) tree' tree matrix' matrix A (
        refusing.refused_text text tree matrix (record { reason = Form; place = suc k }) h g (missing.refused_missing text s Z W short k l e),
        refl,
        refl,
      )).0

  -- A refused text changes nothing.
  pub refused_changes_nothing : (q : Refusal) (tree' matrix' : List ℕ) → Answers text tree matrix (Err q) tree' matrix'
      → (tree' ≡ tree) × (matrix' ≡ matrix)
  refused_changes_nothing q tree' matrix' (_, e, f) = (e, f)

  -- A text is refused exactly with the first of the call's checks that applies, and no other is.
  pub refused_exactly : (a : Result Head Refusal) (q : Refusal) (tree' matrix' : List ℕ) → Answers text tree matrix a tree' matrix'
      → (a ≡ Err q) ↔ Refuses (sheet_checks text tree matrix) q
  refused_exactly a q tree' matrix' A = (
    λ e. (subst (λ (b : Result Head Refusal). Answers text tree matrix b tree' matrix') e A).0,
    λ h. (unique.one_outcome text tree matrix a (Err q) tree' tree matrix' matrix A (h, refl, refl)).0,
  )

  -- From the contract alone any two outcomes are equal: the answer, and what both slices hold afterwards.
  pub one_outcome : (a a' : Result Head Refusal) (t t' m m' : List ℕ) → Answers text tree matrix a t m → Answers text tree matrix a' t' m'
      → (a ≡ a') × (t ≡ t') × (m ≡ m')
  one_outcome a a' t t' m m' A B = unique.one_outcome text tree matrix a a' t t' m m' A B
