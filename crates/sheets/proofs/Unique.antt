-- From the contract of `read_sheet` alone: one answer, and one content of each slice afterwards.
-- Assumes nothing.
use mathlib.Core.Path.{◌≡◌, refl, sym, ap, ◌∙◌}
use mathlib.Core.Logic.{◌≢◌, inl, inr}
use mathlib.Core.List.{List, ◌++◌, flatten}
use Prim.Native.Nat.{ℕ}
use native.Mathlib.Omega.{arith}
use lib.ListN.{length, drop}
use Rattle.choices.specs.declared.Resolve.{Resolve}
use Rattle.refusals.specs.declared.Refusal.{Refusal}
use Rattle.refusals.specs.Search.{Lowest}
use Rattle.refusals.specs.Checks.{Refuses, Passes}
use Rattle.refusals.proofs.Order.{AllSure, sure_at, sure_lowest, one-refusal, not_refused, clear_slice}
use Rattle.forms.specs.Sheets.{Sheet, choice, IsSheet}
use Rattle.forms.specs.Faults.{TooLong, NotInForm, Outside}
use Rattle.forms.proofs.Unique.{one-sheet, sheet-passes}
use Rattle.std.specs.Prelude.{Result, Ok, Err}
use Rattle.refusals.specs.Reasons.{number}
use Rattle.bodies.specs.declared.Head.{Head}
use Rattle.sheets.specs.Answers.{sheet_checks, Reads, Answers}

-- the answer to a text that is read
abbrev pub read : ℕ → ℕ → Resolve → Result Head Refusal
read n c r = Ok (record { n = n; c = c; resolve = r })

module _ (text tree matrix : List ℕ) where
  sure_checks : AllSure (sheet_checks text tree matrix)
  sure_checks = (
    sure_at 2 1 (length tree ≢ 510),
    (
      sure_at 2 2 (length matrix ≢ 16384),
      (
        sure_at 12 0 (TooLong text),
        (sure_lowest 11 (NotInForm text) 2, (sure_at 1 0 (Outside text), (sure_lowest 11 (NotInForm text) 261, tt))),
      ),
    ),
  )

  sheet_checked : (s : Sheet) → IsSheet text s → length tree ≡ 510 → length matrix ≡ 16384 → Passes (sheet_checks text tree matrix)
  sheet_checked s S h g = (clear_slice 1 (length tree) 510 h, (clear_slice 2 (length matrix) 16384 g, sheet-passes text s S))

  -- a text that is read is not refused
  read_refused : (n c : ℕ) (r : Resolve) (t m : List ℕ) (q : Refusal) → Reads text tree matrix n c r t m → Refuses (sheet_checks text tree matrix) q
      → ⊥
  read_refused n c r t m q R h =
      not_refused (sheet_checks text tree matrix) (sheet_checked R.sheet R.is_sheet R.tree_exact R.matrix_exact) q h

  -- two readings are of one sheet
  read_same : (n c : ℕ) (r : Resolve) (t m : List ℕ) (n' c' : ℕ) (r' : Resolve) (t' m' : List ℕ) → Reads text tree matrix n c r t m
      → Reads text tree matrix n' c' r' t' m' → (read n c r ≡ read n' c' r') × (t ≡ t') × (m ≡ m')
  read_same n c r t m n' c' r' t' m' R Q =
      let s : R.sheet ≡ Q.sheet = one-sheet text R.sheet Q.sheet R.is_sheet Q.is_sheet in (
        ap (λ k. read k c r) (sym R.taxa_is ∙ ap (λ (x : Sheet). x.taxa) s ∙ Q.taxa_is)
            ∙ ap (λ k. read n' k r) (sym R.characters_is ∙ ap (λ (x : Sheet). x.characters) s ∙ Q.characters_is)
            ∙ ap (λ k. read n' c' k) (sym R.choice_is ∙ ap (λ (x : Sheet). choice x.last) s ∙ Q.choice_is),
        R.tree_after ∙ ap (λ (x : Sheet). x.ancestors ++ drop (length x.ancestors) tree) s ∙ sym Q.tree_after,
        R.matrix_after ∙ ap (λ (x : Sheet). flatten x.rows ++ drop (length (flatten x.rows)) matrix) s ∙ sym Q.matrix_after,
      )

  pub one_outcome : (a a' : Result Head Refusal) (t t' m m' : List ℕ) → Answers text tree matrix a t m → Answers text tree matrix a' t' m'
      → (a ≡ a') × (t ≡ t') × (m ≡ m')
  one_outcome (Ok h) (Ok h') t t' m m' R Q = read_same h.n h.c h.resolve t m h'.n h'.c h'.resolve t' m' R Q
  one_outcome (Ok h) (Err q) t t' m m' R (k, _, _) = absurd (read_refused h.n h.c h.resolve t m q R k)
  one_outcome (Err q) (Ok h) t t' m m' (k, _, _) R = absurd (read_refused h.n h.c h.resolve t' m' q R k)
  one_outcome (Err q) (Err q') t t' m m' (h, e, f) (h', e', f') = (
    ap Err (one-refusal (sheet_checks text tree matrix) sure_checks q q' h h'),
    e ∙ sym e',
    f ∙ sym f',
  )

  -- what a sheet has to be answered
  pub sheet-answer : (s : Sheet) → IsSheet text s → length tree ≡ 510 → length matrix ≡ 16384
      → Answers text tree matrix (read s.taxa s.characters (choice s.last))
      (s.ancestors ++ drop (length s.ancestors) tree) (flatten s.rows ++ drop (length (flatten s.rows)) matrix)
  sheet-answer s S h g =
      record {
        sheet = s;
        is_sheet = S;
        taxa_is = refl;
        characters_is = refl;
        choice_is = refl;
        tree_exact = h;
        matrix_exact = g;
        tree_after = refl;
        matrix_after = refl;
      }

  -- ---- the line of a refusal 11

  wider : (k : ℕ) → Lowest (NotInForm text) 2 k → Lowest (NotInForm text) 261 k
  wider k L = record { some = L.some; most = omega (arith, L.most); holds = L.holds; first = L.first }

  pub refused-line : (q : Refusal) → number q ≡ 11 → Refuses (sheet_checks text tree matrix) q → Lowest (NotInForm text) 261 q.place
  refused-line q e (inl (f, h)) = let z : ◌≡◌ {A = ℕ} 11 2 = sym e ∙ f in absurd (omega arith)
  refused-line q e (inr (n₁, inl (f, h))) = let z : ◌≡◌ {A = ℕ} 11 2 = sym e ∙ f in absurd (omega arith)
  refused-line q e (inr (n₁, inr (n₂, inl (f, h)))) = let z : ◌≡◌ {A = ℕ} 11 12 = sym e ∙ f in absurd (omega arith)
  refused-line q e (inr (n₁, inr (n₂, inr (n₃, inl (f, h))))) = wider q.place h
  refused-line q e (inr (n₁, inr (n₂, inr (n₃, inr (n₄, inl (f, h)))))) = let z : ◌≡◌ {A = ℕ} 11 1 = sym e ∙ f in absurd (omega arith)
  refused-line q e (inr (n₁, inr (n₂, inr (n₃, inr (n₄, inr (n₅, inl (f, h))))))) = h
  refused-line q e (inr (n₁, inr (n₂, inr (n₃, inr (n₄, inr (n₅, inr (n₆, none))))))) = absurd none
