-- The lent slices' lengths are checked first, and then the text.
-- Assumes nothing.
use mathlib.Core.Path.{◌≡◌, refl, sym, subst}
use mathlib.Core.Logic.{◌≢◌, inl, inr}
use mathlib.Core.List.{List}
use Prim.Native.Nat.{ℕ}
use lib.ListN.{length}
use Rattle.refusals.specs.declared.Reason.TheVariants.{Length}
use Rattle.refusals.specs.declared.Refusal.{Refusal}
use Rattle.refusals.specs.Checks.{Refuses}
use Rattle.refusals.proofs.Order.{clear_slice}
use Rattle.std.specs.Prelude.{Result, Err}
use Rattle.bodies.specs.declared.Head.{Head}
use Rattle.forms.specs.Faults.{text_checks}
use Rattle.sheets.specs.Answers.{sheet_checks, Answers}

module _ (text tree matrix : List ℕ) where
  pub refused-tree : (r : Result Head Refusal) (tree' matrix' : List ℕ) → r ≡ Err (record { reason = Length; place = 1 }) → length tree ≢ 510
      → tree' ≡ tree → matrix' ≡ matrix → Answers text tree matrix r tree' matrix'
  refused-tree r tree' matrix' e n t m =
      subst (λ (a : Result Head Refusal). Answers text tree matrix a tree' matrix') (sym e) (inl (refl, (refl, n)), t, m)

  pub refused-matrix : (r : Result Head Refusal) (tree' matrix' : List ℕ) → r ≡ Err (record { reason = Length; place = 2 }) → length tree ≡ 510
      → length matrix ≢ 16384 → tree' ≡ tree → matrix' ≡ matrix → Answers text tree matrix r tree' matrix'
  refused-matrix r tree' matrix' e h n t m =
      subst (λ (a : Result Head Refusal). Answers text tree matrix a tree' matrix') (sym e)
      (inr (clear_slice 1 (length tree) 510 h, inl (refl, (refl, n))), t, m)

  -- slices of the right lengths
  pub refused_text : (q : Refusal) → length tree ≡ 510 → length matrix ≡ 16384 → Refuses (text_checks text) q
      → Refuses (sheet_checks text tree matrix) q
  refused_text q h g r = inr (clear_slice 1 (length tree) 510 h, inr (clear_slice 2 (length matrix) 16384 g, r))
