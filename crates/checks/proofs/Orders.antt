-- The lists of checks, as a whole: what is told one after the other is the first check of the list that applies, or that none does; and each check
-- has one place.
-- Assumes nothing.
use mathlib.Core.Path.{◌≡◌, refl, sym, ◌∙◌, subst}
use mathlib.Core.Logic.{inl, inr}
use mathlib.Core.List.{List, ◌∷◌, ◌++◌}
use Prim.Native.Nat.{ℕ, ◌+◌, ◌-◌, ◌*◌}
use lib.ListN.{length}
use Rattle.std.specs.Prelude.{Option, None}
use Rattle.parsimony.specs.Table as table
use Rattle.refusals.specs.declared.Reason.TheVariants.{Limits}
use Rattle.refusals.specs.declared.Refusal.{Refusal}
use Rattle.refusals.specs.Search.{Never}
use Rattle.refusals.specs.Checks.{Check, at, Refuses, Passes, Slice, slices}
use Rattle.refusals.proofs.Laws.{lowest-one}
use Rattle.refusals.proofs.Order.{Sure, AllSure, sure_at, sure_lowest, sure_append, sure_slices, passes_append, clear_at, clear-lowest}
use Rattle.cells.specs.Above.{AboveAt, AboveIn}
use Rattle.trees.specs.Answers.{Sized, tree_faults}
use Rattle.trees.proofs.Unique.{sure_faults, accepted-passes}
use Rattle.limits.specs.Limits.{Outside, lent_slices, Told, InLimits}
use Rattle.limits.proofs.Lending.{exact-clear, not_outside}
use Rattle.checks.specs.Calls.{NoCharacter, character_cell, cell_checks, all_checks, character_checks, matrix_checks, Admissible, CellsPass}
use Rattle.checks.proofs.Admitting.{refusal, clear-character, clear-cell}

-- ---- each check has one place

pub sure_cell : (n c j : ℕ) (matrix : List ℕ) → Sure (character_cell n c j matrix)
sure_cell n c j matrix p p' (t, e, L) (t', e', L') =
    e ∙ subst (λ u. (u - 1) * c + j ≡ p') (sym (lowest-one (AboveIn matrix c j) n t t' L L')) (sym e')

module _ (n c : ℕ) (tree matrix : List ℕ) (rest : List Slice) where
  pub sure_call : (cs : List {1} Check) → AllSure cs
      → AllSure (at 1 0 (Outside n c) ∷ slices 1 (lent_slices n c tree matrix rest) ++ (tree_faults n tree ++ cs))
  sure_call cs S = (
    sure_at 1 0 (Outside n c),
    sure_append (slices 1 (lent_slices n c tree matrix rest)) (tree_faults n tree ++ cs) (sure_slices 1 (lent_slices n c tree matrix rest))
        (sure_append (tree_faults n tree) cs (sure_faults n tree) S),
  )

  pub sure_character : (j : ℕ) → AllSure (character_checks n c j tree matrix rest)
  sure_character j = sure_call (cell_checks n c j matrix) (sure_at 8 0 (NoCharacter c j), (sure_cell n c j matrix, tt))

  pub sure_matrix : AllSure (matrix_checks n c tree matrix rest)
  sure_matrix = sure_call (all_checks n c matrix) (sure_lowest 7 (AboveAt matrix) (n * c), tt)

  -- ---- 1, by itself

  pub character_outside : (j : ℕ) → Outside n c → Refuses (character_checks n c j tree matrix rest) (refusal Limits 0)
  character_outside j h = inl (refl, (refl, h))

  pub matrix_outside : Outside n c → Refuses (matrix_checks n c tree matrix rest) (refusal Limits 0)
  matrix_outside h = inl (refl, (refl, h))

  pub character-inside : (j : ℕ) → InLimits n c → (r : Refusal)
      → Refuses (slices 1 (lent_slices n c tree matrix rest) ++ (tree_faults n tree ++ cell_checks n c j matrix)) r
      → Refuses (character_checks n c j tree matrix rest) r
  character-inside j L r h = inr (clear_at 1 0 (Outside n c) (not_outside n c L), h)

  pub matrix-inside : InLimits n c → (r : Refusal) → Refuses (slices 1 (lent_slices n c tree matrix rest) ++
      (tree_faults n tree ++ all_checks n c matrix)) r
      → Refuses (matrix_checks n c tree matrix rest) r
  matrix-inside L r h = inr (clear_at 1 0 (Outside n c) (not_outside n c L), h)

  -- ---- a call goes on

  module _ (L : InLimits n c) (told : Option ℕ) (t : Told 1 (lent_slices n c tree matrix rest) told) where
    told-passes : told ≡ None → Passes (slices 1 (lent_slices n c tree matrix rest))
    told-passes e = subst (Told 1 (lent_slices n c tree matrix rest)) e t

    pub admissible : Admissible n c tree matrix told
    admissible =
        record {
          limits = L;
          exact = λ e. let (p, (q, r)) = told-passes e in (exact-clear 1 (length tree) (2 * n - 2) p, exact-clear 2 (length matrix) (n * c) q);
        }

    pub rest-passes : told ≡ None → Passes (slices 3 rest)
    rest-passes e = let (p, (q, r)) = told-passes e in r

    pub passes-call : (cs : List {1} Check) → told ≡ None → (ρ δ : ℕ) → table.Accepted n tree ρ δ → Passes cs
        → Passes (at 1 0 (Outside n c) ∷ slices 1 (lent_slices n c tree matrix rest) ++ (tree_faults n tree ++ cs))
    passes-call cs e ρ δ A P = (
      clear_at 1 0 (Outside n c) (not_outside n c L),
      passes_append (slices 1 (lent_slices n c tree matrix rest)) (tree_faults n tree ++ cs) (told-passes e)
          (passes_append (tree_faults n tree) cs (accepted-passes n tree ρ δ A) P),
    )

    pub character-passes : (j : ℕ) → told ≡ None → (ρ δ : ℕ) → table.Accepted n tree ρ δ → CellsPass n c j matrix
        → Passes (character_checks n c j tree matrix rest)
    character-passes j e ρ δ A P =
        passes-call (cell_checks n c j matrix) e ρ δ A
        (clear-character n c j matrix P.some P.most, (clear-cell n c j matrix P.small, tt))

    pub matrix-passes : told ≡ None → (ρ δ : ℕ) → table.Accepted n tree ρ δ → Never (AboveAt matrix) (n * c)
        → Passes (matrix_checks n c tree matrix rest)
    matrix-passes e ρ δ A N = passes-call (all_checks n c matrix) e ρ δ A (clear-lowest 7 (AboveAt matrix) (n * c) N, tt)

    -- the sizes that the passes ask
    pub sized : told ≡ None → Sized n tree
    sized e = record { least = L.least; most = L.most; nodes = (admissible.exact e).0 }
