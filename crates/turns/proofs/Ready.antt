-- Once all characters are scored, no call about one of them is refused.
-- Assumes nothing.
use mathlib.Core.Path.{refl, sym}
use mathlib.Core.List.{List}
use Prim.Native.Nat.{ℕ, zero, suc, ◌+◌, ◌-◌, ◌*◌, ◌≤◌}
use native.Mathlib.Numerals.{add-one}
use native.Mathlib.Omega.{arith}
use lib.ListN.{length}
use Rattle.std.specs.Prelude.{None, Result, Ok, Err, IsOk}
use Rattle.parsimony.specs.Table.{Accepted}
use Rattle.parsimony.specs.Matrix.{state_of}
use Rattle.parsimony.proofs.Matrices.{cell_in}
use Rattle.refusals.specs.declared.Refusal.{Refusal}
use Rattle.refusals.specs.Search.{Lowest, Never}
use Rattle.refusals.specs.Checks.{Passes}
use Rattle.refusals.proofs.Laws.{never_none, never_more, lowest-here}
use Rattle.refusals.proofs.Order.{not_refused, clear_slice}
use Rattle.cells.specs.Above.{AboveAt, AboveIn}
use Rattle.choices.specs.declared.Resolve.{Resolve}
use Rattle.limits.proofs.Lending.{in_limits, exact-clear}
use Rattle.checks.specs.Calls.{character_checks}
use Rattle.checks.proofs.Orders.{character-passes}
use Rattle.scores.specs.declared.Scores.{Scores}
use Rattle.scores.specs.Scores.{Results, AllLong, CharacterMeans}
use Rattle.characters.specs.Afresh.{result_slices, OneScored, OneAnswers, AllScored}
use Rattle.turns.specs.Lines.{Ready}

-- where no lowest place is, none is
never_of_clear : (P : ℕ → Type 0) (m : ℕ) → ((p : ℕ) → Lowest P m p → ⊥) → Never P m
never_of_clear P m clear = go m (omega arith)
  where
    go : (i : ℕ) → i ≤ m → Never P i
    go zero h = never_none P
    go (suc i) h =
        let before : Never P i = go i (omega arith) in
        rw (sym (add-one i)) (never_more P i before (λ x. clear (i + 1) (lowest-here P m i (omega arith) before x)))

-- all characters are scored
pub ready : (n c : ℕ) (tree matrix : List ℕ) (s : Scores) → AllScored n c tree matrix s → Ready n c tree matrix
ready n c tree matrix s A =
    let (outside, (first, (second, (three, (four, (five, (six, (seven, _)))))))) = A.passes in
    record {
      limits = in_limits n c (λ o. outside 0 (refl, o));
      nodes = exact-clear 1 (length tree) (2 * n - 2) first;
      cells = exact-clear 2 (length matrix) (n * c) second;
      small = never_of_clear (AboveAt matrix) (n * c) seven;
      ρ = A.ρ;
      δ = A.δ;
      accepted = A.accepted;
    }

module _ (n c : ℕ) (tree matrix : List ℕ) (R : Ready n c tree matrix) (j : ℕ) (some : 1 ≤ j) (most : j ≤ c) where
  -- no check of one character's call applies
  passes-one : (before : Results) → AllLong n before → Passes (character_checks n c j tree matrix (result_slices n before))
  passes-one before L =
      character-passes n c tree matrix (result_slices n before) R.limits None (
        clear_slice 1 (length tree) (2 * n - 2) R.nodes,
        (
          clear_slice 2 (length matrix) (n * c) R.cells,
          (
            clear_slice 3 (length before.first_lows) (n - 2) L.first_lows,
            (
              clear_slice 4 (length before.first_highs) (n - 2) L.first_highs,
              (
                clear_slice 5 (length before.subtree) (n - 2) L.subtree,
                (
                  clear_slice 6 (length before.final_lows) (n - 2) L.final_lows,
                  (
                    clear_slice 7 (length before.final_highs) (n - 2) L.final_highs,
                    (clear_slice 8 (length before.states) (n - 2) L.states, tt),
                  ),
                ),
              ),
            ),
          ),
        ),
      )
      j refl R.ρ R.δ R.accepted (record { some = some; most = most; small = small })
    where
      small : Never (AboveIn matrix c j) n
      small t p q h =
          R.small ((t - 1) * c + j) (omega arith) (omega (arith, cell_in n c (t - 1) (j - 1) (omega arith) (omega arith))) h

  pub never_refused : (resolve : Resolve) (before after : Results) → AllLong n before → (q : Refusal)
      → OneAnswers n c j resolve tree matrix before after (Err q) → ⊥
  never_refused resolve before after L q (h, _) = not_refused (character_checks n c j tree matrix (result_slices n before)) (passes-one before L) q h

  -- so it is answered with scores
  pub scores_come : (resolve : Resolve) (before after : Results) → AllLong n before → (a : Result Scores Refusal)
      → OneAnswers n c j resolve tree matrix before after a → IsOk a
  scores_come resolve before after L (Ok s) h = refl
  scores_come resolve before after L (Err q) h = absurd (never_refused resolve before after L q h)

  -- results that have their meaning are what the call answers, whatever the slices held
  pub scored-one : (resolve : Resolve) (before after : Results) → AllLong n before → (s : Scores) (ρ δ : ℕ) → Accepted n tree ρ δ
      → CharacterMeans n (state_of matrix c j) tree ρ resolve after s → OneScored n c j resolve tree matrix before after s
  scored-one resolve before after L s ρ δ A M = record { passes = passes-one before L; ρ = ρ; δ = δ; accepted = A; means = M }
