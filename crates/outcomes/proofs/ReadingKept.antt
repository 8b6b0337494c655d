-- What a caller may conclude from the number of a function about the kept table: below 2^32 it is the answer, and otherwise value / 2^32 and
-- value mod 2^32 are the number and the place of the refusal.
-- Assumes nothing.
use mathlib.Core.Path.{◌≡◌, sym, subst}
use mathlib.Core.List.{List}
use Prim.Native.Nat.{ℕ, ◌≤◌, ◌<◌}
use Rattle.std.specs.Prelude.{Result, Ok, Err}
use Rattle.refusals.specs.declared.Refusal.{Refusal}
use Rattle.refusals.specs.Checks.{Refuses, Passes}
use Rattle.histories.specs.Kept.{
  Table,
  Means,
  build_checks,
  Builds,
  correct_checks,
  Corrected,
  Corrects,
  length_checks,
  HasLength,
  HasLengths,
  kept_checks,
  HasFinals,
  AnswersKept,
}
use Rattle.answers.specs.Coded.{limit, Tells}
use Rattle.answers.proofs.Reading.{Said, not_refused_below, no_number_above, refusal-said}
use Rattle.kept_answers.specs.Replies.{of_built, of_count, of_length}
use Rattle.outcomes.specs.Kept.{BuildOutcome, CorrectOutcome, LengthOutcome, KeptOutcome}

-- ---- build

module _ (n c : ℕ) (tree matrix : List ℕ) (before after : Table) (r : ℕ) (O : BuildOutcome n c tree matrix before after r) where
  -- `badrumello_build` answers a number below 2^32: it is 0, and the table has its meaning
  pub build_answered : r < limit → (r ≡ 0) × Passes (build_checks n c tree matrix before) × Means n c tree matrix after
  build_answered l = go O.answer O.answers O.told
    where
      go : (a : Result (Unit {0}) Refusal) → Builds n c tree matrix before after a → Tells (of_built a) r
          → (r ≡ 0) × Passes (build_checks n c tree matrix before) × Means n c tree matrix after
      go (Ok _) (P, M) S = (S.value, P, M)
      go (Err q) A S = absurd (not_refused_below r q S l)

  -- and any other is a refusal, with nothing changed
  pub build-refused : limit ≤ r → (q : Refusal) × Said r q × Refuses (build_checks n c tree matrix before) q × (after ≡ before)
  build-refused l = go O.answer O.answers O.told
    where
      go : (a : Result (Unit {0}) Refusal) → Builds n c tree matrix before after a → Tells (of_built a) r
          → (q : Refusal) × Said r q × Refuses (build_checks n c tree matrix before) q × (after ≡ before)
      go (Ok _) A S = absurd (no_number_above r 0 S l)
      go (Err q) (x, e) S = (q, refusal-said r q S, x, e)

-- ---- correct one cell

module _ (n c t j s : ℕ) (tree matrix : List ℕ) (before : Table) (matrix' : List ℕ) (after : Table) (r : ℕ)
    (O : CorrectOutcome n c t j s tree matrix before matrix' after r) where
  -- `badrumello_correct` answers a number below 2^32: it is the count, and the cell is corrected
  pub correct_answered : r < limit → Corrected n c t j s tree matrix before matrix' after r
  correct_answered l = go O.answer O.answers O.told
    where
      go : (a : Result ℕ Refusal) → Corrects n c t j s tree matrix before matrix' after a → Tells (of_count a) r
          → Corrected n c t j s tree matrix before matrix' after r
      go (Ok k) A S = subst (Corrected n c t j s tree matrix before matrix' after) (sym S.value) A
      go (Err q) A S = absurd (not_refused_below r q S l)

  -- and any other is a refusal, with nothing changed
  pub correct_refused : limit ≤ r
      → (q : Refusal) × Said r q × Refuses (correct_checks n c t j s tree matrix before) q × (matrix' ≡ matrix) × (after ≡ before)
  correct_refused l = go O.answer O.answers O.told
    where
      go : (a : Result ℕ Refusal) → Corrects n c t j s tree matrix before matrix' after a → Tells (of_count a) r
          → (q : Refusal) × Said r q × Refuses (correct_checks n c t j s tree matrix before) q × (matrix' ≡ matrix) × (after ≡ before)
      go (Ok k) A S = absurd (no_number_above r k S l)
      go (Err q) (x, e, f) S = (q, refusal-said r q S, x, e, f)

-- ---- the kept tree length

module _ (n c : ℕ) (tree matrix : List ℕ) (T : Table) (r : ℕ) (O : LengthOutcome n c tree matrix T r) where
  -- `badrumello_kept_length` answers a number below 2^32: it is the length
  pub length_answered : r < limit → HasLength n c tree matrix T r
  length_answered l = go O.answer O.answers O.told
    where
      go : (a : Result ℕ Refusal) → HasLengths n c tree matrix T a → Tells (of_length a) r → HasLength n c tree matrix T r
      go (Ok k) A S = subst (HasLength n c tree matrix T) (sym S.value) A
      go (Err q) A S = absurd (not_refused_below r q S l)

  -- and any other is a refusal
  pub length-refused : limit ≤ r → (q : Refusal) × Said r q × Refuses (length_checks n c tree matrix T) q
  length-refused l = go O.answer O.answers O.told
    where
      go : (a : Result ℕ Refusal) → HasLengths n c tree matrix T a → Tells (of_length a) r
          → (q : Refusal) × Said r q × Refuses (length_checks n c tree matrix T) q
      go (Ok k) A S = absurd (no_number_above r k S l)
      go (Err q) x S = (q, refusal-said r q S, x)

-- ---- one kept character

module _ (n c j : ℕ) (tree matrix : List ℕ) (T : Table) (lows highs lows' highs' : List ℕ) (r : ℕ)
    (O : KeptOutcome n c j tree matrix T lows highs lows' highs' r) where
  -- `badrumello_kept_character` answers a number below 2^32: it is the length, and the slices have the final ranges
  pub kept_answered : r < limit → HasFinals n c j tree matrix T lows highs lows' highs' r
  kept_answered l = go O.answer O.answers O.told
    where
      go : (a : Result ℕ Refusal) → AnswersKept n c j tree matrix T lows highs lows' highs' a → Tells (of_length a) r
          → HasFinals n c j tree matrix T lows highs lows' highs' r
      go (Ok k) A S = subst (HasFinals n c j tree matrix T lows highs lows' highs') (sym S.value) A
      go (Err q) A S = absurd (not_refused_below r q S l)

  -- and any other is a refusal, with nothing changed
  pub kept-refused : limit ≤ r
      → (q : Refusal) × Said r q × Refuses (kept_checks n c j tree matrix T lows highs) q × (lows' ≡ lows) × (highs' ≡ highs)
  kept-refused l = go O.answer O.answers O.told
    where
      go : (a : Result ℕ Refusal) → AnswersKept n c j tree matrix T lows highs lows' highs' a → Tells (of_length a) r
          → (q : Refusal) × Said r q × Refuses (kept_checks n c j tree matrix T lows highs) q × (lows' ≡ lows) × (highs' ≡ highs)
      go (Ok k) A S = absurd (no_number_above r k S l)
      go (Err q) (x, e, f) S = (q, refusal-said r q S, x, e, f)
