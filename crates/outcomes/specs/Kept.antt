-- What the C functions about the kept table answer: the slices are those of the call behind each, in its order, so each answers what that call does,
-- as one number.
-- Assumes nothing.
use Rattle.std.specs.Prelude.{List, ℕ, Result}
use Rattle.refusals.specs.declared.Refusal.{Refusal}
use Rattle.histories.specs.Kept.{Table, Builds, Corrects, HasLengths, AnswersKept}
use Rattle.answers.specs.Coded.{Tells}
use Rattle.kept_answers.specs.Replies.{of_built, of_count, of_length}

pub record BuildOutcome (n c : ℕ) (tree matrix : List ℕ) (before after : Table) (r : ℕ) : Type 0 where
  pub answer : Result (Unit {0}) Refusal
  pub answers : Builds n c tree matrix before after answer
  pub told : Tells (of_built answer) r

-- the taxon t gets the state s for the character j
pub record CorrectOutcome (n c t j s : ℕ) (tree matrix : List ℕ) (before : Table) (matrix' : List ℕ) (after : Table) (r : ℕ) : Type 0 where
  pub answer : Result ℕ Refusal
  pub answers : Corrects n c t j s tree matrix before matrix' after answer
  pub told : Tells (of_count answer) r

pub record LengthOutcome (n c : ℕ) (tree matrix : List ℕ) (table : Table) (r : ℕ) : Type 0 where
  pub answer : Result ℕ Refusal
  pub answers : HasLengths n c tree matrix table answer
  pub told : Tells (of_length answer) r

-- the final ranges of the character j are written to two slices
pub record KeptOutcome (n c j : ℕ) (tree matrix : List ℕ) (table : Table) (lows highs lows' highs' : List ℕ) (r : ℕ) : Type 0 where
  pub answer : Result ℕ Refusal
  pub answers : AnswersKept n c j tree matrix table lows highs lows' highs' answer
  pub told : Tells (of_length answer) r
