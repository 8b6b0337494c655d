-- The C functions of the kept table have one outcome each: from the contract alone, any two are equal, the number and what the lent slices hold afterwards.
-- One goes as the other.
-- Assumes nothing.
use mathlib.Core.Path.{◌≡◌, ap}
use mathlib.Core.List.{List}
use Prim.Native.Nat.{ℕ}
use Rattle.histories.specs.Kept.{Table}
use Rattle.histories.proofs.Unique as histories
use Rattle.answers.proofs.Reading.{same-told}
use Rattle.kept_answers.specs.Replies.{of_built, of_count, of_length}
use Rattle.outcomes.specs.Kept.{BuildOutcome, CorrectOutcome, LengthOutcome, KeptOutcome}

-- `badrumello_build`: the three slices and the number are one.
pub one_build_outcome : (n c : ℕ) (tree matrix : List ℕ) (before after after' : Table) (r r' : ℕ) → BuildOutcome n c tree matrix before after r
    → BuildOutcome n c tree matrix before after' r' → (after ≡ after') × (r ≡ r')
one_build_outcome n c tree matrix before after after' r r' O O' =
    let (e, p) = histories.build_outcome n c tree matrix before after after' O.answer O'.answer O.answers O'.answers in
    (p, same-told (of_built O.answer) (of_built O'.answer) r r' (ap of_built e) O.told O'.told)

-- `badrumello_correct`: the matrix, the three slices and the number are one.
pub one_correct_outcome : (n c t j s : ℕ) (tree matrix : List ℕ) (before : Table) (matrix' matrix'' : List ℕ) (after after' : Table) (r r' : ℕ)
    → CorrectOutcome n c t j s tree matrix before matrix' after r → CorrectOutcome n c t j s tree matrix before matrix'' after' r'
    → (matrix' ≡ matrix'') × (after ≡ after') × (r ≡ r')
one_correct_outcome n c t j s tree matrix before matrix' matrix'' after after' r r' O O' =
    let (e, p, q) =
    histories.correct_outcome n c t j s tree matrix before matrix' matrix'' after after' O.answer O'.answer O.answers O'.answers in
    (p, q, same-told (of_count O.answer) (of_count O'.answer) r r' (ap of_count e) O.told O'.told)

-- `badrumello_kept_length`: the number is one.
pub one_length_outcome : (n c : ℕ) (tree matrix : List ℕ) (table : Table) (r r' : ℕ) → LengthOutcome n c tree matrix table r
    → LengthOutcome n c tree matrix table r' → r ≡ r'
one_length_outcome n c tree matrix table r r' O O' =
    let e = histories.kept-length-answer n c tree matrix table O.answer O'.answer O.answers O'.answers in
    same-told (of_length O.answer) (of_length O'.answer) r r' (ap of_length e) O.told O'.told

-- `badrumello_kept_character`: the two slices of final ranges and the number are one.
pub one_kept_outcome : (n c j : ℕ) (tree matrix : List ℕ) (table : Table) (lows highs lows' highs' lows'' highs'' : List ℕ) (r r' : ℕ)
    → KeptOutcome n c j tree matrix table lows highs lows' highs' r → KeptOutcome n c j tree matrix table lows highs lows'' highs'' r'
    → (lows' ≡ lows'') × (highs' ≡ highs'') × (r ≡ r')
one_kept_outcome n c j tree matrix table lows highs lows' highs' lows'' highs'' r r' O O' =
    let (e, p, q) =
    histories.kept_character_outcome n c j tree matrix table lows highs lows' highs' lows'' highs'' O.answer O'.answer O.answers O'.answers in
    (p, q, same-told (of_length O.answer) (of_length O'.answer) r r' (ap of_length e) O.told O'.told)
