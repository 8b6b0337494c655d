-- What each C function answers. Scores are those of the call behind it; its refusals are by the call's checks, with the result slice as the last of
-- the slices.
-- Assumes nothing.
use Rattle.std.specs.Prelude.{◌≡◌, List, [], ◌∷◌, ◌++◌, ℕ, ◌-◌, ◌*◌, length, Option, unwrap_or, Result, Ok, Err}
use Rattle.refusals.specs.declared.Reason.TheVariants.{Length}
use Rattle.refusals.specs.declared.Refusal.{Refusal}
use Rattle.refusals.specs.Checks.{Check, at, Refuses, Slice, slices}
use Rattle.choices.specs.declared.Resolve.{Resolve}
use Rattle.limits.specs.Limits.{Outside}
use Rattle.checks.specs.Calls.{character_checks, matrix_checks}
use Rattle.scores.specs.declared.Scores.{Scores}
use Rattle.scores.specs.Scores.{Results}
use Rattle.characters.specs.Afresh.{result_slices, OneAnswers, AllAnswers}
use Rattle.answers.specs.Coded.{Gives, resolve_of}

-- ---- the result slice

-- a slice of seven numbers
abbrev pub seven_slice : (has : ℕ) → Slice
seven_slice has = record { has = has; asked = 7 }

-- 2, where the last slice is wrong: of those before it the first that is wrong, or else the last
abbrev pub last_wrong : (earlier : Option ℕ) (last : ℕ) → Refusal
last_wrong earlier last = record { reason = Length; place = unwrap_or earlier last }

-- 1 and 2
abbrev pub size_checks : (n c : ℕ) → List Slice → List {1} Check
size_checks n c ss = at 1 0 (Outside n c) ∷ slices 1 ss

-- tree and matrix, by their lengths, and the rest
abbrev pub lent : (n c tree matrix : ℕ) → List Slice → List Slice
lent n c tree matrix rest = record { has = tree; asked = 2 * n - 2 } ∷ record { has = matrix; asked = n * c } ∷ rest

-- ---- all characters: tree 1, matrix 2, result 3

-- scores as `all_characters` answers them, and a result slice of seven; or a refusal by its checks, with the result slice among them
abbrev pub TreeAnswers : (n c : ℕ) (tree matrix result : List ℕ) → Result Scores Refusal → Type 0
TreeAnswers n c tree matrix result (Ok s) = (length result ≡ 7) × AllAnswers n c tree matrix (Ok s)
TreeAnswers n c tree matrix result (Err q) = Refuses (matrix_checks n c tree matrix (seven_slice (length result) ∷ [])) q

pub record TreeOutcome (n c : ℕ) (tree matrix result result' : List ℕ) (r : ℕ) : Type 0 where
  pub answer : Result Scores Refusal
  pub answers : TreeAnswers n c tree matrix result answer
  pub gives : Gives answer result result' r

-- ---- one character: tree 1, matrix 2, the six slices of `Results` 3 to 8, result 9

-- the same of `one_character`; a refusal changes none of the six slices
abbrev pub CharacterAnswers : (n c j : ℕ) → Resolve → (tree matrix : List ℕ) (before after : Results) (result : List ℕ) → Result Scores Refusal → Type 0
CharacterAnswers n c j resolve tree matrix before after result (Ok s) =
    (length result ≡ 7) × OneAnswers n c j resolve tree matrix before after (Ok s)
CharacterAnswers n c j resolve tree matrix before after result (Err q) =
    Refuses (character_checks n c j tree matrix (result_slices n before ++ (seven_slice (length result) ∷ []))) q × (after ≡ before)

pub record CharacterOutcome (n c j resolve : ℕ) (tree matrix : List ℕ) (before after : Results) (result result' : List ℕ) (r : ℕ) : Type 0 where
  pub answer : Result Scores Refusal
  pub answers : CharacterAnswers n c j (resolve_of resolve) tree matrix before after result answer
  pub gives : Gives answer result result' r
