-- An answer in C's way: for each case of the answer one 64-bit number, and what the slice of seven numbers holds. A call that has no scores has a reply,
-- a number or a refusal.
-- Assumes nothing.
use Rattle.std.specs.Prelude.{◌≡◌, List, [], ◌∷◌, ℕ, zero, suc, ◌+◌, ◌*◌, ◌<◌, Option, Some, None, Result, Ok, Err}
use Rattle.refusals.specs.declared.Refusal.{Refusal}
use Rattle.refusals.specs.Reasons.{number}
use Rattle.indices.specs.declared.Fraction.{Fraction}
use Rattle.choices.specs.declared.Resolve.{Resolve}
use Rattle.choices.specs.declared.Resolve.TheVariants.{Acctran, Deltran}
use Rattle.scores.specs.declared.Scores.{Scores}

-- 2^32: an answer is below it, and a refusal is not
abbrev pub limit : ℕ
limit = 4294967296

-- a refusal: 2^32 times its number, and its place
abbrev pub code : Refusal → ℕ
code q = number q * 4294967296 + q.place

-- what stands over the line of an index; 0 if there is none
abbrev pub over : Option Fraction → ℕ
over (Some f) = f.over
over None = 0

-- what stands under it; 0 says that there is no index
abbrev pub under : Option Fraction → ℕ
under (Some f) = f.under
under None = 0

-- the seven numbers: length, m, g, CI over, CI under, RI over, RI under
abbrev pub seven : Scores → List ℕ
seven s = s.length ∷ s.m ∷ s.g ∷ over s.ci ∷ under s.ci ∷ over s.ri ∷ under s.ri ∷ []

-- what is answered: the length, or the refusal
abbrev pub value : Result Scores Refusal → ℕ
value (Ok s) = s.length
value (Err q) = code q

-- what the result slice holds then: the seven numbers, or what it held before
abbrev pub results : Result Scores Refusal → List ℕ → List ℕ
results (Ok s) before = seven s
results (Err q) before = before

-- a length and a place are below 2^32
abbrev pub Fits : Result Scores Refusal → Type 0
Fits (Ok s) = s.length < 4294967296
Fits (Err q) = q.place < 4294967296

-- a caller is given this answer
pub record Gives (a : Result Scores Refusal) (before after : List ℕ) (r : ℕ) : Type 0 where
  pub fits : Fits a
  pub value : r ≡ value a
  pub results : after ≡ results a before

-- ---- a call without scores

-- what it answers: a number, or a refusal
abbrev pub Reply : Type 0
Reply = Result ℕ Refusal

-- as one number: itself, or the refusal
abbrev pub coded : Reply → ℕ
coded (Ok k) = k
coded (Err q) = code q

-- a number and a place are below 2^32
abbrev pub Small : Reply → Type 0
Small (Ok k) = k < 4294967296
Small (Err q) = q.place < 4294967296

-- a caller is told this reply
pub record Tells (a : Reply) (r : ℕ) : Type 0 where
  pub fits : Small a
  pub value : r ≡ coded a

-- ---- the choice

-- 0 is ACCTRAN, any other number DELTRAN
abbrev pub resolve_of : ℕ → Resolve
resolve_of zero = Acctran
resolve_of (suc k) = Deltran
