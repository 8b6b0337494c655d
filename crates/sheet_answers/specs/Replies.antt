-- What the calls about sheets reply: 0 for a sheet that is read, the number of bytes of a report; or a refusal. And the slice of three numbers.
-- Assumes nothing.
use Rattle.std.specs.Prelude.{◌≡◌, List, [], ◌∷◌, ℕ, ◌≤◌, Result, Ok, Err}
use Rattle.refusals.specs.declared.Refusal.{Refusal}
use Rattle.refusals.specs.Checks.{Slice}
use Rattle.choices.specs.declared.Resolve.{Resolve}
use Rattle.choices.specs.declared.Resolve.TheVariants.{Acctran, Deltran}
use Rattle.bodies.specs.declared.Head.{Head}
use Rattle.answers.specs.Coded.{Reply, Tells}

-- ---- reading a sheet

-- 0 for a sheet that is read
abbrev pub of_sheet : Result Head Refusal → Reply
of_sheet (Ok h) = Ok 0
of_sheet (Err q) = Err q

-- the choice as a number, which `resolve_of` takes back
abbrev pub number_of : Resolve → ℕ
number_of Acctran = 0
number_of Deltran = 1

-- the three numbers: n, c, the choice
abbrev pub three : (n c : ℕ) → Resolve → List ℕ
three n c r = n ∷ c ∷ number_of r ∷ []

-- what the result slice holds then: the three numbers, or what it held before
abbrev pub three_after : Result Head Refusal → List ℕ → List ℕ
three_after (Ok h) before = three h.n h.c h.resolve
three_after (Err q) before = before

-- a caller is given this answer
pub record GivesSheet (a : Result Head Refusal) (before after : List ℕ) (r : ℕ) : Type 0 where
  pub told : Tells (of_sheet a) r
  pub results : after ≡ three_after a before

-- tree 1, matrix 2, result 3, by their lengths
abbrev pub sheet_slices : (tree matrix result : ℕ) → List Slice
sheet_slices tree matrix result = record { has = tree; asked = 510 } ∷ record { has = matrix; asked = 16384 } ∷ record { has = result; asked = 3 } ∷ []

-- ---- the report of a sheet

-- the number of bytes of a report
abbrev pub of_report : Result ℕ Refusal → Reply
of_report (Ok size) = Ok size
of_report (Err q) = Err q

-- a report has at most as many bytes as its slice
abbrev pub Short : Result ℕ Refusal → Type 0
Short (Ok size) = size ≤ 524288
Short (Err q) = Unit {0}
