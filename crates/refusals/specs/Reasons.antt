-- Document 01's numbers of the reasons for which a call is refused.
-- Assumes nothing.
use Rattle.std.specs.Prelude.{◌≡◌, ℕ}
use Rattle.refusals.specs.declared.Reason.{Reason}
use Rattle.refusals.specs.declared.Reason.TheVariants.{Limits, Length, Root, Entry, Count, Lost, State, Character, Correction, Kept, Form, Long}
use Rattle.refusals.specs.declared.Refusal.{Refusal}

-- the number of a reason
abbrev pub number_of : Reason → ℕ
number_of Limits = 1
number_of Length = 2
number_of Root = 3
number_of Entry = 4
number_of Count = 5
number_of Lost = 6
number_of State = 7
number_of Character = 8
number_of Correction = 9
number_of Kept = 10
number_of Form = 11
number_of Long = 12

-- the number of a refusal
abbrev pub number : Refusal → ℕ
number r = number_of r.reason

-- what a reason is as a number
abbrev pub Numbered : Reason → ℕ → Type 0
Numbered reason number = number ≡ number_of reason
