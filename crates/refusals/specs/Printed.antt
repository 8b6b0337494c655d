-- How a refusal is printed.
-- Assumes nothing.
use Rattle.std.specs.Prelude.{List, ◌∷◌, ◌++◌, ℕ}
use Rattle.std.specs.Fmt.{decimal}
use Rattle.refusals.specs.declared.Refusal.{Refusal}
use Rattle.refusals.specs.Reasons.{number}

-- its number and its place, with a comma between
abbrev pub refusal_text : Refusal → List ℕ
refusal_text r = decimal (number r) ++ 44 ∷ decimal r.place
