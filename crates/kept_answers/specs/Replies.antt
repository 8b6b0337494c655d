-- What the calls of the kept table reply: 0 for a table that is built, the count of a correction, a length; or a refusal.
-- Assumes nothing.
use Rattle.std.specs.Prelude.{ℕ, Result, Ok, Err}
use Rattle.refusals.specs.declared.Refusal.{Refusal}
use Rattle.answers.specs.Coded.{Reply}

-- 0 for a table that is built
abbrev pub of_built : Result (Unit {0}) Refusal → Reply
of_built (Ok _) = Ok 0
of_built (Err q) = Err q

-- the count of a correction
abbrev pub of_count : Result ℕ Refusal → Reply
of_count (Ok k) = Ok k
of_count (Err q) = Err q

-- a length
abbrev pub of_length : Result ℕ Refusal → Reply
of_length (Ok l) = Ok l
of_length (Err q) = Err q
