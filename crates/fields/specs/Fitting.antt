-- A text written into a list that has room for it, whatever its numbers are.
-- Assumes nothing.
use Rattle.std.specs.Prelude.{List, ℕ, ◌≤◌, length}
use Rattle.printing.specs.Writing.{Written}

-- a text is written, and has no more bytes than its room
pub record Fitting (before after : List ℕ) (at next : ℕ) (text : List ℕ) (room : ℕ) : Type 0 where
  pub written : Written before after at next text
  pub short : length text ≤ room
