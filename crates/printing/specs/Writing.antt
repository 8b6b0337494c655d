-- A text written into a list from a position on.
-- Assumes nothing.
use Rattle.std.specs.Prelude.{◌≡◌, List, ℕ, ◌+◌, length}
use Rattle.std.proofs.lemmas.List.Edits.{sets}

-- The text stands in the list from `at` on, and everything else is as it was; `next` is the position after it.
pub record Written (before after : List ℕ) (at next : ℕ) (text : List ℕ) : Type 0 where
  pub list : after ≡ sets before at text
  pub next_is : next ≡ at + length text
