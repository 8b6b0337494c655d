-- What the lines for the tree and the line of a refusal are given, and the room of each: no part has more bytes, whatever its numbers are.
-- Assumes nothing.
use Rattle.std.specs.Prelude.{ℕ}
use Rattle.scores.specs.declared.Scores.{Scores}
use Rattle.fields.specs.Proper.{Proper}

-- both indices are at most 1
pub record Indexed (s : Scores) : Type 0 where
  pub ci : Proper s.ci
  pub ri : Proper s.ri

-- the room of the two indices: for each a key of 3 bytes, two numbers of 10 digits, a third of 4, two bytes between, and LF
abbrev pub index_room : ℕ
index_room = 60

-- the room of the lines for the tree: 16, 22 and 18 bytes, the indices, and 16
abbrev pub tree_room : ℕ
tree_room = 132

-- the room of a refusal: 8, 10, 1, 10 and 1 bytes
abbrev pub refused_room : ℕ
refused_room = 30
