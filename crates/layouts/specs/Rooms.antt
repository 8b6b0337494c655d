-- What the lines for a character are given, and the room of its parts: none has more bytes, whatever its numbers are.
-- Assumes nothing.
use Rattle.std.specs.Prelude.{◌≡◌, List, ℕ, ◌+◌, ◌*◌, ◌<◌, length}

-- the room of the lines that list w interior nodes: for each node 12, 12 and 6 bytes; and 7, 5 and 8
abbrev pub node_room : ℕ → ℕ
node_room w = 20 + 30 * w

-- the room of the lines for a character: 21 and 18 bytes, its nodes, and the indices
abbrev pub character_room : ℕ → ℕ
character_room w = 119 + 30 * w

-- five lists have an entry for each interior node, of which there are some: the ends of the first-pass ranges, those of the final ranges, and the
-- chosen states
pub record Lists (firstLows firstHighs finalLows finalHighs chosen : List ℕ) : Type 0 where
  pub some : 0 < length firstLows
  pub first_high : length firstLows ≡ length firstHighs
  pub final_low : length finalLows ≡ length firstLows
  pub final_high : length finalLows ≡ length finalHighs
  pub states : length chosen ≡ length firstLows
