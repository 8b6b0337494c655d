-- `take_character`: each of the three lists has what the block has at the nodes.
use Rattle.entry_lists.proofs.Passed.{taken}
use Rattle.tables.proofs.take_character.Goals as goal

pub returns : goal.returns
returns c =
    record {
      low_ends = taken c.requires.0.some c.take.ensures;
      high_ends = taken c.requires.0.some c.take-2.ensures;
      below = taken c.requires.0.some c.take-3.ensures;
    }
