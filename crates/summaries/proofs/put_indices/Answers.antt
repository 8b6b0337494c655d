-- `put_indices` writes two lines, one after the other: CI, then RI. Each has a room of 30 bytes.
use Rattle.fields.proofs.Room.{fitting-both}
use Rattle.summaries.proofs.put_indices.Goals as goal

pub returns : goal.returns
returns c = fitting-both _ _ _ _ _ _ _ _ _ _ c.put_index-next.ensures c.put_index.ensures
