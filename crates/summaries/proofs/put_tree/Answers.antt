-- `put_tree` writes six lines, one after another: n, c and the length, the two indices, and the choice. The rooms of these five parts, 16, 22, 18, 60
-- and 16 bytes, make 132.
use Rattle.fields.proofs.Room.{fitting-both}
use Rattle.summaries.proofs.put_tree.Goals as goal

pub returns : goal.returns
returns c =
    fitting-both _ _ _ _ _ _ _ _ _ _ (rw c.from.ensures at c.put_count-second.ensures)
    (fitting-both _ _ _ _ _ _ _ _ _ _ (rw c.from-2.ensures at c.put_count-third.ensures)
    (fitting-both _ _ _ _ _ _ _ _ _ _ c.put_count-fourth.ensures
    (fitting-both _ _ _ _ _ _ _ _ _ _ c.put_indices-sixth.ensures c.put_resolve.ensures)))
