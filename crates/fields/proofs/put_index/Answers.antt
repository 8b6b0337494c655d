-- `put_index` writes a key, an index and LF.
use Rattle.fields.proofs.Room.{whole, fitting-both}
use Rattle.fields.proofs.put_index.Goals as goal

pub returns : goal.returns
returns c =
    fitting-both _ _ _ _ _ _ _ _ _ _ (whole _ _ _ _ _ c.put_bytes-value.ensures)
    (fitting-both _ _ _ _ _ _ _ _ 26 1 c.put_value-end.ensures (whole _ _ _ _ _ c.put_byte.ensures))
