-- `put_range` writes the low end, a hyphen and the high end.
use Rattle.printing.proofs.Laws.{written_both}
use Rattle.listings.proofs.put_range.Goals as goal

pub returns : goal.returns
returns c =
    rw (← c.from.ensures, ← c.from-2.ensures) (written_both _ _ _ _ _ _ _ _ c.put_number-hyphen.ensures
    (written_both _ _ _ _ _ _ _ _ c.put_byte-second.ensures c.put_number.ensures))
