-- `put_bytes`: a turn writes one byte more, and the slice stays as long as it was.
use lib.ListN.{length-set}
use Rattle.printing.proofs.Laws.{bytes_more}
use Rattle.printing.proofs.put_bytes.Goals as goal

pub loop-k-preserved : goal.loop-k-preserved
loop-k-preserved c = (
  simp length-set c.loop-k.invariant.0,
  bytes_more c.loop-k.out c.args.out.now c.args.at c.args.text.now c.loop-k.k c.loop-k-test.true c.loop-k.invariant.1,
)
