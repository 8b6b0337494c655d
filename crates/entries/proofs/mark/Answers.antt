-- `mark`: before the first node nothing is marked.
use Rattle.entries.proofs.Searching.{marked_none}
use Rattle.entries.proofs.mark.Goals as goal

pub loop-node-init : goal.loop-node-init
loop-node-init c = marked_none _ c.args.path.now
