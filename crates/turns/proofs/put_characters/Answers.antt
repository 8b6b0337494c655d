-- `put_characters`: a turn writes the lines of one character more.
use Rattle.turns.proofs.Writing.{turned_none, turned_more}
use Rattle.turns.proofs.put_characters.Goals as goal

pub loop-j-init : goal.loop-j-init
loop-j-init c = turned_none c.args.n c.args.c c.args.resolve c.args.tree.now c.args.matrix.now c.args.out.now c.args.at

pub loop-j-preserved : goal.loop-j-preserved
loop-j-preserved c =
    let (results, O) = c.put_one-next.ensures in
    turned_more c.args.n c.args.c c.args.resolve c.args.tree.now c.args.matrix.now c.args.out.now c.args.at
    c.loop-j.out c.loop-j.next c.loop-j.j c.loop-j.invariant results _ _ O
