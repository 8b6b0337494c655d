-- `climbs_out`: the mark k seen again is a round; an earlier mark leads out, and so does the root; else a turn marks one node more.
use native.Mathlib.Omega.{arith}
use mathlib.Core.Path.{◌∙◌, sym}
use Prim.Native.Nat.{◌≤◌, ◌<◌}
use lib.ListN.{length}
use Rattle.parsimony.proofs.Tables.Descendants.{entry_of}
use Rattle.climbs.proofs.Rounds.{blanks_fall, way_goes_on, goes_round, earlier_mark, leads_out}
use Rattle.climbs.proofs.climbs_out.Goals as goal
use Rattle.climbs.proofs.climbs_out.Goals.{At-loop-at}

-- the place of the climb is one of the table, and of the marks
small : (c : At-loop-at) → c.loop-at.at ≤ 510
small c = omega (arith, c.loop-at.invariant.most, c.requires.0.few)

inside : (c : At-loop-at) → c.loop-at.at < length c.loop-at.marks
inside c = omega (arith, small c, c.loop-at.invariant.long)

pub returns-then-mark-k : goal.returns-then-mark-k
returns-then-mark-k c =
    goes_round _ c.args.tree.now _ c.args.marks.now c.requires.1 _ c.loop-at.marks
    c.requires.3 c.loop-at.invariant (sym c.from-mark.ensures ∙ c.if-mark-k.true)

pub returns-then-mark-ne0 : goal.returns-then-mark-ne0
returns-then-mark-ne0 c =
    leads_out _ c.args.tree.now _ c.args.marks.now c.requires.1 _ c.loop-at.marks
    c.loop-at.invariant
    (earlier_mark _ c.args.tree.now _ c.args.marks.now c.requires.1 _ c.loop-at.marks
    c.loop-at.invariant
    (λ e. c.if-mark-ne0.true (c.from-mark.ensures ∙ e)) (λ e. c.if-mark-k.false (c.from-mark.ensures ∙ e)))

pub loop-at-smaller : goal.loop-at-smaller
loop-at-smaller c =
    blanks_fall c.loop-at.marks _ _ (inside (goal.at.loop-at-smaller c).At-loop-at)
    (sym c.from-mark.ensures ∙ c.if-mark-ne0.false) c.requires.2

pub loop-at-preserved : goal.loop-at-preserved
loop-at-preserved c =
    way_goes_on _ c.args.tree.now _ c.args.marks.now _ _ c.loop-at.marks
    c.requires.0 c.loop-at.invariant c.loop-at-test.true
    (c.from-at.ensures ∙ sym (entry_of c.args.tree.now _ c.loop-at.invariant.some))

pub returns : goal.returns
returns c =
    leads_out _ c.args.tree.now _ c.args.marks.now c.requires.1 _ c.loop-at.marks
    c.loop-at.invariant (0, c.loop-at-test.false)
