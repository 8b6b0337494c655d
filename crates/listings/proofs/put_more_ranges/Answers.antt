-- `put_more_ranges` writes a comma and a range at each turn, and both have room, since what is still to be written begins with them and has its own.
-- At the end of the loop nothing is left to write.
use mathlib.Core.List.{List, ◌++◌}
use Prim.Native.Nat.{ℕ, ◌+◌, ◌≤◌}
use lib.ListN.{length, get_or}
use Rattle.fields.specs.Fields as fields
use Rattle.fields.proofs.Pieces.{room-first, room-rest}
use Rattle.listings.specs.Ranges as text
use Rattle.listings.proofs.Ranges.{step_room, stepped, ended}
use Rattle.listings.proofs.put_more_ranges.Goals as goal
use Rattle.listings.proofs.put_more_ranges.Goals.{In-loop-k}

-- the range of this turn
abbrev this : In-loop-k → List ℕ
this c = text.range (get_or c.args.lows.now c.loop-k.k 0) (get_or c.args.highs.now c.loop-k.k 0)

room : (c : In-loop-k) → c.loop-k.next + length (fields.byte 44 ++ this c) ≤ length c.loop-k.out
room c =
    step_room c.args.out.now c.args.at c.args.lows.now c.args.highs.now c.requires.1 c.loop-k.out c.loop-k.next c.loop-k.k c.loop-k.invariant
    c.loop-k-test.true

pub put_byte-first-requires : goal.put_byte-first-requires
put_byte-first-requires c =
    let turn = (goal.at.put_byte-first-requires c).In-loop-k in
    room-first _ (fields.byte 44) (this turn) _ (room turn)

pub put_range-next-requires : goal.put_range-next-requires
put_range-next-requires c =
    let turn = (goal.at.put_range-next-requires c).In-loop-k in
    room-rest _ _ _ _ (fields.byte 44) (this turn) c.put_byte-first.ensures (room turn)

pub loop-k-preserved : goal.loop-k-preserved
loop-k-preserved c =
    stepped c.args.out.now c.args.at c.args.lows.now c.args.highs.now c.requires.1 c.loop-k.out c.loop-k.next c.loop-k.k c.loop-k.invariant
    c.loop-k-test.true _ _ _ _ c.put_byte-first.ensures c.put_range-next.ensures

pub returns : goal.returns
returns c =
    ended c.args.out.now c.args.at c.args.lows.now c.args.highs.now c.requires.1 c.loop-k.out c.loop-k.next c.loop-k.k c.loop-k.invariant
    c.loop-k-test.false
