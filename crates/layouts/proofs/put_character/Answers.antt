-- `put_character` writes seven lines, one after another: the number, the length, the three that list the nodes, and the two indices. The rooms of
-- these four parts, 21 and 18 bytes, that of the nodes, and 60, make that of the whole: 119 bytes, and 30 for each node.
use native.Mathlib.Omega.{arith}
use lib.ListN.{length}
use Rattle.fields.proofs.Room.{looser, fitting-both}
use Rattle.layouts.specs.Rooms.{character_room}
use Rattle.layouts.proofs.put_character.Goals as goal

pub returns : goal.returns
returns c =
    rw (← c.from.ensures) (looser _ _ _ _ _ _ (character_room (length c.args.first_lows.now))
    (fitting-both _ _ _ _ _ _ _ _ _ _ c.put_count-second.ensures
    (fitting-both _ _ _ _ _ _ _ _ _ _ c.put_count-third.ensures
    (fitting-both _ _ _ _ _ _ _ _ _ _ c.put_nodes-sixth.ensures c.put_indices.ensures)))
    (omega arith))
