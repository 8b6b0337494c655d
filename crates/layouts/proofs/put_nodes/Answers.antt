-- `put_nodes` writes three lines, one after another. Their lists have room for 12, 12 and 6 bytes for each entry, and their keys with LF take 7, 5 and 8.
-- All lists have an entry for each node, so the room of the three is 30 bytes for each node, and 20.
use native.Mathlib.Omega.{arith}
use lib.ListN.{length}
use Rattle.fields.proofs.Room.{looser, fitting-both}
use Rattle.layouts.specs.Rooms.{node_room}
use Rattle.layouts.proofs.put_nodes.Goals as goal

pub returns : goal.returns
returns c =
    looser _ _ _ _ _ _ (node_room (length c.args.first_lows.now))
    (fitting-both _ _ _ _ _ _ _ _ _ _ c.put_ranges-second.ensures
    (fitting-both _ _ _ _ _ _ _ _ _ _ c.put_ranges-third.ensures c.put_list.ensures))
    (omega arith)
