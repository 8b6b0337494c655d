-- `fill_table` works out the shape of the tree once, and builds: a stretch is n-2 entries wide, and a turn takes one character more into its own.
use native.Mathlib.Omega.{arith}
use Rattle.shapes.proofs.Ready.{ready}
use Rattle.tables.proofs.Building.{builds, builds_at, block_takes, ends_in, built-on, builds_on, table-means}
use Rattle.tables.proofs.fill_table.Goals as goal

pub descendants-shape-requires : goal.descendants-shape-requires
descendants-shape-requires c = ready c.requires.0.sized c.requires.0.accepted

pub slice_bounds-take_character-end : goal.slice_bounds-take_character-end
slice_bounds-take_character-end c =
    let B = builds_at {k' = c.loop-done.done} (omega arith) c.loop-done.invariant in
    let S = block_takes (builds c.requires c.descendants-shape.ensures) B c.width-w.ensures c.first_pass.ensures in
    (ends_in S c.loop-i-test.true c.loop-i.invariant).0

pub loop-i-preserved : goal.loop-i-preserved
loop-i-preserved c =
    let B = builds_at {k' = c.loop-done.done} (omega arith) c.loop-done.invariant in
    let S = block_takes (builds c.requires c.descendants-shape.ensures) B c.width-w.ensures c.first_pass.ensures in
    built-on S c.loop-i-test.true c.loop-i.invariant c.take_character.ensures (omega arith)

pub loop-done-preserved : goal.loop-done-preserved
loop-done-preserved c =
    let B = builds_at {k' = c.loop-done.done} (omega arith) c.loop-done.invariant in
    let after = builds_on (builds c.requires c.descendants-shape.ensures) B c.width-w.ensures c.first_pass.ensures (omega arith) c.loop-i.invariant in
    builds_at (omega arith) after

pub returns : goal.returns
returns c = table-means (builds c.requires c.descendants-shape.ensures) c.loop-done.invariant (omega arith)

pub returns-2 : goal.returns-2
returns-2 c =
    let B = builds_at {k' = c.loop-done.done} (omega arith) c.loop-done.invariant in
    table-means (builds c.requires c.descendants-shape.ensures)
    (builds_on (builds c.requires c.descendants-shape.ensures) B c.width-w.ensures c.first_pass.ensures (omega arith) c.loop-i.invariant) (omega arith)
