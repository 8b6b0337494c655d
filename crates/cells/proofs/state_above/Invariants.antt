-- `cells::state_above` finds the lowest cell above 9999. Nothing is found while a loop goes on: no cell up to the present one is above, in the
-- outer loop the t · c cells of the rows passed, in the inner one j cells more.
use mathlib.Core.Path.{◌≡◌}
use Prim.Native.Nat.{◌+◌, ◌*◌}
use Rattle.std.specs.Prelude.{None}
use Rattle.refusals.specs.Search.{Never}
use Rattle.cells.specs.Above.{AboveAt}
use Rattle.cells.proofs.state_above.Given as goal

abbrev pub invariant-loop-j : goal.invariant-loop-j
invariant-loop-j l = (l.found ≡ None) × Never (AboveAt l.matrix) (l.t * l.c + l.j)

abbrev pub invariant-search : goal.invariant-search
invariant-search l = (l.found ≡ None) × Never (AboveAt l.matrix) (l.t * l.c)
