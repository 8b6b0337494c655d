-- `indices::m` meets its contract: of the taxa passed, with the first, the lowest and the highest state are held.
use mathlib.Core.Path.{◌≡◌}
use Rattle.parsimony.specs.Lists.{from}
use Rattle.parsimony.specs.Matrix.{state_of}
use Rattle.parsimony.specs.Index as index
use Rattle.indices.proofs.m.Given as goal

abbrev pub invariant-loop-t : goal.invariant-loop-t
invariant-loop-t l = (l.lowest ≡ index.lowest (state_of l.matrix l.c l.character) 1 (from 1 l.t))
    × (l.highest ≡ index.highest (state_of l.matrix l.c l.character) 1 (from 1 l.t))
