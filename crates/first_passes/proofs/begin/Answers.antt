-- `begin` is the first pass of a block of one character, which is then taken out of it.
use Rattle.std.proofs.Common.{rules}
use Rattle.first_passes.proofs.Beginning.{passable, ends-here, begun}
use Rattle.first_passes.proofs.begin.Goals as goal

pub first_pass-requires : goal.first_pass-requires
first_pass-requires c = passable c.requires.0 _ _ _ (search rules)

pub length_of-requires : goal.length_of-requires
length_of-requires c = ends-here c.requires.0 c.first_pass.ensures

pub returns : goal.returns
returns c = begun c.requires.0 c.first_pass.ensures c.take.ensures c.take-2.ensures c.take-3.ensures c.length_of.ensures
