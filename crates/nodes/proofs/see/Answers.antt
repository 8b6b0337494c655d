-- `see` reads the root's state, or joins what the sister has with what the ancestor sees.
use native.Mathlib.Omega.{arith}
use mathlib.Core.Path.{◌≡◌, sym, ◌∙◌}
use Prim.Native.Nat.{◌<◌}
use Rattle.parsimony.specs.Table.{ancestor}
use Rattle.parsimony.proofs.Tables.Descendants.{entry_of}
use Rattle.nodes.proofs.Reading.{sees_root, up_inner, sister_readable, above-fits, sees_join}
use Rattle.nodes.proofs.see.Goals as goal
use Rattle.nodes.proofs.see.Goals.{After-from}

-- the ancestor that was read
up : (c : After-from) → c.from.result ≡ ancestor c.args.tree.now c.args.node
up c = c.from.ensures ∙ sym (entry_of c.args.tree.now _ (omega (arith, c.requires.inner)))

inner : (c : After-from) → c.args.n < c.from.result
inner c = up_inner c.requires c.if-node-top.false _ (up c)

pub returns-then-node-top : goal.returns-then-node-top
returns-then-node-top c = sees_root c.requires c.if-node-top.true _ c.state_of-state.ensures

pub overflow_sub-at : goal.overflow_sub-at
overflow_sub-at c = omega (arith, inner (goal.at.overflow_sub-at c).After-from)

pub overflow_sub-at-2 : goal.overflow_sub-at-2
overflow_sub-at-2 c = omega (arith, inner (goal.at.overflow_sub-at-2 c).After-from)

pub range_at-beside-requires : goal.range_at-beside-requires
range_at-beside-requires c =
    sister_readable c.requires c.if-node-top.false _ (up (goal.at.range_at-beside-requires c).After-from) _ _ c.from-2.ensures
    c.from-3.ensures _ c.other_of-sister.ensures

pub join-requires : goal.join-requires
join-requires c = (
  c.range_at-beside.ensures.fits,
  above-fits c.requires c.if-node-top.false _ (up (goal.at.join-requires c).After-from) _ _ c.from-2.ensures c.from-3.ensures,
)

pub returns : goal.returns
returns c =
    sees_join c.requires c.if-node-top.false _ (up (goal.at.returns c).After-from) _ _ c.from-2.ensures c.from-3.ensures
    _ c.other_of-sister.ensures _ _ c.range_at-beside.ensures c.join.ensures
