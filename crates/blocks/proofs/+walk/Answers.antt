-- `walk`: a taxon's entries stand; of another node the two descendants are walked, one after the other, and then the node is settled.
use native.Mathlib.Omega.{arith}
use Rattle.blocks.proofs.Walks.{at-taxon, allowed_some, fork, walks-first, first_allowed, walks-second, second_allowed, settleable, finished}
use Rattle.blocks.proofs.+walk.Goals as goal

pub returns-then-node-n : goal.returns-then-node-n
returns-then-node-n t c = λ tree ρ δ W. at-taxon W c.if-node-n.true

pub overflow_sub-allowed : goal.overflow_sub-allowed
overflow_sub-allowed t c = allowed_some c.requires.walks c.requires.allows

pub walk-requires : goal.walk-requires
walk-requires t c =
    let q = c.requires in
    let lo = c.if-node-n.false in
    let F = fork q.walks lo c.from-a.ensures c.from-b.ensures in (
      omega (arith, allowed_some q.walks q.allows),
      record { tree = q.tree; ρ = q.ρ; δ = q.δ; walks = walks-first q.walks lo F; allows = first_allowed q.walks lo F _ q.allows },
    )

pub overflow_sub-allowed-2 : goal.overflow_sub-allowed-2
overflow_sub-allowed-2 t c = allowed_some c.requires.walks c.requires.allows

pub walk-requires-2 : goal.walk-requires-2
walk-requires-2 t c =
    let q = c.requires in
    let lo = c.if-node-n.false in
    let F = fork q.walks lo c.from-a.ensures c.from-b.ensures in
    let A = c.walk.ensures q.tree q.ρ q.δ (walks-first q.walks lo F) in (
      omega (arith, allowed_some q.walks q.allows),
      record { tree = q.tree; ρ = q.ρ; δ = q.δ; walks = walks-second q.walks lo F A; allows = second_allowed q.walks lo F A _ q.allows },
    )

pub settle-requires : goal.settle-requires
settle-requires t c =
    let q = c.requires in
    let lo = c.if-node-n.false in
    let F = fork q.walks lo c.from-a.ensures c.from-b.ensures in
    let A = c.walk.ensures q.tree q.ρ q.δ (walks-first q.walks lo F) in
    settleable q.walks lo F A (c.walk-2.ensures q.tree q.ρ q.δ (walks-second q.walks lo F A))

pub returns : goal.returns
returns t c =
    λ tree ρ δ W.
    let lo = c.if-node-n.false in
    let F = fork W lo c.from-a.ensures c.from-b.ensures in
    let A = c.walk.ensures tree ρ δ (walks-first W lo F) in
    finished W lo F A (c.walk-2.ensures tree ρ δ (walks-second W lo F A)) c.settle.ensures
