-- The least length of a tree, from one of its tips and what stands above the tip: the paper's equation (16), for a cell of any number of states.
-- Assumes nothing.
use mathlib.Core.Path.{◌≡◌}
use mathlib.Core.List.{List, [], ◌∷◌}
use Prim.Native.Nat.{ℕ, ◌+◌, ◌≤◌}
use native.Mathlib.Omega.{arith}
use Rattle.parsimony.specs.Kind.{Kind, Laws, In}
use Rattle.parsimony.proofs.Rose.Shapes.{tip, node, one, Distinct}
use Rattle.parsimony.proofs.Rose.Lengths.{region, least, length_in, Allowed, lower, lowers}
use Rattle.parsimony.proofs.Rose.Painting.{with_top, some_shortest}
use Rattle.parsimony.proofs.Rose.Reroot.{Up, plug, up_rose, count-plug, off, off-plug, allowed_off, off_allowed, length-plug}

module _ (K : Kind) (cell : ℕ → K.Region) where
  open K use {State, Region, distance, away, join, cost, nearest}

  -- the tip's cell, and the region of what stands above it
  abbrev pub both : Up → ℕ → List Region
  both u v = cell v ∷ region K cell (up_rose u) ∷ []

  module _ (laws : Laws K) (u : Up) (v : ℕ) (d : Distinct (plug u (tip v))) where
    open laws use {either_way, away_by_way, nearest_in, nearest_far, join_in, join_out}

    distinct_up : Distinct (node v (one (up_rose u)))
    distinct_up m = omega (arith, d m, count-plug u (tip v) m)

    -- with a state of the cell at the tip, some way is this long
    at-state : (x : State) → In K x (cell v)
        → (w : ℕ → State) × Allowed K cell (plug u (tip v)) w
        × (length_in K cell (plug u (tip v)) w ≡ least K cell (up_rose u) + away x (region K cell (up_rose u))) × (w v ≡ x)
    at-state x h =
        let (w, ok, e, q) = with_top K cell laws v (one (up_rose u)) distinct_up x in
        let there : In K (w v) (cell v) = rw q h in (
          w,
          off_allowed K cell (plug u (tip v)) w
              (omega (arith, off-plug K cell u (tip v) w, allowed_off K cell (up_rose u) w ok, there)),
          omega (arith, e, length-plug K cell laws u (tip v) w),
          q,
        )

    -- and none is shorter
    not_shorter : (w : ℕ → State) → Allowed K cell (plug u (tip v)) w
        → In K (w v) (cell v)
        × (least K cell (up_rose u) + away (w v) (region K cell (up_rose u)) ≤ length_in K cell (plug u (tip v)) w)
    not_shorter w h =
        let z : off K cell (plug u (tip v)) w ≡ 0 = allowed_off K cell (plug u (tip v)) w h in
        let ok : Allowed K cell (up_rose u) w = off_allowed K cell (up_rose u) w (omega (arith, z, off-plug K cell u (tip v) w)) in (
          omega (arith, z, off-plug K cell u (tip v) w),
          omega (arith, lowers K cell laws (one (up_rose u)) w (w v) ok, length-plug K cell laws u (tip v) w),
        )

    -- some state is in the cell and in the join
    in_both : (x : State) × In K x (cell v) × In K x (join (both u v))
    in_both =
        let j : Region = join (both u v) in
        let z : State = nearest j K.some in
        let x : State = nearest (cell v) z in (
          x,
          nearest_in (cell v) z,
          omega (
            arith,
            join_in (cell v) (region K cell (up_rose u) ∷ []) z (nearest_in j K.some),
            join_out (cell v) (region K cell (up_rose u) ∷ []) x,
            nearest_in (cell v) z,
            nearest_far (cell v) z,
            away_by_way x z (region K cell (up_rose u)),
            either_way x z,
          ),
        )

    -- the least length, from the tip's cell and what stands above
    pub least-both : least K cell (plug u (tip v)) ≡ least K cell (up_rose u) + cost (both u v)
    least-both =
        let r : Region = region K cell (up_rose u) in
        let (x, own, joined) = in_both in
        let (w, ok, e, _) = at-state x own in
        let (w', ok', e') = some_shortest K cell laws (plug u (tip v)) d in
        let l = not_shorter w' ok' in
        omega (
          arith,
          lower K cell laws (plug u (tip v)) w ok,
          e,
          own,
          join_in (cell v) (r ∷ []) x joined,
          e',
          l.0,
          l.1,
          join_out (cell v) (r ∷ []) (w' v),
        )
