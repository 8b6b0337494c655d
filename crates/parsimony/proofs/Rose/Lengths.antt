-- The first pass on a tree: its region and its least length. No allowed way is shorter, and the way of nearest states is as short.
-- This is the paper's Basic Lemma, for any kind of character and any number of branches.
-- Assumes nothing.
use mathlib.Core.Path.{◌≡◌, refl}
use mathlib.Core.List.{List, [], ◌∷◌}
use Prim.Native.Nat.{ℕ, ◌+◌, ◌≤◌}
use native.Mathlib.Omega.{arith}
use Rattle.parsimony.specs.Kind.{Kind, Laws, In, total}
use Rattle.parsimony.proofs.Rose.Shapes.{Rose, Roses, tip, node, one, more, top}

module _ (K : Kind) (cell : ℕ → K.Region) where
  open K use {State, Region, distance, away, join, cost, nearest}

  -- the first pass: the region of a tree, and of each tree of a list
  abbrev mutual
    pub region : Rose → Region
    region (tip k) = cell k
    region (node k f) = join (regions f)

    pub regions : Roses → List Region
    regions (one t) = region t ∷ []
    regions (more t f) = region t ∷ regions f

  -- its length
  abbrev mutual
    pub least : Rose → ℕ
    least (tip k) = 0
    least (node k f) = leasts f + cost (regions f)

    pub leasts : Roses → ℕ
    leasts (one t) = least t
    leasts (more t f) = least t + leasts f

  -- the length of a way in a tree; of a list, with the branches to a state x above it
  abbrev mutual
    pub length_in : Rose → (ℕ → State) → ℕ
    length_in (tip k) w = 0
    length_in (node k f) w = lengths_in f w (w k)

    pub lengths_in : Roses → (ℕ → State) → State → ℕ
    lengths_in (one t) w x = distance x (w (top t)) + length_in t w
    lengths_in (more t f) w x = distance x (w (top t)) + length_in t w + lengths_in f w x

  -- a way is allowed: each tip's state is in its cell
  abbrev mutual
    pub Allowed : Rose → (ℕ → State) → Type 0
    Allowed (tip k) w = In K (w k) (cell k)
    Allowed (node k f) w = AllAllowed f w

    pub AllAllowed : Roses → (ℕ → State) → Type 0
    AllAllowed (one t) w = Allowed t w
    AllAllowed (more t f) w = Allowed t w × AllAllowed f w

  -- each node below the top has the state of its region nearest the state above it
  abbrev mutual
    pub Accelerated : Rose → (ℕ → State) → Type 0
    Accelerated (tip k) w = Unit {0}
    Accelerated (node k f) w = AllAccelerated f w (w k)

    pub AllAccelerated : Roses → (ℕ → State) → State → Type 0
    AllAccelerated (one t) w x = (w (top t) ≡ nearest (region t) x) × Accelerated t w
    AllAccelerated (more t f) w x = (w (top t) ≡ nearest (region t) x) × Accelerated t w × AllAccelerated f w x

  module _ (laws : Laws K) where
    open laws use {away_by_way, nearest_in, nearest_far, join_in, join_out}

    -- the laws of a join, at the regions of a list
    joins_out : (f : Roses) (x : State) → cost (regions f) + away x (join (regions f)) ≤ total K x (regions f)
    joins_out (one t) x = join_out (region t) [] x
    joins_out (more t f) x = join_out (region t) (regions f) x

    joins_in : (f : Roses) (x : State) → In K x (join (regions f)) → total K x (regions f) ≡ cost (regions f)
    joins_in (one t) x h = join_in (region t) [] x h
    joins_in (more t f) x h = join_in (region t) (regions f) x h

    -- no allowed way is shorter
    mutual
      pub lower : (t : Rose) (w : ℕ → State) → Allowed t w → least t + away (w (top t)) (region t) ≤ length_in t w
      lower (tip k) w ok = omega arith
      lower (node k f) w ok = omega (arith, lowers f w (w k) ok, joins_out f (w k))

      pub lowers : (f : Roses) (w : ℕ → State) (x : State) → AllAllowed f w → leasts f + total K x (regions f) ≤ lengths_in f w x
      lowers (one t) w x ok = omega (arith, lower t w ok, away_by_way x (w (top t)) (region t))
      lowers (more t f) w x ok =
          omega (arith, lower t w ok.0, lowers f w x ok.1, away_by_way x (w (top t)) (region t))

    -- what it is to be nearest
    at-nearest : (r : Region) (x y : State) → y ≡ nearest r x → In K y r × (distance x y ≡ away x r)
    at-nearest r x y e = (rw e (nearest_in r x), rw e (nearest_far r x))

    -- the way of nearest states is allowed, and as short
    mutual
      pub reaches : (t : Rose) (w : ℕ → State) → In K (w (top t)) (region t) → Accelerated t w → Allowed t w × (length_in t w ≡ least t)
      reaches (tip k) w h c = (h, refl)
      reaches (node k f) w h c = let m = all-reach f w (w k) c in (m.0, omega (arith, m.1, joins_in f (w k) h))

      pub all-reach : (f : Roses) (w : ℕ → State) (x : State) → AllAccelerated f w x
          → AllAllowed f w × (lengths_in f w x ≡ leasts f + total K x (regions f))
      all-reach (one t) w x c =
          let e = at-nearest (region t) x (w (top t)) c.0 in
          let m = reaches t w e.0 c.1 in
          (m.0, omega (arith, m.1, e.1))
      all-reach (more t f) w x c =
          let e = at-nearest (region t) x (w (top t)) c.0 in
          let m = reaches t w e.0 c.1 in
          let ms = all-reach f w x c.2 in
          ((m.0, ms.0), omega (arith, m.1, e.1, ms.1))

    -- the state on top of a shortest way is in the region
    pub shortest_in : (t : Rose) (w : ℕ → State) → Allowed t w → length_in t w ≡ least t → In K (w (top t)) (region t)
    shortest_in t w ok e = omega (arith, lower t w ok)
