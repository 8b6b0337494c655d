-- A tree whose numbers are distinct has an allowed way of least length with any state of its region on top: the way of nearest states, painted
-- from the top down.
-- Assumes nothing.
use mathlib.Core.Path.{◌≡◌, refl, ◌∙◌, ap}
use Prim.Native.Nat.{ℕ, ◌+◌, ◌≤◌}
use native.Mathlib.Decide.{ℕ_discrete}
use native.Mathlib.Omega.{arith}
use Rattle.parsimony.specs.Lists.{choose, same}
use Rattle.parsimony.specs.Kind.{Kind, Laws, In, total}
use Rattle.parsimony.proofs.Sums.{choose_yes, choose_no, same_self}
use Rattle.parsimony.proofs.Rose.Shapes.{Rose, Roses, tip, node, one, more, top, count, counts, Distinct, count-top}
use Rattle.parsimony.proofs.Rose.Lengths.{
  region,
  regions,
  least,
  leasts,
  length_in,
  lengths_in,
  Allowed,
  AllAllowed,
  Accelerated,
  AllAccelerated,
  lower,
  reaches,
  all-reach,
  shortest_in,
}

module _ {State : Type 0} where
  -- a way with one state changed
  with : ℕ → State → (ℕ → State) → ℕ → State
  with k x w m = choose (ℕ_discrete k m) x (w m)

  with_there : (k : ℕ) (x : State) (w : ℕ → State) → with k x w k ≡ x
  unfolding with
  with_there k x w = choose_yes (ℕ_discrete k k) x (w k) refl

  with_elsewhere : (k : ℕ) (x : State) (w : ℕ → State) (m : ℕ) → same k m ≡ 0 → with k x w m ≡ w m
  unfolding with
  with_elsewhere k x w m h = choose_no (ℕ_discrete k m) x (w m) (λ (e : k ≡ m). omega (arith, same_self k, ap (same k) e))

module _ (K : Kind) (cell : ℕ → K.Region) where
  open K use {State, Region, distance, away, join, cost, nearest}

  -- the way of nearest states below a state on top, over another way
  abbrev mutual
    paint : Rose → State → (ℕ → State) → ℕ → State
    paint (tip k) x w = with k x w
    paint (node k f) x w = paints f x (with k x w)

    paints : Roses → State → (ℕ → State) → ℕ → State
    paints (one t) x w = paint t (nearest (region K cell t) x) w
    paints (more t f) x w = paints f x (paint t (nearest (region K cell t) x) w)

  -- what is not in the tree stays as it was
  mutual
    unpainted : (t : Rose) (x : State) (w : ℕ → State) (m : ℕ) → count t m ≡ 0 → paint t x w m ≡ w m
    unpainted (tip k) x w m h = with_elsewhere k x w m h
    unpainted (node k f) x w m h = all_unpainted f x (with k x w) m (omega arith) ∙ with_elsewhere k x w m (omega arith)

    all_unpainted : (f : Roses) (x : State) (w : ℕ → State) (m : ℕ) → counts f m ≡ 0 → paints f x w m ≡ w m
    all_unpainted (one t) x w m h = unpainted t (nearest (region K cell t) x) w m h
    all_unpainted (more t f) x w m h =
        all_unpainted f x (paint t (nearest (region K cell t) x) w) m (omega arith)
        ∙ unpainted t (nearest (region K cell t) x) w m (omega arith)

  paint_top : (t : Rose) (x : State) (w : ℕ → State) → Distinct t → paint t x w (top t) ≡ x
  paint_top (tip k) x w d = with_there k x w
  paint_top (node k f) x w d = all_unpainted f x (with k x w) k (omega (arith, d k, same_self k)) ∙ with_there k x w

  -- what is said of a way is said of another that is the same in the tree
  mutual
    accelerated_cong : (t : Rose) (w w' : ℕ → State) → ((m : ℕ) → 1 ≤ count t m → w' m ≡ w m)
        → Accelerated K cell t w → Accelerated K cell t w'
    accelerated_cong (tip k) w w' e c = tt
    accelerated_cong (node k f) w w' e c =
        rw (e k (omega (arith, same_self k))) (all_accelerated_cong f w w' (w k) (λ m h. e m (omega arith)) c)

    all_accelerated_cong : (f : Roses) (w w' : ℕ → State) (x : State) → ((m : ℕ) → 1 ≤ counts f m → w' m ≡ w m)
        → AllAccelerated K cell f w x → AllAccelerated K cell f w' x
    all_accelerated_cong (one t) w w' x e c = (e (top t) (count-top t) ∙ c.0, accelerated_cong t w w' e c.1)
    all_accelerated_cong (more t f) w w' x e c = (
      e (top t) (omega (arith, count-top t)) ∙ c.0,
      accelerated_cong t w w' (λ m h. e m (omega arith)) c.1,
      all_accelerated_cong f w w' x (λ m h. e m (omega arith)) c.2,
    )

  mutual
    painted : (t : Rose) (x : State) (w : ℕ → State) → Distinct t → Accelerated K cell t (paint t x w)
    painted (tip k) x w d = tt
    painted (node k f) x w d =
        rw (paint_top (node k f) x w d) (all_painted f x (with k x w) (λ m. omega (arith, d m)))

    all_painted : (f : Roses) (x : State) (w : ℕ → State) → ((m : ℕ) → counts f m ≤ 1) → AllAccelerated K cell f (paints f x w) x
    all_painted (one t) x w d =
        (paint_top t (nearest (region K cell t) x) w d, painted t (nearest (region K cell t) x) w d)
    all_painted (more t f) x w d =
        let y : State = nearest (region K cell t) x in
        let w' : ℕ → State = paint t y w in
        let dt : Distinct t = λ m. omega (arith, d m) in
        let kept : (m : ℕ) → 1 ≤ count t m → paints f x w' m ≡ w' m = λ m h. all_unpainted f x w' m (omega (arith, d m)) in (
          kept (top t) (count-top t) ∙ paint_top t y w dt,
          accelerated_cong t w' (paints f x w') kept (painted t y w dt),
          all_painted f x w' (λ m. omega (arith, d m)),
        )

  module _ (laws : Laws K) where
    -- with any state on top of a node, the length that is left at the least
    pub with_top : (k : ℕ) (f : Roses) → Distinct (node k f) → (x : State)
        → (w : ℕ → State) × AllAllowed K cell f w
        × (lengths_in K cell f w (w k) ≡ leasts K cell f + total K x (regions K cell f)) × (w k ≡ x)
    with_top k f d x =
        let w : ℕ → State = paint (node k f) x (λ m. x) in
        let e : w k ≡ x = paint_top (node k f) x (λ m. x) d in
        let r = all-reach K cell laws f w (w k) (painted (node k f) x (λ m. x) d) in
        (w, r.0, r.1 ∙ ap (λ y. leasts K cell f + total K y (regions K cell f)) e, e)

    -- each state of the region is on top of a shortest way
    pub with_region : (t : Rose) → Distinct t → (x : State) → In K x (region K cell t)
        → (w : ℕ → State) × Allowed K cell t w × (length_in K cell t w ≡ least K cell t) × (w (top t) ≡ x)
    with_region t d x h =
        let w : ℕ → State = paint t x (λ m. x) in
        let e : w (top t) ≡ x = paint_top t x (λ m. x) d in
        let r = reaches K cell laws t w (rw e h) (painted t x (λ m. x) d) in
        (w, r.0, r.1, e)

    -- some way is shortest
    pub some_shortest : (t : Rose) → Distinct t → (w : ℕ → State) × Allowed K cell t w × (length_in K cell t w ≡ least K cell t)
    some_shortest t d =
        let r = with_region t d (nearest (region K cell t) K.some) (laws.nearest_in (region K cell t) K.some) in
        (r.0, r.1, r.2)

  -- What the first pass of a tree says: no allowed way is shorter than `least`, some way is as short, and the region holds exactly the states
  -- that such ways have on top.
  pub record Answers (t : Rose) : Type 0 where
    pub bound : (w : ℕ → State) → Allowed K cell t w → least K cell t ≤ length_in K cell t w
    pub attained : (w : ℕ → State) × Allowed K cell t w × (length_in K cell t w ≡ least K cell t)
    pub only_these : (w : ℕ → State) → Allowed K cell t w → length_in K cell t w ≡ least K cell t → In K (w (top t)) (region K cell t)
    pub all_these : (x : State) → In K x (region K cell t)
        → (w : ℕ → State) × Allowed K cell t w × (length_in K cell t w ≡ least K cell t) × (w (top t) ≡ x)

  pub answers : Laws K → (t : Rose) → Distinct t → Answers t
  answers laws t d =
      record {
        bound = λ w h. omega (arith, lower K cell laws t w h);
        attained = some_shortest laws t d;
        only_these = shortest_in K cell laws t;
        all_these = with_region laws t d;
      }
