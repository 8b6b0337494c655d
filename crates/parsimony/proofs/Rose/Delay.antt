-- Ways whose changes are put off. From the top down, each node has a state of its final region that lies between the state above it and the
-- state of its first region nearest that. Such a way is allowed and of least length: this is why DELTRAN's choice is a shortest way.
-- Assumes nothing.
use mathlib.Core.Path.{◌≡◌}
use mathlib.Core.List.{List, [], ◌∷◌, ◌++◌, append_assoc}
use Prim.Native.Nat.{ℕ, ◌+◌, ◌≤◌}
use native.Mathlib.Omega.{arith}
use Rattle.parsimony.specs.Kind.{Kind, Laws, In, total}
use Rattle.parsimony.proofs.Sums.{sum-append}
use Rattle.parsimony.proofs.Rose.Shapes.{Rose, Roses, tip, node, one, more, top}
use Rattle.parsimony.proofs.Rose.Lengths.{region, regions, least, leasts, length_in, lengths_in, Allowed, AllAllowed}

module _ (K : Kind) where
  open K use {State, Region, distance, away, join, cost, nearest}

  -- a list has a region
  abbrev Full : List Region → Type 0
  Full [] = ⊥
  Full (r ∷ rs) = Unit {0}

  -- the join of the regions about a node, where there are any
  abbrev pub joined : List Region → List Region
  joined [] = []
  joined (r ∷ rs) = join (r ∷ rs) ∷ []

  -- no state is nearer the regions, in all
  abbrev pub Nearest : State → List Region → Type 0
  Nearest x rs = (y : State) → total K x rs ≤ total K y rs

  -- y lies on a shortest way from x to the region
  abbrev OnTheWay : State → State → Region → Type 0
  OnTheWay x y r = distance x y + distance y (nearest r x) ≡ distance x (nearest r x)

  module _ (cell : ℕ → K.Region) where
    -- the final region of a tree, with the regions qs of all else that stands about its ancestor
    abbrev pub final_with : Rose → List Region → Region
    final_with (tip k) qs = cell k
    final_with (node k f) qs = join (regions K cell f ++ joined qs)

    -- the state y of a tree's top, under an ancestor with the state x, is in the final region and on the way
    abbrev pub PutOff : Rose → State → State → List Region → Type 0
    PutOff t x y qs = In K y (final_with t qs) × OnTheWay x y (region K cell t)

    -- DELTRAN's rule: the state of the final region nearest the state above
    abbrev pub NearestFinal : Rose → State → State → List Region → Type 0
    NearestFinal t x y qs = y ≡ nearest (final_with t qs) x

    module _ (Rule : Rose → State → State → List Region → Type 0) where
      -- each node below the top has its state by the rule
      abbrev mutual
        pub Ruled : Rose → (ℕ → State) → List Region → Type 0
        Ruled (tip k) w qs = Unit {0}
        Ruled (node k f) w qs = AllRuled f w (w k) [] (joined qs)

        pub AllRuled : Roses → (ℕ → State) → State → List Region → List Region → Type 0
        AllRuled (one t) w x ls qs = Rule t x (w (top t)) (ls ++ qs) × Ruled t w (ls ++ qs)
        AllRuled (more t f) w x ls qs =
            Rule t x (w (top t)) (ls ++ (regions K cell f ++ qs))
            × Ruled t w (ls ++ (regions K cell f ++ qs))
            × AllRuled f w x (ls ++ (region K cell t ∷ [])) qs

  total-append : (x : State) (rs qs : List Region) → total K x (rs ++ qs) ≡ total K x rs + total K x qs
  total-append x rs qs = sum-append (away x) rs qs

  -- what is nearest a list of regions is so with the list in another order
  nearest-first : (x : State) (ls : List Region) (q : Region) (qs : List Region) → Nearest x (ls ++ (q ∷ qs)) → Nearest x (q ∷ (ls ++ qs))
  nearest-first x ls q qs m y =
      omega (
        arith,
        m y,
        total-append x ls qs,
        total-append y ls qs,
        total-append x ls (q ∷ qs),
        total-append y ls (q ∷ qs),
      )

  nearest_past : (x : State) (ls : List Region) (q : Region) (qs : List Region)
      → Nearest x (ls ++ (q ∷ qs)) → Nearest x ((ls ++ (q ∷ [])) ++ qs)
  nearest_past x ls q qs m = rw append_assoc m

  full_append : (rs qs : List Region) → Full rs → Full (rs ++ qs)
  full_append [] qs h = absurd h
  full_append (r ∷ rs) qs h = tt

  module _ (laws : Laws K) where
    open laws use {either_way, away_by_way, nearest_in, nearest_far, join_in, join_out}

    joins_out : (rs : List Region) → Full rs → (x : State) → cost rs + away x (join rs) ≤ total K x rs
    joins_out [] h x = absurd h
    joins_out (r ∷ rs) h x = join_out r rs x

    joins_in : (rs : List Region) → Full rs → (x : State) → In K x (join rs) → total K x rs ≡ cost rs
    joins_in [] h x = absurd h
    joins_in (r ∷ rs) h x = join_in r rs x

    -- a join holds the states that are nearest its regions, in all
    in_nearest : (rs : List Region) → Full rs → (x : State) → In K x (join rs) → Nearest x rs
    in_nearest rs h x e y = omega (arith, joins_in rs h x e, joins_out rs h y)

    nearest-joined : (rs : List Region) → Full rs → (x : State) → Nearest x rs → In K x (join rs)
    nearest-joined rs h x m =
        let y : State = nearest (join rs) x in
        omega (arith, m y, joins_out rs h x, joins_in rs h y (nearest_in (join rs) x))

    joined_by_way : (x y : State) (qs : List Region) → total K x (joined qs) ≤ distance x y + total K y (joined qs)
    joined_by_way x y [] = omega arith
    joined_by_way x y (r ∷ rs) = omega (arith, away_by_way x y (join (r ∷ rs)))

    -- the state of the first region nearest the state above is in the final region
    first_in_final : (rs qs : List Region) (x : State) → Full rs → Nearest x (join rs ∷ qs)
        → Nearest (nearest (join rs) x) (rs ++ joined qs)
    first_in_final rs [] x h m z =
        let y : State = nearest (join rs) x in
        omega (
          arith,
          total-append y rs [],
          total-append z rs [],
          joins_in rs h y (nearest_in (join rs) x),
          joins_out rs h z,
        )
    first_in_final rs (q ∷ qs) x h m z =
        let r : Region = join rs in
        let u : Region = join (q ∷ qs) in
        let y : State = nearest r x in
        let z' : State = nearest u z in
        omega (
          arith,
          total-append y rs (u ∷ []),
          total-append z rs (u ∷ []),
          joins_in rs h y (nearest_in r x),
          nearest_far r x,
          away_by_way y x u,
          either_way x y,
          join_out q qs x,
          join_in q qs z' (nearest_in u z),
          nearest_far u z,
          joins_out rs h z,
          away_by_way z' z r,
          either_way z z',
          m z',
        )

    -- a state of the final region on the way serves as well as the nearest of the first region
    serves : (rs qs : List Region) (x y : State) → Full rs → Nearest x (join rs ∷ qs) → In K y (join (rs ++ joined qs))
        → OnTheWay x y (join rs) → distance x y + total K y rs ≡ cost rs + away x (join rs)
    serves rs qs x y h m i b =
        let r : Region = join rs in
        let y₀ : State = nearest r x in
        let hh : Full (rs ++ joined qs) = full_append rs (joined qs) h in
        omega (
          arith,
          away_by_way x y r,
          joins_out rs h y,
          nearest_far r x,
          joins_in rs h y₀ (nearest_in r x),
          in_nearest (rs ++ joined qs) hh y i y₀,
          first_in_final rs qs x h m y,
          total-append y rs (joined qs),
          total-append y₀ rs (joined qs),
          joined_by_way y₀ y qs,
          either_way y y₀,
          b,
        )

    module _ (cell : ℕ → K.Region) where
      full_regions : (f : Roses) → Full (regions K cell f)
      full_regions (one t) = tt
      full_regions (more t f) = tt

      module _ (Rule : Rose → State → State → List Region → Type 0)
          (rule : (t : Rose) (x y : State) (qs : List Region) → Nearest x (region K cell t ∷ qs) → Rule t x y qs → PutOff cell t x y qs) where
        mutual
          put_off : (t : Rose) (w : ℕ → State) (qs : List Region) (x : State) → Nearest x (region K cell t ∷ qs)
              → Rule t x (w (top t)) qs → Ruled cell Rule t w qs
              → Allowed K cell t w × (distance x (w (top t)) + length_in K cell t w ≡ least K cell t + away x (region K cell t))
          put_off (tip k) w qs x m c₀ c =
              let d = rule (tip k) x (w k) qs m c₀ in
              (d.0, omega (arith, d.0, d.1, nearest_far (cell k) x, away_by_way x (w k) (cell k)))
          put_off (node k f) w qs x m c₀ c =
              let rs : List Region = regions K cell f in
              let d = rule (node k f) x (w k) qs m c₀ in
              let full : Full (rs ++ joined qs) = full_append rs (joined qs) (full_regions f) in
              let r = all_put_off f w (w k) [] (joined qs) (in_nearest (rs ++ joined qs) full (w k) d.0) c in
              (r.0, omega (arith, serves rs qs x (w k) (full_regions f) m d.0 d.1, r.1))

          all_put_off : (f : Roses) (w : ℕ → State) (x : State) (ls qs : List Region) → Nearest x (ls ++ (regions K cell f ++ qs))
              → AllRuled cell Rule f w x ls qs
              → AllAllowed K cell f w × (lengths_in K cell f w x ≡ leasts K cell f + total K x (regions K cell f))
          all_put_off (one t) w x ls qs m c =
              let r = put_off t w (ls ++ qs) x (nearest-first x ls (region K cell t) qs m) c.0 c.1 in
              (r.0, omega (arith, r.1))
          all_put_off (more t f) w x ls qs m c =
              let q : Region = region K cell t in
              let more_qs : List Region = regions K cell f ++ qs in
              let r = put_off t w (ls ++ more_qs) x (nearest-first x ls q more_qs m) c.0 c.1 in
              let rs = all_put_off f w x (ls ++ (q ∷ [])) qs (nearest_past x ls q more_qs m) c.2 in
              ((r.0, rs.0), omega (arith, r.1, rs.1))

        -- by the rule from a state of the tree's region, a way is allowed and of least length
        pub put_off_least : (k : ℕ) (f : Roses) (w : ℕ → State) → In K (w k) (region K cell (node k f)) → Ruled cell Rule (node k f) w []
            → Allowed K cell (node k f) w × (length_in K cell (node k f) w ≡ least K cell (node k f))
        put_off_least k f w h c =
            let rs : List Region = regions K cell f in
            let m : Nearest (w k) rs = in_nearest rs (full_regions f) (w k) h in
            let m₁ : Nearest (w k) (rs ++ []) = λ y. omega (arith, m y, total-append (w k) rs [], total-append y rs []) in
            let r = all_put_off f w (w k) [] [] m₁ c in
            (r.0, omega (arith, r.1, joins_in rs (full_regions f) (w k) h))

      -- DELTRAN's rule puts off, where the nearest state of a region lies between a state and any other of the region
      pub nearest_final_puts_off : ((r : Region) (x y : State) → In K y r → distance x (nearest r x) + distance (nearest r x) y ≡ distance x y)
          → (t : Rose) (x y : State) (qs : List Region) → Nearest x (region K cell t ∷ qs) → NearestFinal cell t x y qs → PutOff cell t x y qs
      nearest_final_puts_off between (tip k) x y qs m e =
          rw e (nearest_in (cell k) x, between (cell k) x (nearest (cell k) x) (nearest_in (cell k) x))
      nearest_final_puts_off between (node k f) x y qs m e =
          let rs : List Region = regions K cell f in
          let r : Region = join (rs ++ joined qs) in
          let i : In K (nearest (join rs) x) r =
          nearest-joined (rs ++ joined qs) (full_append rs (joined qs) (full_regions f)) (nearest (join rs) x)
          (first_in_final rs qs x (full_regions f) m) in
          rw e (nearest_in r x, between r x (nearest (join rs) x) i)
