-- Where a node stands in the whole tree, and that the region of what stands above it there is what the second pass says it sees from above.
-- Assumes nothing.
use mathlib.Core.Path.{◌≡◌, refl, sym, ◌∙◌, ap, subst}
use mathlib.Core.List.{List, [], ◌∷◌, ◌++◌, map, append_assoc, append-nil, map-append}
use Prim.Native.Nat.{ℕ, ◌≤◌}
use native.Mathlib.Decide.{dec_le}
use native.Mathlib.Omega.{arith}
use Rattle.parsimony.specs.Kind.{Kind}
use Rattle.parsimony.proofs.Sums.{same_self, same_equal}
use Rattle.parsimony.proofs.Rose.Shapes.{Rose, Roses, tip, node, one, more, top, count, counts}
use Rattle.parsimony.proofs.Rose.Lengths.{region, regions}
use Rattle.parsimony.proofs.Rose.Reroot.{◌⊕◌, Place, before, after, past, fill, rest, Up, root, under, only, plug, up_rose, regions_⊕}
use Rattle.parsimony.proofs.Tables.Fitting.{tops, Fits, AllFit}
use Rattle.parsimony.proofs.Tables.Settling.{Made, settled, all_settled}
use Rattle.parsimony.proofs.Tables.Whole.{whole_of}

-- a place with sisters added at the end
abbrev wider : Place → Roses → Place
wider (before f) g = before (f ⊕ g)
wider (after s) g = past s (before g)
wider (past s p) g = past s (wider p g)

fill-wider : (p : Place) (g : Roses) (t : Rose) → fill (wider p g) t ≡ fill p t ⊕ g
fill-wider (before f) g t = refl
fill-wider (after s) g t = refl
fill-wider (past s p) g t = ap (more s) (fill-wider p g t)

rest-wider : (p : Place) (g : Roses) → rest (wider p g) ≡ rest p ⊕ g
rest-wider (before f) g = refl
rest-wider (after s) g = refl
rest-wider (past s p) g = ap (more s) (rest-wider p g)

module _ (K : Kind) (cell : ℕ → K.Region) (below : ℕ → List ℕ) (entry : ℕ → K.Region) (size : ℕ → ℕ) (above : ℕ → K.Region) where
  open K use {Region, join}

  -- what each descendant of v sees from above: its sisters, and what v sees
  abbrev pub Sees : ℕ → Type 0
  Sees v = (ls : List ℕ) (c : ℕ) (rs : List ℕ) → below v ≡ ls ++ (c ∷ rs) → above c ≡ join (map entry (ls ++ rs) ++ (above v ∷ []))

  abbrev pub Known : ℕ → Type 0
  Known v = Made K cell below entry size v × Sees v

  module _ (T : Rose) where
    -- a node of T, found: the tree below it, what stands above it, and the region of that
    pub record Found (k : ℕ) : Type 0 where
      pub up : Up
      pub tree : Rose
      pub stands : plug up tree ≡ T
      pub named : top tree ≡ k
      pub fits : Fits below tree
      pub seen : region K cell (up_rose up) ≡ above k

    -- the tree t stands in T under something with the region r
    abbrev At : Rose → Region → Type 0
    At t r = (u : Up) × (plug u t ≡ T) × (region K cell (up_rose u) ≡ r)

    shift : (ls : List ℕ) (s : Rose) (rs : List Region) → region K cell s ≡ entry (top s)
        → map entry ls ++ (region K cell s ∷ rs) ≡ map entry (ls ++ (top s ∷ [])) ++ rs
    shift ls s rs e =
        ap (λ r. map entry ls ++ (r ∷ rs)) e ∙ sym (append_assoc (map entry ls) (entry (top s) ∷ []) rs)
        ∙ ap (λ qs. qs ++ rs) (sym (map-append entry ls (top s ∷ [])))

    mutual
      find : (t : Rose) → Fits below t → ((v : ℕ) → 1 ≤ count t v → Known v) → At t (above (top t)) → (k : ℕ) → 1 ≤ count t k → Found k
      find (tip v) h s (u, q, e) k l =
          let v_is : v ≡ k = same_equal v k l in
          record { up = u; tree = tip v; stands = q; named = v_is; fits = h; seen = e ∙ ap above v_is }
      find (node v f) h s (u, q, e) k l =
          go (dec_le 1 (counts f k))
          (λ r. find_among f v [] (sym h.0) h.1 (λ x m. s x (omega arith)) (s v (omega (arith, same_self v))).1 at sole k r)
        where
          at : (p : Place) (t : Rose) → fill p t ≡ f → At t (join (regions K cell (rest p) ++ (above v ∷ [])))
          at p t q' = (
            under v p u,
            ap (λ g. plug u (node v g)) q' ∙ q,
            ap join (regions_⊕ K cell (rest p) (one (up_rose u)) ∙ ap (λ r. regions K cell (rest p) ++ (r ∷ [])) e),
          )

          sole : (t : Rose) → one t ≡ f → At t (join (above v ∷ []))
          sole t q' = (only v u, ap (λ g. plug u (node v g)) q' ∙ q, ap (λ r. join (r ∷ [])) e)

          go : Dec (1 ≤ counts f k) → (1 ≤ counts f k → Found k) → Found k
          go (yes r) ih = ih r
          go (no r) ih =
              let v_is : v ≡ k = same_equal v k (omega arith) in
              record { up = u; tree = node v f; stands = q; named = v_is; fits = h; seen = e ∙ ap above v_is }

      -- among the branches f of v, which come after those with the tops ls
      find_among : (f : Roses) (v : ℕ) (ls : List ℕ) → below v ≡ ls ++ tops f → AllFit below f
          → ((x : ℕ) → 1 ≤ counts f x → Known x) → Sees v
          → ((p : Place) (t : Rose) → fill p t ≡ f → At t (join (map entry ls ++ (regions K cell (rest p) ++ (above v ∷ [])))))
          → ((t : Rose) → one t ≡ f → At t (join (map entry ls ++ (above v ∷ []))))
          → (k : ℕ) → 1 ≤ counts f k → Found k
      find_among (one t) v ls b h s a at sole k l =
          find t h s
          (subst (At t) (sym (a ls (top t) [] b ∙ ap (λ xs. join (map entry xs ++ (above v ∷ []))) (append-nil ls))) (sole t refl))
          k l
      find_among (more t f) v ls b h s a at sole k l =
          go (dec_le 1 (count t k)) (λ r. find t h.0 (λ x m. s x (omega arith)) (subst (At t) (sym first) (at (before f) t refl)) k r)
          (λ r. find_among f v (ls ++ (top t ∷ [])) (b ∙ sym (append_assoc ls (top t ∷ []) (tops f))) h.1 (λ x m. s x (omega arith)) a
          at' sole' k r)
        where
          e : region K cell t ≡ entry (top t)
          e = (settled K cell below entry size t h.0 (λ x m. (s x (omega arith)).0)).0

          es : regions K cell f ≡ map entry (tops f)
          es = (all_settled K cell below entry size f h.1 (λ x m. (s x (omega arith)).0)).0

          first : above (top t) ≡ join (map entry ls ++ (regions K cell f ++ (above v ∷ [])))
          first =
              a ls (top t) (tops f) b
              ∙ ap join (ap (λ xs. xs ++ (above v ∷ [])) (map-append entry ls (tops f))
              ∙ append_assoc (map entry ls) (map entry (tops f)) (above v ∷ []))
              ∙ ap (λ xs. join (map entry ls ++ (xs ++ (above v ∷ [])))) (sym es)

          at' : (p : Place) (t' : Rose) → fill p t' ≡ f
              → At t' (join (map entry (ls ++ (top t ∷ [])) ++ (regions K cell (rest p) ++ (above v ∷ []))))
          at' p t' q =
              subst (At t') (ap join (shift ls t (regions K cell (rest p) ++ (above v ∷ [])) e)) (at (past t p) t' (ap (more t) q))

          sole' : (t' : Rose) → one t' ≡ f → At t' (join (map entry (ls ++ (top t ∷ [])) ++ (above v ∷ [])))
          sole' t' q = subst (At t') (ap join (shift ls t (above v ∷ []) e)) (at (after t) t' (ap (more t) q))

          go : Dec (1 ≤ count t k) → (1 ≤ count t k → Found k) → (1 ≤ counts f k → Found k) → Found k
          go (yes r) i j = i r
          go (no r) i j = j (omega arith)

  -- each node below the root's descendant stands somewhere in the whole tree, and sees from above what the second pass says
  pub stands_in : (ρ δ : ℕ) (f : Roses) → Fits below (node δ f) → ((v : ℕ) → 1 ≤ count (node δ f) v → Known v) → above δ ≡ cell ρ
      → (k : ℕ) → 1 ≤ counts f k → Found (whole_of ρ δ f) k
  stands_in ρ δ f h s o k l =
      find_among (whole_of ρ δ f) f δ [] (sym h.0) h.1 (λ x m. s x (omega arith)) (s δ (omega (arith, same_self δ))).1 at sole k l
    where
      at : (p : Place) (t : Rose) → fill p t ≡ f → At (whole_of ρ δ f) t (join (regions K cell (rest p) ++ (above δ ∷ [])))
      at p t q = (
        root δ (wider p (one (tip ρ))),
        ap (node δ) (fill-wider p (one (tip ρ)) t ∙ ap (λ g. g ⊕ one (tip ρ)) q),
        ap (λ g. join (regions K cell g)) (rest-wider p (one (tip ρ)))
            ∙ ap join (regions_⊕ K cell (rest p) (one (tip ρ)) ∙ ap (λ r. regions K cell (rest p) ++ (r ∷ [])) (sym o)),
      )

      sole : (t : Rose) → one t ≡ f → At (whole_of ρ δ f) t (join (above δ ∷ []))
      sole t q = (
        root δ (before (one (tip ρ))),
        ap (λ g. node δ (g ⊕ one (tip ρ))) q,
        ap (λ r. join (r ∷ [])) (sym o),
      )
