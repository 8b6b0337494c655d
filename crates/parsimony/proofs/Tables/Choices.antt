-- States that are chosen at each node by itself, from the state of its ancestor, are the accelerated and the delayed ways of the whole tree.
-- Assumes nothing.
use mathlib.Core.Path.{◌≡◌, refl, sym, ◌∙◌, ap, ap₂, subst}
use mathlib.Core.List.{List, [], ◌∷◌, ◌++◌, map, append_assoc, append-nil, map-append}
use Prim.Native.Nat.{ℕ, ◌≤◌}
use native.Mathlib.Omega.{arith}
use Rattle.parsimony.specs.Kind.{Kind}
use Rattle.parsimony.proofs.Sums.{All, same_self}
use Rattle.parsimony.proofs.Rose.Shapes.{Rose, Roses, tip, node, one, more, top, count, counts}
use Rattle.parsimony.proofs.Rose.Lengths.{region, regions, Accelerated, AllAccelerated}
use Rattle.parsimony.proofs.Rose.Reroot.{◌⊕◌, regions_⊕}
use Rattle.parsimony.proofs.Rose.Delay.{joined, final_with, NearestFinal, Ruled, AllRuled}
use Rattle.parsimony.proofs.Tables.Fitting.{tops, Fits, AllFit}
use Rattle.parsimony.proofs.Tables.Settling.{Made, settled, all_settled}
use Rattle.parsimony.proofs.Tables.Whole.{whole_of}
use Rattle.parsimony.proofs.Tables.Places.{Sees, Known}

module _ (K : Kind) (cell : ℕ → K.Region) (under : ℕ → List ℕ) (entry : ℕ → K.Region) (size : ℕ → ℕ) (w : ℕ → K.State) where
  open K use {State, Region, join, nearest}

  -- ---- from the first pass

  -- each descendant of v has the state of its entry nearest the state of v
  abbrev Follows : ℕ → Type 0
  Follows v = All (λ c. w c ≡ nearest (entry c) (w v)) (under v)

  mutual
    pub accelerated : (t : Rose) → Fits under t → ((v : ℕ) → 1 ≤ count t v → Made K cell under entry size v × Follows v)
        → Accelerated K cell t w
    accelerated (tip v) h s = tt
    accelerated (node v f) h s =
        all_accelerated f h.1 (λ u l. s u (omega arith)) v
        (subst (All (λ c. w c ≡ nearest (entry c) (w v))) (sym h.0) (s v (omega (arith, same_self v))).1)

    all_accelerated : (f : Roses) → AllFit under f → ((v : ℕ) → 1 ≤ counts f v → Made K cell under entry size v × Follows v)
        → (v : ℕ) → All (λ c. w c ≡ nearest (entry c) (w v)) (tops f) → AllAccelerated K cell f w (w v)
    all_accelerated (one t) h s v e =
        let r : region K cell t ≡ entry (top t) = (settled K cell under entry size t h (λ u l. (s u l).0)).0 in
        (rw r e.0, accelerated t h s)
    all_accelerated (more t f) h s v e =
        let r : region K cell t ≡ entry (top t) = (settled K cell under entry size t h.0 (λ u l. (s u (omega arith)).0)).0 in (
          rw r e.0,
          accelerated t h.0 (λ u l. s u (omega arith)),
          all_accelerated f h.1 (λ u l. s u (omega arith)) v e.1,
        )

  -- ---- from the final regions

  module _ (above : ℕ → Region) where
    -- the range of a node with these descendants: a taxon's cell, or the final region
    abbrev pub range_over : ℕ → List ℕ → Region
    range_over v [] = cell v
    range_over v (c ∷ cs) = join (map entry (c ∷ cs) ++ (above v ∷ []))

    abbrev pub range_of : ℕ → Region
    range_of v = range_over v (under v)

    joined-last : (rs : List Region) (r : Region) → joined K (rs ++ (r ∷ [])) ≡ join (rs ++ (r ∷ [])) ∷ []
    joined-last [] r = refl
    joined-last (q ∷ qs) r = refl

    abbrev pub KnownIn : Rose → Type 0
    KnownIn t = (v : ℕ) → 1 ≤ count t v → Known K cell under entry size above v

    final-range : (t : Rose) → Fits under t → KnownIn t → (qs : List Region) → joined K qs ≡ above (top t) ∷ []
        → final_with K cell t qs ≡ range_of (top t)
    final-range (tip v) h s qs e = ap (range_over v) (sym h)
    final-range (node v f) h s qs e =
        ap₂ (λ rs us. join (rs ++ us)) (all_settled K cell under entry size f h.1 (λ u l. (s u (omega arith)).0)).0 e
        ∙ full f ∙ ap (range_over v) h.0
      where
        full : (f : Roses) → join (map entry (tops f) ++ (above v ∷ [])) ≡ range_over v (tops f)
        full (one t) = refl
        full (more t f) = refl

    -- a rule of Rose/Delay.antt, from what is said of each branch of the table
    module _ (Rule : Rose → State → State → List Region → Type 0) (Branch : ℕ → ℕ → Type 0)
        (by-branch : (t : Rose) → Fits under t → KnownIn t → (qs : List Region) → joined K qs ≡ above (top t) ∷ []
        → (v : ℕ) → Branch v (top t) → Rule t (w v) (w (top t)) qs) where
      abbrev pub Goes : ℕ → Type 0
      Goes v = Known K cell under entry size above v × All (Branch v) (under v)

      mutual
        ruled : (t : Rose) → Fits under t → ((v : ℕ) → 1 ≤ count t v → Goes v) → (qs : List Region) → joined K qs ≡ above (top t) ∷ []
            → Ruled K cell Rule t w qs
        ruled (tip v) h s qs e = tt
        ruled (node v f) h s qs e =
            subst (AllRuled K cell Rule f w (w v) []) (sym e)
            (let g = s v (omega (arith, same_self v)) in
            all_ruled f h.1 (λ u l. s u (omega arith)) v [] (sym h.0) g.0.1 (subst (All (Branch v)) (sym h.0) g.1))

        all_ruled : (f : Roses) → AllFit under f → ((v : ℕ) → 1 ≤ counts f v → Goes v) → (v : ℕ) (ls : List ℕ) → under v ≡ ls ++ tops f
            → Sees K cell under entry size above v → All (Branch v) (tops f) → AllRuled K cell Rule f w (w v) (map entry ls) (above v ∷ [])
        all_ruled (one t) h s v ls b a e =
            let qs : List Region = map entry ls ++ (above v ∷ []) in
            let u : joined K qs ≡ above (top t) ∷ [] =
            joined-last (map entry ls) (above v)
            ∙ ap (λ r. r ∷ []) (sym (a ls (top t) [] b ∙ ap (λ xs. join (map entry xs ++ (above v ∷ []))) (append-nil ls))) in
            (by-branch t h (λ k l. (s k l).0) qs u v e.0, ruled t h s qs u)
        all_ruled (more t f) h s v ls b a e =
            let qs : List Region = map entry ls ++ (regions K cell f ++ (above v ∷ [])) in
            let es : regions K cell f ≡ map entry (tops f) =
            (all_settled K cell under entry size f h.1 (λ u l. (s u (omega arith)).0.0)).0 in
            let q : qs ≡ map entry (ls ++ tops f) ++ (above v ∷ []) =
            ap (λ xs. map entry ls ++ (xs ++ (above v ∷ []))) es
            ∙ sym (append_assoc (map entry ls) (map entry (tops f)) (above v ∷ []))
            ∙ ap (λ xs. xs ++ (above v ∷ [])) (sym (map-append entry ls (tops f))) in
            let u : joined K qs ≡ above (top t) ∷ [] =
            ap (joined K) q ∙ joined-last (map entry (ls ++ tops f)) (above v) ∙ ap (λ r. r ∷ []) (sym (a ls (top t) (tops f) b)) in
            let r : map entry (ls ++ (top t ∷ [])) ≡ map entry ls ++ (region K cell t ∷ []) =
            map-append entry ls (top t ∷ [])
            ∙ ap (λ x. map entry ls ++ (x ∷ [])) (sym (settled K cell under entry size t h.0 (λ u l. (s u (omega arith)).0.0)).0) in (
              by-branch t h.0 (λ k l. (s k (omega arith)).0) qs u v e.0,
              ruled t h.0 (λ u l. s u (omega arith)) qs u,
              subst (λ xs. AllRuled K cell Rule f w (w v) xs (above v ∷ [])) r
                  (all_ruled f h.1 (λ u l. s u (omega arith)) v (ls ++ (top t ∷ []))
                  (b ∙ sym (append_assoc ls (top t ∷ []) (tops f))) a e.1),
            )

      -- with the root as one more tip
      ruled_behind : (ρ : ℕ) (f : Roses) (x : State) (ls : List Region) → ((qs : List Region) → Rule (tip ρ) x (w ρ) qs)
          → AllRuled K cell Rule f w x ls (cell ρ ∷ []) → AllRuled K cell Rule (f ⊕ one (tip ρ)) w x ls []
      ruled_behind ρ (one t) x ls e d = (d.0, d.1, (e ((ls ++ (region K cell t ∷ [])) ++ []), tt))
      ruled_behind ρ (more t f) x ls e d =
          let q : regions K cell f ++ (cell ρ ∷ []) ≡ regions K cell (f ⊕ one (tip ρ)) ++ [] =
          sym (append-nil (regions K cell (f ⊕ one (tip ρ))) ∙ regions_⊕ K cell f (one (tip ρ))) in (
            subst (λ xs. Rule t x (w (top t)) (ls ++ xs)) q d.0,
            subst (λ xs. Ruled K cell Rule t w (ls ++ xs)) q d.1,
            ruled_behind ρ f x (ls ++ (region K cell t ∷ [])) e d.2,
          )

      pub whole_ruled : (ρ δ : ℕ) (f : Roses) → Fits under (node δ f) → ((v : ℕ) → 1 ≤ count (node δ f) v → Goes v) → above δ ≡ cell ρ
          → ((qs : List Region) → Rule (tip ρ) (w δ) (w ρ) qs) → Ruled K cell Rule (whole_of ρ δ f) w []
      whole_ruled ρ δ f h s o e =
          let g = s δ (omega (arith, same_self δ)) in
          ruled_behind ρ f (w δ) [] e
          (subst (λ r. AllRuled K cell Rule f w (w δ) [] (r ∷ [])) o
          (all_ruled f h.1 (λ u l. s u (omega arith)) δ [] (sym h.0) g.0.1 (subst (All (Branch δ)) (sym h.0) g.1)))

    -- DELTRAN's rule, of a branch: the state of the descendant's range nearest the ancestor's
    abbrev pub NearestRange : ℕ → ℕ → Type 0
    NearestRange v c = w c ≡ nearest (range_of c) (w v)

    pub nearest_by_branch : (t : Rose) → Fits under t → KnownIn t → (qs : List Region) → joined K qs ≡ above (top t) ∷ []
        → (v : ℕ) → NearestRange v (top t) → NearestFinal K cell t (w v) (w (top t)) qs
    nearest_by_branch t h s qs u v e = e ∙ ap (λ r. nearest r (w v)) (sym (final-range t h s qs u))
