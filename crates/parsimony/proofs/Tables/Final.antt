-- What the second pass means: the paper's Theorem 2, of a table.
-- Assumes nothing.
use mathlib.Core.Path.{◌≡◌, refl, sym, ◌∙◌, ap, ap₂, subst}
use mathlib.Core.Logic.{◌≢◌, ◌↔◌}
use mathlib.Core.List.{List, [], ◌∷◌, ◌++◌, map}
use Prim.Native.Nat.{ℕ, ◌≤◌, ◌<◌}
use native.Mathlib.Decide.{ℕ_discrete, dec_le}
use native.Mathlib.Omega.{arith}
use lib.ListN.{length}
use Rattle.parsimony.specs.Lists.{choose, without}
use Rattle.parsimony.specs.Table.{ancestor, descendants, sisters}
use Rattle.parsimony.specs.Kind.{Kind, Laws, In}
use Rattle.parsimony.specs.Way.{Agrees, length_of}
use Rattle.parsimony.specs.Least.{Used}
use Rattle.parsimony.specs.Meaning.{FinalMeans}
use Rattle.parsimony.specs.Steps.{FirstPass, SecondPass, final}
use Rattle.parsimony.proofs.Sums.{All, all_middle, often, same-small, same-apart, choose_no, without_middle}
use Rattle.parsimony.proofs.Rose.Shapes.{Rose, Roses, tip, node, one, top, count, Distinct}
use Rattle.parsimony.proofs.Rose.Lengths.{region, least, length_in, Allowed}
use Rattle.parsimony.proofs.Rose.Reroot.{Up, plug, up_rose, final_at, final-joins, final_only, final-all, regions_⊕}
use Rattle.parsimony.proofs.Tables.Descendants.{Descends, each_descends, often-descendants}
use Rattle.parsimony.proofs.Tables.Trees.{Tree, δ-ancestor, δ-some, δ-most}
use Rattle.parsimony.proofs.Tables.Fitting.{Fits, in_tree}
use Rattle.parsimony.proofs.Tables.Settling.{all_settled}
use Rattle.parsimony.proofs.Tables.Whole.{δ-inner, crown, crown_fits, whole, each-once, whole_distinct}
use Rattle.parsimony.proofs.Tables.Places.{Sees, Known, stands_in}
use Rattle.parsimony.proofs.Tables.Ways.{whole-used, whole-answers}
use Rattle.parsimony.proofs.Tables.First.{inner-apart, made_at, made_in}

module _ (K : Kind) (laws : Laws K) (cell : ℕ → K.Region) (T : Tree) (entry : ℕ → K.Region) (size : ℕ → ℕ) (above : ℕ → K.Region) where
  open K use {State, Region, join}
  open T use {n, tree, ρ, δ, is_tree}
  open is_tree use {taxon, leaf, fork}

  -- ---- what each node sees from above, the taxa too

  beside : ℕ → Region
  beside c = join (map entry (sisters tree c) ++ (above (ancestor tree c) ∷ []))

  pub seen : ℕ → Region
  seen c = choose (dec_le c n) (beside c) (above c)

  pub seen-inner : (v : ℕ) → n < v → seen v ≡ above v
  unfolding seen
  seen-inner v h = choose_no (dec_le v n) (beside v) (above v) (λ q. omega arith)

  module _ (P : FirstPass K n cell tree entry size) (Q : SecondPass K n cell tree ρ δ entry above) where
    descends : (v : ℕ) (ls : List ℕ) (c : ℕ) (rs : List ℕ) → descendants tree v ≡ ls ++ (c ∷ rs) → Descends tree v c
    descends v ls c rs q = all_middle (Descends tree v) ls c rs (subst (All (Descends tree v)) q (each_descends tree v))

    beside_is : (v : ℕ) (ls : List ℕ) (c : ℕ) (rs : List ℕ) → n < v → descendants tree v ≡ ls ++ (c ∷ rs)
        → beside c ≡ join (map entry (ls ++ rs) ++ (seen v ∷ []))
    unfolding beside
    beside_is v ls c rs lo q =
        ap (λ u. join (map entry (without c (descendants tree u)) ++ (above u ∷ []))) (sym (descends v ls c rs q).of)
        ∙ ap₂ (λ xs r. join (map entry xs ++ (r ∷ [])))
        (ap (without c) q ∙ without_middle ls c rs (subst (λ xs. often xs c ≤ 1) q once))
        (sym (seen-inner v lo))
      where
        once : often (descendants tree v) c ≤ 1
        once = omega (arith, often-descendants tree v c (omega arith), same-small v (ancestor tree c))

    pub sees : (v : ℕ) → n < v → v ≤ length tree → Sees K cell (descendants tree) entry size seen v
    unfolding seen beside
    sees v lo hi ls c rs q = seen-beside (dec_le c n) ∙ beside_is v ls c rs lo q
      where
        d : Descends tree v c
        d = descends v ls c rs q

        seen-beside : (e : Dec (c ≤ n)) → choose e (beside c) (above c) ≡ beside c
        seen-beside (yes l) = refl
        seen-beside (no l) =
            Q.rest c (omega arith) d.most (λ (r : c ≡ δ). omega (arith, d.of, ap (ancestor tree) r, δ-ancestor T, taxon))

    sees_nothing : (k : ℕ) → descendants tree k ≡ [] → Sees K cell (descendants tree) entry size seen k
    sees_nothing k e [] c rs q = cc
    sees_nothing k e (l ∷ ls) c rs q = cc

    pub known : (k : ℕ) → 1 ≤ count (node δ (crown T)) k → Known K cell (descendants tree) entry size seen k
    known k l =
        let (a, b, c) = in_tree T (node δ (crown T)) (crown_fits T) (δ-some T) (δ-most T) k l in
        let r : k ≢ ρ = λ e. inner-apart K laws cell T entry size δ (δ-inner T) (c e) in
        (made_at K laws cell T entry size P k a b r, go a b r (dec_le k n))
      where
        go : 1 ≤ k → k ≤ length tree → k ≢ ρ → Dec (k ≤ n) → Sees K cell (descendants tree) entry size seen k
        go a b r (yes m) = sees_nothing k (leaf k a m r)
        go a b r (no m) = sees k (omega arith) b

    pub seen-top : seen δ ≡ cell ρ
    seen-top = seen-inner δ (δ-inner T) ∙ Q.top

    -- ---- the final region of a node, wherever it stands

    -- what Theorem 2 says of a node in a whole tree Z
    abbrev Finals : Up → ℕ → Roses → Rose → Type 0
    Finals u v g Z =
        Distinct Z
        → ((w : ℕ → State) → Allowed K cell Z w → length_in K cell Z w ≡ least K cell Z → In K (w v) (final_at K cell u v g))
        × ((x : State) → In K x (final_at K cell u v g)
        → (w : ℕ → State) × Allowed K cell Z w × (length_in K cell Z w ≡ least K cell Z) × (w v ≡ x))

    final-used : (u : Up) (v : ℕ) (g : Roses) → plug u (node v g) ≡ whole T
        → (x : State) → In K x (final_at K cell u v g) ↔ Used (Agrees K n cell) (length_of K tree) v x
    final-used u v g q =
        let h = subst (Finals u v g) q (λ d. (final_only K cell laws u v g d, final-all K cell laws u v g d)) (whole_distinct T) in
        whole-used K laws cell T (λ x. In K x (final_at K cell u v g)) v h.0 h.1

    -- the same, with the region named as the second pass names it
    abbrev seen_final : ℕ → Region
    seen_final v = join (map entry (descendants tree v) ++ (seen v ∷ []))

    found-final : (v : ℕ) → n < v → v ≤ length tree → (u : Up) (t : Rose) → plug u t ≡ whole T → top t ≡ v → Fits (descendants tree) t
        → region K cell (up_rose u) ≡ seen v → FinalMeans K n cell tree v (seen_final v)
    found-final v lo hi u (tip k) q e h o x =
        let z : ⊥ = omega (arith, fork v lo hi, ap (λ j. length (descendants tree j)) e, ap length h) in absurd z
    found-final v lo hi u (node k g) q e h o x =
        let s = all_settled K cell (descendants tree) entry size g h.1
        (λ j m. made_in K laws cell T entry size P (node k g) h (omega arith) (omega arith)
        (λ (r : k ≡ ρ). omega (arith, taxon)) j (omega arith)) in
        let r : final_at K cell u k g ≡ seen_final v =
        final-joins K cell u k g
        ∙ ap join (ap (λ rs. rs ++ (region K cell (up_rose u) ∷ [])) (s.0 ∙ ap (map entry) (h.0 ∙ ap (descendants tree) e))
        ∙ ap (λ r. map entry (descendants tree v) ++ (r ∷ [])) o) in
        subst (λ j. In K x (seen_final v) ↔ Used (Agrees K n cell) (length_of K tree) j x) e
        (subst (λ r. In K x r ↔ Used (Agrees K n cell) (length_of K tree) k x) r (final-used u k g q x))

    -- the root's descendant is on top of the whole
    pub top-final : region K cell (whole T) ≡ seen_final δ
    top-final =
        ap join (regions_⊕ K cell (crown T) (one (tip ρ))
        ∙ ap (λ rs. rs ++ (cell ρ ∷ [])) ((all_settled K cell (descendants tree) entry size (crown T) (crown_fits T).1
        (λ j m. (known j (omega arith)).0)).0 ∙ ap (map entry) (crown_fits T).0)
        ∙ ap (λ r. map entry (descendants tree δ) ++ (r ∷ [])) (sym seen-top))

    seen-means : (v : ℕ) → n < v → v ≤ length tree → FinalMeans K n cell tree v (seen_final v)
    seen-means v lo hi x = go (ℕ_discrete δ v)
      where
        go : Dec (δ ≡ v) → In K x (seen_final v) ↔ Used (Agrees K n cell) (length_of K tree) v x
        go (yes e) =
            subst (λ j. In K x (seen_final j) ↔ Used (Agrees K n cell) (length_of K tree) j x) e
            (subst (λ r. In K x r ↔ Used (Agrees K n cell) (length_of K tree) δ x) top-final
            (whole-used K laws cell T (λ x. In K x (region K cell (whole T))) δ (whole-answers K laws cell T).only_these
            (whole-answers K laws cell T).all_these x))
        go (no e) =
            let F = stands_in K cell (descendants tree) entry size seen ρ δ (crown T) (crown_fits T) known seen-top v
            (omega (
              arith,
              each-once T (node δ (crown T)) (crown_fits T) refl v (omega arith) hi,
              same-apart δ v e,
              same-apart ρ v (λ (r : ρ ≡ v). omega (arith, taxon)),
            )) in
            found-final v lo hi F.up F.tree F.stands F.named F.fits F.seen x

    -- Theorem 2
    pub final-means : (v : ℕ) → n < v → v ≤ length tree → FinalMeans K n cell tree v (final K n cell tree entry above v)
    final-means v lo hi =
        subst (λ r. FinalMeans K n cell tree v (join (map entry (descendants tree v) ++ (r ∷ [])))) (seen-inner v lo) (seen-means v lo hi)
