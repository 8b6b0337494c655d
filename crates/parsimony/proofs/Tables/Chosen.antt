-- ACCTRAN's and DELTRAN's choices are ways of least length; and a choice at each node, from the root's state down, is one way and no other.
-- Assumes nothing.
use mathlib.Core.Path.{◌≡◌, refl, sym, ◌∙◌, ap, subst}
use mathlib.Core.Logic.{◌≢◌}
use mathlib.Core.List.{List, [], ◌∷◌, ◌++◌, map}
use Prim.Native.Nat.{ℕ, zero, suc, ◌+◌, ◌≤◌, ◌<◌}
use native.Mathlib.Decide.{ℕ_discrete, dec_le}
use native.Mathlib.Omega.{arith}
use lib.ListN.{length}
use Rattle.parsimony.specs.Table.{ancestor, descendants, climb}
use Rattle.parsimony.specs.Kind.{Kind, Laws, In}
use Rattle.parsimony.specs.Way.{Agrees, length_of}
use Rattle.parsimony.specs.Meaning.{Reconstructs}
use Rattle.parsimony.specs.Steps.{FirstPass, SecondPass, final, length_by, Chosen, RootChosen}
use Rattle.parsimony.proofs.Sums.{All, all_map}
use Rattle.parsimony.proofs.Rose.Shapes.{tip, node, one}
use Rattle.parsimony.proofs.Rose.Lengths.{region, Allowed, Accelerated, all-reach}
use Rattle.parsimony.proofs.Rose.Reroot.{◌⊕◌, allowed_off, off_allowed}
use Rattle.parsimony.proofs.Rose.Delay.{NearestFinal, Ruled, put_off_least, nearest_final_puts_off}
use Rattle.parsimony.proofs.Tables.Descendants.{Descends, each_descends}
use Rattle.parsimony.proofs.Tables.Trees.{Tree, δ-ancestor, δ-most}
use Rattle.parsimony.proofs.Tables.Fitting.{in_tree, not_root}
use Rattle.parsimony.proofs.Tables.Whole.{δ-inner, crown, crown_fits, whole, whole-off, whole_length}
use Rattle.parsimony.proofs.Tables.Choices.{accelerated, range_over, range_of, NearestRange, nearest_by_branch, whole_ruled}
use Rattle.parsimony.proofs.Tables.Ways.{from-whole, length_whole}
use Rattle.parsimony.proofs.Tables.First.{inner-apart, made_in, entry_is, least_is, length-means}
use Rattle.parsimony.proofs.Tables.Final.{seen, seen-inner, known, seen-top, top-final}

module _ (K : Kind) (laws : Laws K) (cell : ℕ → K.Region) (T : Tree) (entry : ℕ → K.Region) (size : ℕ → ℕ) where
  open K use {State, Region, distance, away, join, nearest}
  open T use {n, tree, ρ, δ, is_tree}
  open is_tree use {some, taxon, sole, within, leaf, fork, reach}

  -- what holds at each node but the root and its descendant, of the node and its ancestor, holds of a node's descendants
  follows : (Branch : ℕ → ℕ → Type 0) → ((c : ℕ) → 1 ≤ c → c ≤ length tree → c ≢ ρ → Branch (ancestor tree c) c)
      → (v : ℕ) → 1 ≤ v → All (Branch v) (descendants tree v)
  follows Branch h v p = all_map (Descends tree v) (Branch v) at (descendants tree v) (each_descends tree v)
    where
      at : (c : ℕ) → Descends tree v c → Branch v c
      at c d =
          subst (λ u. Branch u c) (sym d.of)
          (h c d.some d.most (not_root T v p c d))

  module _ (P : FirstPass K n cell tree entry size) where
    -- a way of this length that agrees is a shortest way
    pub reconstructs : (w : ℕ → State) → Agrees K n cell w → length_of K tree w ≡ length_by K n cell tree ρ δ entry size
        → Reconstructs K n cell tree w
    reconstructs w g e =
        record { good = g; least = λ w' g'. omega (arith, e, (length-means K laws cell T entry size P).bound w' g') }

    -- ---- ACCTRAN

    pub acctran : (w : ℕ → State) → RootChosen K n cell tree ρ δ entry w → Chosen K n cell tree ρ entry w
        → Agrees K n cell w × (length_of K tree w ≡ length_by K n cell tree ρ δ entry size)
    acctran w r c =
        let e = entry_is K laws cell T entry size P δ (δ-inner T) (δ-most T) (crown T) (crown_fits T) in
        let d : w δ ≡ nearest (region K cell (node δ (crown T))) (w ρ) =
        rw e.0 (c.forks δ (δ-inner T) (δ-most T) ∙ ap (λ u. nearest (entry δ) (w u)) (δ-ancestor T)) in
        let m = all-reach K cell laws (one (node δ (crown T))) w (w ρ) (d, chosen) in
        let ok : Allowed K cell (whole T) w =
        off_allowed K cell (whole T) w
        (omega (arith, whole-off T K cell w, allowed_off K cell (node δ (crown T)) w m.0, r.own)) in (
          from-whole K laws cell T w ok,
          length_whole K laws cell T w ∙ omega (
            arith,
            whole_length T K cell w laws,
            m.1,
            e.1,
            ap (away (w ρ)) e.0,
            laws.join_in (cell ρ) (entry δ ∷ []) (w ρ) r.joined,
            r.own,
          ),
        )
      where
        each : (k : ℕ) → 1 ≤ k → k ≤ length tree → k ≢ ρ → w k ≡ nearest (entry k) (w (ancestor tree k))
        each k p q a = go (dec_le k n)
          where
            go : Dec (k ≤ n) → w k ≡ nearest (entry k) (w (ancestor tree k))
            go (yes l) = rw (P.taxa k p l).0 (c.taxa k p l a)
            go (no l) = c.forks k (omega arith) q

        chosen : Accelerated K cell (node δ (crown T)) w
        chosen =
            accelerated K cell (descendants tree) entry size w (node δ (crown T)) (crown_fits T)
            (λ k l. let i = in_tree T (node δ (crown T)) (crown_fits T) (omega (arith, δ-inner T)) (δ-most T) k l in (
              made_in K laws cell T entry size P (node δ (crown T)) (crown_fits T) (omega (arith, δ-inner T)) (δ-most T)
                  (inner-apart K laws cell T entry size δ (δ-inner T)) k l,
              follows (λ v c. w c ≡ nearest (entry c) (w v)) each k i.0,
            ))

    -- ---- DELTRAN

    module _ (above : ℕ → Region) (Q : SecondPass K n cell tree ρ δ entry above)
        (between : (r : Region) (x y : State) → In K y r → distance x (nearest r x) + distance (nearest r x) y ≡ distance x y) where
      abbrev seen_above : ℕ → Region
      seen_above = seen K laws cell T entry size above

      range-over : (w : ℕ → State) (v : ℕ) (cs : List ℕ) → 2 ≤ length cs
          → range_over K cell (descendants tree) entry size w seen_above v cs ≡ join (map entry cs ++ (seen_above v ∷ []))
      range-over w v [] h = let z : ⊥ = omega arith in absurd z
      range-over w v (c ∷ cs) h = refl

      inner-range : (w : ℕ → State) (v : ℕ) → n < v → v ≤ length tree
          → range_of K cell (descendants tree) entry size w seen_above v ≡ final K n cell tree entry above v
      inner-range w v lo hi =
          range-over w v (descendants tree v) (fork v lo hi)
          ∙ ap (λ r. join (map entry (descendants tree v) ++ (r ∷ []))) (seen-inner K laws cell T entry size above v lo)

      pub deltran : (w : ℕ → State) → w ρ ≡ nearest (cell ρ) (w δ) → Chosen K n cell tree ρ (final K n cell tree entry above) w
          → Agrees K n cell w × (length_of K tree w ≡ length_by K n cell tree ρ δ entry size)
      deltran w r c =
          let m = put_off_least K laws cell (NearestFinal K cell) (nearest_final_puts_off K laws cell between) δ (crown T ⊕ one (tip ρ)) w
          top_in ruled in
          (from-whole K laws cell T w m.0, length_whole K laws cell T w ∙ m.1 ∙ least_is K laws cell T entry size P)
        where
          each : (k : ℕ) → 1 ≤ k → k ≤ length tree → k ≢ ρ
              → w k ≡ nearest (range_of K cell (descendants tree) entry size w seen_above k) (w (ancestor tree k))
          each k p q a = go (dec_le k n)
            where
              go : Dec (k ≤ n) → w k ≡ nearest (range_of K cell (descendants tree) entry size w seen_above k) (w (ancestor tree k))
              go (yes l) =
                  subst (λ cs. w k ≡ nearest (range_over K cell (descendants tree) entry size w seen_above k cs) (w (ancestor tree k)))
                  (sym (leaf k p l a)) (c.taxa k p l a)
              go (no l) = rw (inner-range w k (omega arith) q) (c.forks k (omega arith) q)

          top_in : In K (w δ) (region K cell (whole T))
          top_in =
              let e : region K cell (whole T) ≡ final K n cell tree entry above δ =
              top-final K laws cell T entry size above P Q
              ∙ ap (λ r. join (map entry (descendants tree δ) ++ (r ∷ []))) (seen-inner K laws cell T entry size above δ (δ-inner T)) in
              rw (e, c.forks δ (δ-inner T) (δ-most T)) (laws.nearest_in (final K n cell tree entry above δ) (w (ancestor tree δ)))

          ruled : Ruled K cell (NearestFinal K cell) (whole T) w []
          ruled =
              whole_ruled K cell (descendants tree) entry size w seen_above (NearestFinal K cell)
              (NearestRange K cell (descendants tree) entry size w seen_above)
              (nearest_by_branch K cell (descendants tree) entry size w seen_above) ρ δ (crown T) (crown_fits T)
              (λ k l. (
                known K laws cell T entry size above P Q k l,
                follows (NearestRange K cell (descendants tree) entry size w seen_above) each k
                    (in_tree T (node δ (crown T)) (crown_fits T) (omega (arith, δ-inner T)) (δ-most T) k l).0,
              ))
              (seen-top K laws cell T entry size above P Q) (λ qs. r)

  -- ---- one way and no other

  pub one_way : (range : ℕ → Region) (w w' : ℕ → State) → Chosen K n cell tree ρ range w → Chosen K n cell tree ρ range w' → w ρ ≡ w' ρ
      → (k : ℕ) → 1 ≤ k → k ≤ length tree → w k ≡ w' k
  one_way range w w' c c' e k p q = let (s, r) = reach k p q in by_steps s k p q r
    where
      by_steps : (s k : ℕ) → 1 ≤ k → k ≤ length tree → climb tree s k ≡ ρ → w k ≡ w' k
      by_steps zero k p q r = rw r e
      by_steps (suc s) k p q r = go (ℕ_discrete k ρ) (dec_le k n) (by_steps s (ancestor tree k))
        where
          go : Dec (k ≡ ρ) → Dec (k ≤ n)
              → (1 ≤ ancestor tree k → ancestor tree k ≤ length tree → climb tree s (ancestor tree k) ≡ ρ → w (ancestor tree k) ≡ w' (ancestor tree k))
              → w k ≡ w' k
          go (yes a) d ih = rw a e
          go (no a) d ih = from-above d (ih (up (dec_le 1 (ancestor tree k))) (within k) r)
            where
              up : Dec (1 ≤ ancestor tree k) → 1 ≤ ancestor tree k
              up (yes l) = l
              up (no l) = absurd (a (sole k p q (omega arith)))

              from-above : Dec (k ≤ n) → w (ancestor tree k) ≡ w' (ancestor tree k) → w k ≡ w' k
              from-above (yes l) i = c.taxa k p l a ∙ ap (nearest (cell k)) i ∙ sym (c'.taxa k p l a)
              from-above (no l) i = c.forks k (omega arith) q ∙ ap (nearest (range k)) i ∙ sym (c'.forks k (omega arith) q)
