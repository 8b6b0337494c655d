-- A corrected cell. Only entries on the path from the taxon to the root are written, and each node there is settled anew: then all are settled for
-- the corrected cells. A node off the path has the same entry as before, and so has each of its descendants.
-- Assumes nothing.
use mathlib.Core.Path.{◌≡◌, refl, sym, ◌∙◌, ap, ap₂}
use mathlib.Core.Logic.{◌≢◌}
use mathlib.Core.List.{List, [], ◌∷◌, map}
use Prim.Native.Nat.{ℕ, ◌+◌, ◌≤◌, ◌<◌}
use native.Mathlib.Decide.{dec_le}
use native.Mathlib.Omega.{arith}
use lib.ListN.{length}
use Rattle.parsimony.specs.Lists.{sum, same}
use Rattle.parsimony.specs.Table.{descendants, meets, below}
use Rattle.parsimony.specs.Kind.{Kind}
use Rattle.parsimony.specs.Steps.{Settled, FirstPass}
use Rattle.parsimony.proofs.Sums.{All, all_map, all-zero, same_self}
use Rattle.parsimony.proofs.Tables.Descendants.{Descends, each_descends}
use Rattle.parsimony.proofs.Tables.Climbing.{meets-descendants}
use Rattle.parsimony.proofs.Tables.Trees.{Tree, meets-all}

-- what two tables have at the nodes of a list
module _ (K : Kind) (entry entry' : ℕ → K.Region) (size size' : ℕ → ℕ) where
  abbrev pub Alike : ℕ → Type 0
  Alike k = (entry' k ≡ entry k) × (size' k ≡ size k)

  pub all_alike : (ks : List ℕ) → All Alike ks → (map entry' ks ≡ map entry ks) × (sum size' ks ≡ sum size ks)
  all_alike [] h = (refl, refl)
  all_alike (k ∷ ks) h =
      let r = all_alike ks h.1 in
      (ap₂ (λ x xs. x ∷ xs) h.0.0 r.0, ap₂ (λ x y. x + y) h.0.1 r.1)

  -- a node stays settled where its entry and its descendants' are as before
  pub stays_settled : (tree : List ℕ) (v : ℕ) → Alike v → All Alike (descendants tree v) → Settled K tree entry size v
      → Settled K tree entry' size' v
  stays_settled tree v h d s =
      let r = all_alike (descendants tree v) d in
      record {
        joined = h.0 ∙ s.joined ∙ ap K.join (sym r.0);
        summed = h.1 ∙ s.summed ∙ ap₂ (λ x xs. x + K.cost xs) (sym r.1) (sym r.0);
      }

module _ (K : Kind) (T : Tree) (cell cell' : ℕ → K.Region) (entry entry' : ℕ → K.Region) (size size' : ℕ → ℕ) (x : ℕ) where
  open T use {n, tree, is_tree}

  -- the node v is off the path from x, and so are its descendants: none of them is x
  apart : (v : ℕ) → n < v → below tree v x ≡ 0 → All (λ c. (1 ≤ c) × (c ≤ length tree) × (c ≢ x) × (below tree c x ≡ 0)) (descendants tree v)
  apart v lo z =
      both (descendants tree v) (each_descends tree v)
      (all-zero (λ c. meets tree (length tree) c x) (descendants tree v) (meets-descendants tree (length tree) v x (omega arith) ∙ z))
    where
      both : (cs : List ℕ) → All (Descends tree v) cs → All (λ c. meets tree (length tree) c x ≡ 0) cs
          → All (λ c. (1 ≤ c) × (c ≤ length tree) × (c ≢ x) × (below tree c x ≡ 0)) cs
      both [] d e = tt
      both (c ∷ cs) d e = (
        (
          d.0.some,
          d.0.most,
          λ (q : c ≡ x). omega (arith, e.0, meets-all T c x d.0.some, same_self c, ap (same c) q),
          omega (arith, e.0, meets-all T c x d.0.some),
        ),
        both cs d.1 e.1,
      )

  pub corrected : FirstPass K n cell tree entry size
      → ((k : ℕ) → 1 ≤ k → k ≤ n → k ≢ x → cell' k ≡ cell k)
      → ((k : ℕ) → 1 ≤ k → k ≤ n → (entry' k ≡ cell' k) × (size' k ≡ 0))
      → ((v : ℕ) → n < v → v ≤ length tree → below tree v x ≡ 0 → (entry' v ≡ entry v) × (size' v ≡ size v))
      → ((v : ℕ) → n < v → v ≤ length tree → 1 ≤ below tree v x → Settled K tree entry' size' v)
      → FirstPass K n cell' tree entry' size'
  corrected P cells taxa' kept anew =
      record {
        taxa = taxa';
        forks = λ v lo hi. go v lo hi (dec_le 1 (below tree v x));
      }
    where
      alike : (k : ℕ) → (1 ≤ k) × (k ≤ length tree) × (k ≢ x) × (below tree k x ≡ 0) → Alike K entry entry' size size' k
      alike k (p, q, a, z) = at (dec_le k n)
        where
          at : Dec (k ≤ n) → (entry' k ≡ entry k) × (size' k ≡ size k)
          at (yes l) = (
            (taxa' k p l).0 ∙ cells k p l a ∙ sym (P.taxa k p l).0,
            (taxa' k p l).1 ∙ sym (P.taxa k p l).1,
          )
          at (no l) = kept k (omega arith) q z

      go : (v : ℕ) → n < v → v ≤ length tree → Dec (1 ≤ below tree v x) → Settled K tree entry' size' v
      go v lo hi (yes l) = anew v lo hi l
      go v lo hi (no l) =
          let z : below tree v x ≡ 0 = omega arith in
          stays_settled K entry entry' size size' tree v (kept v lo hi z)
          (all_map (λ c. (1 ≤ c) × (c ≤ length tree) × (c ≢ x) × (below tree c x ≡ 0)) (Alike K entry entry' size size') alike
          (descendants tree v) (apart v lo z))
          (P.forks v lo hi)
