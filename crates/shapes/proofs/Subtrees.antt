-- The subtree of a node with two descendants: the node itself, and the subtrees of the two, which have nothing in common.
-- Assumes nothing.
use mathlib.Core.Path.{◌≡◌, refl, sym, ap, subst}
use mathlib.Core.Logic.{◌≢◌}
use mathlib.Core.List.{List, [], ◌∷◌}
use Prim.Native.Nat.{ℕ, zero, suc, ◌+◌, ◌-◌, ◌≤◌, ◌<◌}
use native.Mathlib.Decide.{ℕ_discrete, dec_le}
use native.Mathlib.Omega.{arith}
use lib.ListN.{length}
use Rattle.parsimony.specs.Lists.{sum, from, same}
use Rattle.parsimony.specs.Table.{ancestor, descendants, deep}
use Rattle.parsimony.proofs.Sums.{All, often, often-once, same_self, same-apart, same_equal, same_sym, sum_small, all_from, length_from}
use Rattle.parsimony.proofs.Tables.Descendants.{Descends, each_descends, often-descendants}
use Rattle.parsimony.proofs.Tables.Climbing.{meets-descendants, deeper, deep-most}
use Rattle.parsimony.proofs.Tables.Trees.{Tree, out, meets-all, meets-least, meets-root}
use Rattle.shapes.specs.Shape.{under, inside}

module _ (T : Tree) where
  open T use {n, tree, ρ, δ, is_tree}
  open is_tree use {some, taxon, root, sole, within, leaf, stem, more}

  -- a node is in the subtree of v if it is v, or in the subtree of one of v's descendants
  under_all : (v u : ℕ) → 1 ≤ v → under tree v u ≡ same v u + sum (λ c. under tree c u) (descendants tree v)
  under_all v u p = omega (arith, meets-all T v u p, meets-descendants tree (length tree) v u p)

  pub under_self : (v : ℕ) → 1 ≤ v → under tree v v ≡ 1
  under_self v p = omega (arith, meets-all T v v p, same_self v, meets-least T v v p)

  -- a taxon other than the root has nobody below it
  pub under-taxon : (k u : ℕ) → 1 ≤ k → k ≤ n → k ≢ ρ → 1 ≤ under tree k u → u ≡ k
  under-taxon k u p q r h =
      sym (same_equal k u (omega (arith, under_all k u p, ap (sum (λ c. under tree c u)) (leaf k p q r))))

  -- every interior node is in the subtree of the root's descendant
  pub under_top : (v : ℕ) → n < v → v ≤ length tree → under tree δ v ≡ 1
  under_top v lo hi =
      omega (
        arith,
        meets-descendants tree (length tree) ρ v some,
        ap (sum (λ c. under tree c v)) stem,
        meets-all T ρ v some,
        meets-root T v hi,
        same-apart ρ v (λ (e : ρ ≡ v). omega (arith, taxon)),
      )

  -- who is in the subtree of v has its descendants there
  pub under_closed : (v u : ℕ) → 1 ≤ v → 1 ≤ under tree v u → All (λ c. (1 ≤ c) × (c ≤ length tree) × (1 ≤ under tree v c)) (descendants tree u)
  under_closed v u p h = each (descendants tree u) (each_descends tree u)
    where
      each : (cs : List ℕ) → All (Descends tree u) cs → All (λ c. (1 ≤ c) × (c ≤ length tree) × (1 ≤ under tree v c)) cs
      each [] d = tt
      each (c ∷ cs) d = (
        (d.0.some, d.0.most, omega (arith, meets-all T v c p, ap (under tree v) d.0.of)),
        each cs d.1,
      )

  -- a node that has an ancestor is deep, but not deeper than there are nodes
  pub deep-below : (c : ℕ) → 1 ≤ c → deep tree (length tree) c ≡ 1 + deep tree (length tree) (ancestor tree c)
  deep-below c p = omega (arith, deeper tree (length tree) (out T) c)

  pub deep-few : (c : ℕ) → deep tree (length tree) c ≤ length tree
  deep-few c = deep-most tree (length tree) c

  pub ancestor_in : (v : ℕ) → ancestor tree v ≤ length tree
  ancestor_in v = within v

  -- an interior node has an ancestor
  pub ancestor_some : (v : ℕ) → n < v → v ≤ length tree → 1 ≤ ancestor tree v
  ancestor_some v lo hi = go (ancestor tree v) refl
    where
      go : (a : ℕ) → a ≡ ancestor tree v → 1 ≤ a
      go zero e = absurd (omega (arith, is_tree.sole v (omega arith) hi (sym e), is_tree.taxon))
      go (suc a) e = omega arith

  -- the ancestor of an interior node is interior, unless it is the root
  pub inner-ancestor : (v : ℕ) → n < v → v ≤ length tree → v ≢ δ → n < ancestor tree v
  inner-ancestor v lo hi r = go (dec_le (ancestor tree v) n)
    where
      go : Dec (ancestor tree v ≤ n) → n < ancestor tree v
      go (no l) = omega arith
      go (yes l) = absurd (at (dec_le 1 (ancestor tree v)) (ℕ_discrete (ancestor tree v) ρ))
        where
          -- a taxon is an ancestor only if it is the root, and that has δ alone
          at : Dec (1 ≤ ancestor tree v) → Dec (ancestor tree v ≡ ρ) → ⊥
          at (no p) e = let z : v ≡ ρ = sole v (omega arith) hi (omega arith) in omega (arith, taxon)
          at (yes p) (yes e) =
              r (sym (same_equal δ v
              (omega (arith, often-descendants tree ρ v some, ap (λ cs. often cs v) stem, same_self ρ, ap (same ρ) e))))
          at (yes p) (no e) =
              omega (
                arith,
                often-descendants tree (ancestor tree v) v p,
                ap (λ cs. often cs v) (leaf (ancestor tree v) p l e),
                same_self
                    (ancestor tree v),
              )

  pub inside-few : (v : ℕ) → 1 ≤ v → inside n tree v ≤ length tree - n
  inside-few v p =
      omega (
        arith,
        sum_small (under tree v) (from (suc n) (length tree - n))
            (all_from (λ u. under tree v u ≤ 1) (suc n) (length tree - n) (λ u a b. meets-least T v u p)),
        length_from (suc n) (length tree - n),
      )

  -- an interior node v with the descendants a and b
  module _ (v a b : ℕ) (lo : n < v) (hi : v ≤ length tree) (D : descendants tree v ≡ a ∷ b ∷ []) where
    here : 1 ≤ v
    here = omega arith

    both : Descends tree v a × Descends tree v b
    both = let h = subst (All (Descends tree v)) D (each_descends tree v) in (h.0, h.1.0)

    pub some_first : (1 ≤ a) × (a ≤ length tree) × (ancestor tree a ≡ v)
    some_first = (both.0.some, both.0.most, sym both.0.of)

    pub some-second : (1 ≤ b) × (b ≤ length tree) × (ancestor tree b ≡ v)
    some-second = (both.1.some, both.1.most, sym both.1.of)

    pub under-fork : (u : ℕ) → under tree v u ≡ same v u + under tree a u + under tree b u
    under-fork u = omega (arith, under_all v u here, ap (sum (λ c. under tree c u)) D)

    pub under-once : (u : ℕ) → same v u + under tree a u + under tree b u ≤ 1
    under-once u = omega (arith, under-fork u, meets-least T v u here)

    pub not_first : a ≢ v
    not_first e = omega (arith, under-once v, same_self v, under_self v here, ap (λ c. under tree c v) e)

    pub not_second : b ≢ v
    not_second e = omega (arith, under-once v, same_self v, under_self v here, ap (λ c. under tree c v) e)

    -- neither is the root, which has no ancestor
    pub first-apart : a ≢ ρ
    first-apart e = omega (arith, some_first.2, ap (ancestor tree) e, root)

    pub second-apart : b ≢ ρ
    second-apart e = omega (arith, some-second.2, ap (ancestor tree) e, root)

    pub inside-fork : inside n tree v ≡ 1 + inside n tree a + inside n tree b
    inside-fork =
        omega (
          arith,
          sum_same (from (suc n) (length tree - n)),
          often-once (suc n) (length tree - n) v lo (omega arith),
          swapped (from (suc n) (length tree - n)),
        )
      where
        sum_same : (us : List ℕ) → sum (under tree v) us ≡ sum (same v) us + sum (under tree a) us + sum (under tree b) us
        sum_same [] = refl
        sum_same (u ∷ us) = omega (arith, sum_same us, under-fork u)

        swapped : (us : List ℕ) → sum (same v) us ≡ often us v
        swapped [] = refl
        swapped (u ∷ us) = omega (arith, swapped us, same_sym v u)
