-- A table that is a tree. Lemmas below take it as one argument: the record `Tree` has the table with what is known of it.
-- Assumes nothing.
use mathlib.Core.Path.{◌≡◌, sym, ◌∙◌, ap}
use mathlib.Core.Logic.{◌≢◌}
use mathlib.Core.List.{List, [], ◌∷◌}
use Prim.Native.Nat.{ℕ, zero, suc, ◌+◌, ◌≤◌, min}
use native.Mathlib.Decide.{ℕ_discrete, dec_le}
use native.Mathlib.Omega.{arith}
use lib.ListN.{length}
use Rattle.parsimony.specs.Lists.{same}
use Rattle.parsimony.specs.Table.{ancestor, descendants, climb, meets, below, IsTree}
use Rattle.parsimony.proofs.Sums.{All, same_self, same-apart, same_equal}
use Rattle.parsimony.proofs.Tables.Descendants.{past_table, Descends, each_descends}
use Rattle.parsimony.proofs.Tables.Climbing.{
  climb-on,
  climb-more,
  meets-none,
  meets-climb,
  climb-meets,
  meets_stable,
  meets-once,
  out_soon,
}

pub record Tree : Type 0 where
  pub n : ℕ
  pub tree : List ℕ
  pub ρ : ℕ
  pub δ : ℕ
  pub is_tree : IsTree n tree ρ δ

module _ (T : Tree) where
  open T use {n, tree, ρ, δ, is_tree}
  open is_tree use {some, taxon, root, sole, more, within, leaf, stem, fork, reach}

  -- ---- climbing ends

  -- one number of steps serves the nodes 1 to m
  gather : (m : ℕ) → ((k : ℕ) → 1 ≤ k → k ≤ m → (s : ℕ) × (climb tree s k ≡ 0)) → (F : ℕ) × ((k : ℕ) → k ≤ m → climb tree F k ≡ 0)
  gather zero h = (0, λ k l. omega arith)
  gather (suc m) h =
      let (F, g) = gather m (λ k p l. h k p (omega arith)) in
      let (s, e) = h (suc m) (omega arith) (omega arith) in
      (F + s, λ k l. go F g s e k l (dec_le k m))
    where
      go : (F : ℕ) → ((k : ℕ) → k ≤ m → climb tree F k ≡ 0) → (s : ℕ) → climb tree s (suc m) ≡ 0
          → (k : ℕ) → k ≤ suc m → Dec (k ≤ m) → climb tree (F + s) k ≡ 0
      go F g s e k l (yes q) = climb-on tree F (F + s) k (omega arith) (g k q)
      go F g s e k l (no q) =
          let r : k ≡ suc m = omega arith in
          rw r (climb-on tree s (F + s) (suc m) (omega arith) e)

  all_out : (F : ℕ) × ((k : ℕ) → climb tree F k ≡ 0)
  all_out =
      let (F, g) = gather (length tree) (λ k p l. let (s, e) = reach k p l in (suc s, climb-more tree s k ∙ ap (ancestor tree) e ∙ root)) in
      (suc F, λ k. g (ancestor tree k) (within k))

  -- as many steps as there are nodes lead from each number past the root
  pub out : (k : ℕ) → climb tree (length tree) k ≡ 0
  out k = go (dec_le k (length tree))
    where
      go : Dec (k ≤ length tree) → climb tree (length tree) k ≡ 0
      go (yes q) = out_soon tree all_out.0 all_out.1 within k q
      go (no q) = climb-on tree 1 (length tree) k (omega (arith, more)) (past_table tree k (omega arith))

  -- ---- what climbing meets

  -- one step more makes no difference
  pub meets-all : (v k : ℕ) → 1 ≤ v → same v k + below tree v k ≡ meets tree (length tree) v k
  meets-all v k p = meets_stable tree (length tree) v k p (out k)

  pub meets-least : (v k : ℕ) → 1 ≤ v → meets tree (length tree) v k ≤ 1
  meets-least v k p = meets-once tree (length tree) out (length tree) v k p

  -- each node comes to the root once
  meets_root_in : (s k : ℕ) → k ≤ length tree → climb tree s k ≡ 0 → meets tree s ρ k ≡ min 1 k
  meets_root_in zero k l e = omega arith
  meets_root_in (suc s) k l e = go (ℕ_discrete ρ k) (dec_le 1 k) (meets_root_in s (ancestor tree k) (within k) e)
    where
      above : ρ ≢ k → 1 ≤ k → Dec (1 ≤ ancestor tree k) → 1 ≤ ancestor tree k
      above q p (yes r) = r
      above q p (no r) = absurd (q (sym (sole k p l (omega arith))))

      go : Dec (ρ ≡ k) → Dec (1 ≤ k) → meets tree s ρ (ancestor tree k) ≡ min 1 (ancestor tree k)
          → same ρ k + meets tree s ρ (ancestor tree k) ≡ min 1 k
      go (yes q) d ih = omega (arith, same_self ρ, ap (same ρ) q, ap (ancestor tree) q, root, some)
      go (no q) (yes p) ih = omega (arith, same-apart ρ k q, above q p (dec_le 1 (ancestor tree k)))
      go (no q) (no p) ih = let z : k ≡ 0 = omega arith in omega (arith, same-apart ρ k q, ap (ancestor tree) z)

  pub meets-root : (k : ℕ) → k ≤ length tree → meets tree (length tree) ρ k ≡ min 1 k
  meets-root k l = meets_root_in (length tree) k l (out k)

  -- whoever has no ancestor meets nothing but itself
  pub no_ancestor : (v k : ℕ) → 1 ≤ v → ancestor tree k ≡ 0 → 1 ≤ meets tree (length tree) v k → v ≡ k
  no_ancestor v k p e l =
      same_equal v k (omega (arith, meets-all v k p, ap (meets tree (length tree) v) e, meets-none tree (length tree) v p))

  -- below v means: some number of steps, one or more, leads to v
  pub below_steps : (v k : ℕ) → 1 ≤ v → 1 ≤ below tree v k → (s : ℕ) × (climb tree (suc s) k ≡ v)
  below_steps v k p h = let (s, _, e) = meets-climb tree (length tree) v (ancestor tree k) h in (s, e)

  pub steps_below : (v k s : ℕ) → 1 ≤ v → climb tree (suc s) k ≡ v → 1 ≤ below tree v k
  steps_below v k s p e = go (dec_le (length tree) s)
    where
      go : Dec (length tree ≤ s) → 1 ≤ below tree v k
      go (yes l) =
          let z : climb tree s (ancestor tree k) ≡ 0 = climb-on tree (length tree) s (ancestor tree k) l (out (ancestor tree k)) in
          omega (arith, e, z)
      go (no l) = climb-meets tree (length tree) v (ancestor tree k) s (omega arith) e

  -- ---- the root's descendant

  δ_descends : Descends tree ρ δ
  δ_descends = subst_stem (descendants tree ρ) stem (each_descends tree ρ)
    where
      subst_stem : (cs : List ℕ) → cs ≡ δ ∷ [] → All (Descends tree ρ) cs → Descends tree ρ δ
      subst_stem cs e a = (rw e at a).0

  pub δ-ancestor : ancestor tree δ ≡ ρ
  δ-ancestor = sym δ_descends.of

  pub δ-some : 1 ≤ δ
  δ-some = δ_descends.some

  pub δ-most : δ ≤ length tree
  δ-most = δ_descends.most

  pub δ-apart : δ ≢ ρ
  δ-apart e = omega (arith, ap (ancestor tree) e, δ-ancestor, root, some)
