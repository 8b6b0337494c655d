-- The descendants of a node: each node is among those of its ancestor, once.
-- Assumes nothing.
use mathlib.Core.Path.{◌≡◌, refl, sym, ◌∙◌, ap}
use mathlib.Core.List.{List, [], ◌∷◌}
use Prim.Native.Nat.{ℕ, zero, suc, ◌+◌, ◌-◌, ◌*◌, ◌≤◌, ◌<◌}
use native.Mathlib.Decide.{ℕ_discrete, dec_le}
use native.Mathlib.Numerals.{add-one}
use native.Mathlib.Omega.{arith}
use lib.ListN.{length, get_or, get_or-eq_default}
use Rattle.parsimony.specs.Lists.{sum, choose, same}
use Rattle.parsimony.specs.Table.{ancestor, nodes, having, descendants}
use Rattle.parsimony.proofs.Sums.{All, often, same-apart, same_swap, often-once, all_from}

-- the entry of the node k + 1
pub entry_at : (tree : List ℕ) (k : ℕ) → ancestor tree (k + 1) ≡ get_or tree k 0
entry_at tree k = rw (add-one k)

-- the entry of the node v
pub entry_of : (tree : List ℕ) (v : ℕ) → 1 ≤ v → ancestor tree v ≡ get_or tree (v - 1) 0
entry_of tree v p = let e : v - 1 + 1 ≡ v = omega arith in ap (ancestor tree) (sym e) ∙ entry_at tree (v - 1)

module _ (tree : List ℕ) where
  -- past the table there is no ancestor
  pub past_table : (k : ℕ) → length tree < k → ancestor tree k ≡ 0
  past_table zero h = refl
  past_table (suc i) h = get_or-eq_default tree 0 (omega arith)

  often-having : (ks : List ℕ) (v m : ℕ) → often (having tree v ks) m ≡ same v (ancestor tree m) * often ks m
  unfolding having same
  often-having [] v m = omega arith
  often-having (k ∷ ks) v m = go (ℕ_discrete v (ancestor tree k)) (often-having ks v m) (same_swap (λ j. same v (ancestor tree j)) k m)
    where
      go : (d : Dec (v ≡ ancestor tree k)) → often (having tree v ks) m ≡ same v (ancestor tree m) * often ks m
          → same k m * choose d 1 0 ≡ same k m * same v (ancestor tree m)
          → often (choose d (k ∷ having tree v ks) (having tree v ks)) m ≡ same v (ancestor tree m) * (same k m + often ks m)
      go (yes e) ih s = omega arith
      go (no e) ih s = omega arith

  -- a number is among the descendants of v just where v is its ancestor, and then once
  pub often-descendants : (v k : ℕ) → 1 ≤ v → often (descendants tree v) k ≡ same v (ancestor tree k)
  often-descendants v k h = often-having (nodes tree) v k ∙ go k (dec_le k (length tree))
    where
      none : (k : ℕ) → ancestor tree k ≡ 0 → same v (ancestor tree k) * often (nodes tree) k ≡ same v (ancestor tree k)
      none k e = let z : same v (ancestor tree k) ≡ 0 = rw e (same-apart v 0 (omega arith)) in rw z (omega arith)

      go : (k : ℕ) → Dec (k ≤ length tree) → same v (ancestor tree k) * often (nodes tree) k ≡ same v (ancestor tree k)
      go zero d = none 0 refl
      go (suc i) (yes q) = rw (often-once 1 (length tree) (suc i) (omega arith) (omega arith)) (omega arith)
      go (suc i) (no q) = none (suc i) (past_table (suc i) (omega arith))

  -- to count the descendants is to count the entries
  pub length-having : (ks : List ℕ) (v : ℕ) → length (having tree v ks) ≡ sum (λ k. same v (ancestor tree k)) ks
  unfolding having same
  length-having [] v = refl
  length-having (k ∷ ks) v = go (ℕ_discrete v (ancestor tree k)) (length-having ks v)
    where
      go : (d : Dec (v ≡ ancestor tree k)) → length (having tree v ks) ≡ sum (λ k. same v (ancestor tree k)) ks
          → length (choose d (k ∷ having tree v ks) (having tree v ks)) ≡ choose d 1 0 + sum (λ k. same v (ancestor tree k)) ks
      go (yes e) ih = omega arith
      go (no e) ih = omega arith

  -- c is a node, and v is its ancestor
  pub record Descends (v c : ℕ) : Type 0 where
    pub some : 1 ≤ c
    pub most : c ≤ length tree
    pub of : v ≡ ancestor tree c

  all-having : (ks : List ℕ) (v : ℕ) → All (λ c. (1 ≤ c) × (c ≤ length tree)) ks → All (Descends v) (having tree v ks)
  unfolding having
  all-having [] v h = tt
  all-having (k ∷ ks) v h = go (ℕ_discrete v (ancestor tree k)) (all-having ks v h.1)
    where
      go : (d : Dec (v ≡ ancestor tree k)) → All (Descends v) (having tree v ks)
          → All (Descends v) (choose d (k ∷ having tree v ks) (having tree v ks))
      go (yes e) ih = (record { some = h.0.0; most = h.0.1; of = e }, ih)
      go (no e) ih = ih

  pub each_descends : (v : ℕ) → All (Descends v) (descendants tree v)
  each_descends v =
      all-having (nodes tree) v (all_from (λ c. (1 ≤ c) × (c ≤ length tree)) 1 (length tree) (λ k p q. (p, omega arith)))
