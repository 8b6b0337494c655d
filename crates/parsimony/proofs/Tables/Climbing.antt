-- Climbing from a node to its ancestor, and on. In a table from which every climb leads out, no climb stands anywhere twice, and it leads out
-- in as many steps as there are nodes.
-- Assumes nothing.
use mathlib.Core.Path.{◌≡◌, refl, sym, ◌∙◌, ap}
use mathlib.Core.List.{List}
use Prim.Native.Nat.{ℕ, zero, suc, ◌+◌, ◌≤◌, ◌<◌, min}
use native.Mathlib.Decide.{ℕ_discrete, dec_le}
use native.Mathlib.Omega.{arith}
use lib.ListN.{length}
use Rattle.parsimony.specs.Lists.{sum, same}
use Rattle.parsimony.specs.Table.{ancestor, nodes, descendants, climb, meets, deep}
use Rattle.parsimony.proofs.Sums.{same_self, same-apart, same-small, sum-zero, sum-add, often-below, often-once, all_from, sum_small, length_from}
use Rattle.parsimony.proofs.Tables.Descendants.{often-descendants}

module _ (tree : List ℕ) where
  pub climb-none : (s : ℕ) → climb tree s 0 ≡ 0
  climb-none zero = refl
  climb-none (suc s) = climb-none s

  -- who is out stays out
  pub climb-on : (s t k : ℕ) → s ≤ t → climb tree s k ≡ 0 → climb tree t k ≡ 0
  climb-on zero t k h e = rw e (climb-none t)
  climb-on (suc s) zero k h e = omega arith
  climb-on (suc s) (suc t) k h e = climb-on s t (ancestor tree k) (omega arith) e

  -- a climb of a + b steps is one of a steps and then one of b
  pub climb-add : (a b k : ℕ) → climb tree (a + b) k ≡ climb tree b (climb tree a k)
  climb-add zero b k = let e : 0 + b ≡ b = omega arith in ap (λ s. climb tree s k) e
  climb-add (suc a) b k = ap (λ s. climb tree s k) (suc_plus a b) ∙ climb-add a b (ancestor tree k)
    where
      suc_plus : (a b : ℕ) → suc a + b ≡ suc (a + b)
      suc_plus a b = omega arith

  -- one step more, at the end
  pub climb-more : (s k : ℕ) → climb tree (suc s) k ≡ ancestor tree (climb tree s k)
  climb-more zero k = refl
  climb-more (suc s) k = climb-more s (ancestor tree k)

  pub meets-none : (s v : ℕ) → 1 ≤ v → meets tree s v 0 ≡ 0
  meets-none zero v h = refl
  meets-none (suc s) v h = omega (arith, same-apart v 0 (omega arith), meets-none s v h)

  -- a climb stands at v exactly where some number of steps leads there
  pub meets-climb : (s v k : ℕ) → 1 ≤ meets tree s v k → (r : ℕ) × (r < s) × (climb tree r k ≡ v)
  meets-climb zero v k h = let z : ⊥ = omega arith in absurd z
  meets-climb (suc s) v k h = go (ℕ_discrete v k) (meets-climb s v (ancestor tree k))
    where
      go : Dec (v ≡ k) → (1 ≤ meets tree s v (ancestor tree k) → (r : ℕ) × (r < s) × (climb tree r (ancestor tree k) ≡ v))
          → (r : ℕ) × (r < suc s) × (climb tree r k ≡ v)
      go (yes e) ih = (0, omega arith, sym e)
      go (no e) ih = let (r, l, q) = ih (omega (arith, same-apart v k e)) in (suc r, omega arith, q)

  pub climb-meets : (s v k r : ℕ) → r < s → climb tree r k ≡ v → 1 ≤ meets tree s v k
  climb-meets zero v k r l e = omega arith
  climb-meets (suc s) v k zero l e = omega (arith, same_self v, ap (same v) e)
  climb-meets (suc s) v k (suc r) l e = omega (arith, climb-meets s v (ancestor tree k) r (omega arith) e)

  -- more steps change nothing once a climb is out
  pub meets_stable : (s v k : ℕ) → 1 ≤ v → climb tree s k ≡ 0 → meets tree (suc s) v k ≡ meets tree s v k
  meets_stable zero v k h e = omega (arith, same-apart v k (omega arith))
  meets_stable (suc s) v k h e = omega (arith, meets_stable s v (ancestor tree k) h e)

  deep_stable : (s k : ℕ) → climb tree s k ≡ 0 → deep tree (suc s) k ≡ deep tree s k
  deep_stable zero k e = omega arith
  deep_stable (suc s) k e = omega (arith, deep_stable s (ancestor tree k) e)

  pub deep-most : (s k : ℕ) → deep tree s k ≤ s
  deep-most zero k = omega arith
  deep-most (suc s) k = omega (arith, deep-most s (ancestor tree k))

  -- to stand at v after the first step is to stand at one of its descendants
  pub meets-descendants : (s v k : ℕ) → 1 ≤ v → sum (λ c. meets tree s c k) (descendants tree v) ≡ meets tree s v (ancestor tree k)
  meets-descendants zero v k h = sum-zero (descendants tree v)
  meets-descendants (suc s) v k h =
      omega (
        arith,
        sum-add (λ c. same c k) (λ c. meets tree s c (ancestor tree k)) (descendants tree v),
        often-descendants tree v k h,
        meets-descendants s v (ancestor tree k) h,
      )

  -- every climb is out after F steps
  module _ (F : ℕ) (out : (k : ℕ) → climb tree F k ≡ 0) where
    -- a node is one deeper than its ancestor
    pub deeper : (k : ℕ) → deep tree F k ≡ min 1 k + deep tree F (ancestor tree k)
    deeper k = sym (deep_stable F k (out k))

    meets-deep : (s v k : ℕ) → 1 ≤ meets tree s v k → deep tree F v ≤ deep tree F k
    meets-deep zero v k h = omega arith
    meets-deep (suc s) v k h = go (meets-deep s v (ancestor tree k)) (ℕ_discrete v k)
      where
        go : (1 ≤ meets tree s v (ancestor tree k) → deep tree F v ≤ deep tree F (ancestor tree k)) → Dec (v ≡ k) → deep tree F v ≤ deep tree F k
        go ih (yes e) = rw e (omega arith)
        go ih (no e) = omega (arith, deeper k, ih (omega (arith, same-apart v k e)))

    -- no climb stands anywhere twice
    pub meets-once : (s v k : ℕ) → 1 ≤ v → meets tree s v k ≤ 1
    meets-once zero v k h = omega arith
    meets-once (suc s) v k h = go (meets-once s v (ancestor tree k) h) (ℕ_discrete v k) (dec_le 1 (meets tree s v (ancestor tree k)))
      where
        go : meets tree s v (ancestor tree k) ≤ 1 → Dec (v ≡ k) → Dec (1 ≤ meets tree s v (ancestor tree k))
            → same v k + meets tree s v (ancestor tree k) ≤ 1
        go ih (yes e) (yes l) = omega (arith, meets-deep s v (ancestor tree k) l, deeper k, ap (λ j. deep tree F j) e)
        go ih (yes e) (no l) = omega (arith, same-small v k)
        go ih (no e) d = omega (arith, same-apart v k e)

    -- as many steps as there are nodes lead out, where each entry is a node or 0
    module _ (within : (k : ℕ) → ancestor tree k ≤ length tree) where
      deep-sum : (s k : ℕ) → k ≤ length tree → deep tree s k ≡ sum (λ v. meets tree s v k) (nodes tree)
      deep-sum zero k l = sym (sum-zero (nodes tree))
      deep-sum (suc s) zero l =
          omega (
            arith,
            sum-add (λ v. same v 0) (λ v. meets tree s v 0) (nodes tree),
            often-below 1 (length tree) 0 (omega arith),
            deep-sum s 0 l,
          )
      deep-sum (suc s) (suc i) l =
          omega (
            arith,
            sum-add (λ v. same v (suc i)) (λ v. meets tree s v (ancestor tree (suc i))) (nodes tree),
            often-once 1 (length tree) (suc i) (omega arith) (omega arith),
            deep-sum s (ancestor tree (suc i)) (within (suc i)),
          )

      climb-deep : (s k : ℕ) → climb tree s k ≡ 0 → climb tree (deep tree s k) k ≡ 0
      climb-deep zero k e = e
      climb-deep (suc s) zero e = climb-none (deep tree (suc s) 0)
      climb-deep (suc s) (suc i) e =
          let q : deep tree (suc s) (suc i) ≡ suc (deep tree s (ancestor tree (suc i))) = omega arith in
          rw q (climb-deep s (ancestor tree (suc i)) e)

      pub out_soon : (k : ℕ) → k ≤ length tree → climb tree (length tree) k ≡ 0
      out_soon k l =
          climb-on (deep tree F k) (length tree) k
          (omega (
            arith,
            deep-sum F k l,
            sum_small (λ v. meets tree F v k) (nodes tree)
                (all_from (λ v. meets tree F v k ≤ 1) 1 (length tree) (λ v p q. meets-once F v k p)),
            length_from 1 (length tree),
          ))
          (climb-deep F k (out k))
