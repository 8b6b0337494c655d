-- The length of a way in a tree that fits is the plain sum of its changes over the nodes below the tree's top; and a way is allowed there just
-- where each node without descendants has a state of its cell.
-- Assumes nothing.
use mathlib.Core.Path.{◌≡◌, refl, sym, ◌∙◌, ap, subst}
use mathlib.Core.List.{List, []}
use Prim.Native.Nat.{ℕ, zero, suc, ◌+◌, ◌*◌, ◌≤◌, min}
use native.Mathlib.Decide.{dec_le}
use native.Mathlib.Omega.{arith}
use lib.ListN.{length}
use Rattle.parsimony.specs.Lists.{sum, same}
use Rattle.parsimony.specs.Table.{ancestor, nodes, descendants, below}
use Rattle.parsimony.specs.Kind.{Kind, Laws, In}
use Rattle.parsimony.specs.Way.{change_to, change, length_of, length_below}
use Rattle.parsimony.proofs.Sums.{All, same_self, same_equal, sum-zero, sum_add_times, sum_cong, sum-at, often-once}
use Rattle.parsimony.proofs.Rose.Shapes.{Rose, Roses, tip, node, one, more, top, count, counts}
use Rattle.parsimony.proofs.Rose.Lengths.{length_in, lengths_in, Allowed, AllAllowed}
use Rattle.parsimony.proofs.Tables.Descendants.{Descends, each_descends}
use Rattle.parsimony.proofs.Tables.Trees.{Tree, meets-root}
use Rattle.parsimony.proofs.Tables.Fitting.{tops, inner, count-inner, Fits, AllFit, some_branch, inner_below}

module _ (K : Kind) (laws : Laws K) (cell : ℕ → K.Region) (T : Tree) (w : ℕ → K.State) where
  open K use {distance}
  open T use {tree, ρ, is_tree}
  open is_tree use {within}

  -- the changes at the nodes, each as often as p says
  abbrev over : (ℕ → ℕ) → ℕ
  over p = sum (λ k. p k * change K tree w k) (nodes tree)

  over_cong : (p q : ℕ → ℕ) → ((k : ℕ) → p k ≡ q k) → over p ≡ over q
  over_cong p q e =
      sum_cong (λ k. p k * change K tree w k) (λ k. q k * change K tree w k) (nodes tree) (λ k. ap (λ a. a * change K tree w k) (e k))

  change-from : (c v : ℕ) → 1 ≤ v → change_to K w c v ≡ distance (w c) (w v)
  change-from c zero p = let z : ⊥ = omega arith in absurd z
  change-from c (suc a) p = refl

  -- one branch
  branch : (v c : ℕ) → 1 ≤ v → Descends tree v c → distance (w v) (w c) ≡ over (same c)
  branch v c p d =
      laws.either_way (w v) (w c) ∙ sym (change-from c v p) ∙ ap (change_to K w c) d.of
      ∙ sym (sum-at (change K tree w) (nodes tree) c
      ∙ rw (often-once 1 (length tree) c d.some (omega (arith, d.most))) (omega arith))

  mutual
    length_over : (t : Rose) → Fits (descendants tree) t → 1 ≤ top t → length_in K cell t w ≡ over (inner t)
    length_over (tip v) h p =
        sym (sum_cong (λ k. 0 * change K tree w k) (λ k. 0) (nodes tree) (λ k. omega arith) ∙ sum-zero (nodes tree))
    length_over (node v f) h p =
        lengths-over f h.1 v p (subst (All (Descends tree v)) (sym h.0) (each_descends tree v))

    lengths-over : (f : Roses) → AllFit (descendants tree) f → (v : ℕ) → 1 ≤ v → All (Descends tree v) (tops f)
        → lengths_in K cell f w (w v) ≡ over (counts f)
    lengths-over (one t) h v p a =
        omega (
          arith,
          branch v (top t) p a.0,
          length_over t h a.0.some,
          over_cong (count t) (λ k. same (top t) k + inner t k) (count-inner t),
          sum_add_times (same (top t)) (inner t) (change K tree w) (nodes tree),
        )
    lengths-over (more t f) h v p a =
        omega (
          arith,
          branch v (top t) p a.0,
          length_over t h.0 a.0.some,
          lengths-over f h.1 v p a.1,
          over_cong (count t) (λ k. same (top t) k + inner t k) (count-inner t),
          sum_add_times (same (top t)) (inner t) (change K tree w) (nodes tree),
          sum_add_times (count t) (counts f) (change K tree w) (nodes tree),
        )

  -- the length in a tree is the length below its top
  pub length_flat : (t : Rose) → Fits (descendants tree) t → 1 ≤ top t → length_in K cell t w ≡ length_below K tree (top t) w
  length_flat t h p = length_over t h p ∙ over_cong (inner t) (below tree (top t)) (inner_below T t h p)

  -- and the length of all is the length below the root
  pub length-root : length_of K tree w ≡ length_below K tree ρ w
  length-root = sum_cong (change K tree w) (λ k. below tree ρ k * change K tree w k) (nodes tree) at
    where
      counted : (k a : ℕ) → below tree ρ k ≡ min 1 a → change_to K w k a ≡ below tree ρ k * change_to K w k a
      counted k zero e = omega arith
      counted k (suc a) e = let z : below tree ρ k ≡ 1 = omega arith in rw z (omega arith)

      at : (k : ℕ) → change K tree w k ≡ below tree ρ k * change K tree w k
      at k = counted k (ancestor tree k) (meets-root T (ancestor tree k) (within k))

-- ---- what is allowed, of each node without descendants by itself

module _ (K : Kind) (cell : ℕ → K.Region) (under : ℕ → List ℕ) (w : ℕ → K.State) where
  abbrev AtTip : ℕ → Type 0
  AtTip k = under k ≡ [] → In K (w k) (cell k)

  mutual
    pub allowed_at : (t : Rose) → Fits under t → Allowed K cell t w → (k : ℕ) → 1 ≤ count t k → AtTip k
    allowed_at (tip v) h ok k l e = subst (λ u. In K (w u) (cell u)) (same_equal v k l) ok
    allowed_at (node v f) h ok k l e = go (dec_le 1 (counts f k)) (λ q. all_allowed_at f h.1 ok k q e)
      where
        go : Dec (1 ≤ counts f k) → (1 ≤ counts f k → In K (w k) (cell k)) → In K (w k) (cell k)
        go (yes q) ih = ih q
        go (no q) ih = absurd (some_branch under f (h.0 ∙ ap under (same_equal v k (omega arith)) ∙ e))

    all_allowed_at : (f : Roses) → AllFit under f → AllAllowed K cell f w → (k : ℕ) → 1 ≤ counts f k → AtTip k
    all_allowed_at (one t) h ok k l e = allowed_at t h ok k l e
    all_allowed_at (more t f) h ok k l e =
        go (dec_le 1 (count t k)) (λ q. allowed_at t h.0 ok.0 k q e) (λ q. all_allowed_at f h.1 ok.1 k q e)
      where
        go : Dec (1 ≤ count t k) → (1 ≤ count t k → In K (w k) (cell k)) → (1 ≤ counts f k → In K (w k) (cell k)) → In K (w k) (cell k)
        go (yes q) i j = i q
        go (no q) i j = j (omega arith)

  mutual
    pub at_allowed : (t : Rose) → Fits under t → ((k : ℕ) → 1 ≤ count t k → AtTip k) → Allowed K cell t w
    at_allowed (tip v) h g = g v (omega (arith, same_self v)) h
    at_allowed (node v f) h g = at_all_allowed f h.1 (λ k l. g k (omega arith))

    at_all_allowed : (f : Roses) → AllFit under f → ((k : ℕ) → 1 ≤ counts f k → AtTip k) → AllAllowed K cell f w
    at_all_allowed (one t) h g = at_allowed t h g
    at_all_allowed (more t f) h g = (at_allowed t h.0 (λ k l. g k (omega arith)), at_all_allowed f h.1 (λ k l. g k (omega arith)))
