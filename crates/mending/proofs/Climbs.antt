-- The path from a node t to the root, as the climb from it: the i-th node of the path is where the climb is after i + 1 steps, and each is less deep
-- than the one before it.
-- Assumes nothing.
use mathlib.Core.Path.{◌≡◌, sym, ◌∙◌, ap, subst}
use mathlib.Core.Logic.{◌≢◌}
use Prim.Native.Nat.{ℕ, zero, suc, ◌+◌, ◌≤◌, ◌<◌}
use native.Mathlib.Decide.{dec_le}
use native.Mathlib.Omega.{arith}
use lib.ListN.{length}
use Rattle.parsimony.specs.Table.{ancestor, climb, deep, below}
use Rattle.parsimony.proofs.Tables.Climbing.{climb-more}
use Rattle.parsimony.proofs.Tables.Trees.{Tree}
use Rattle.paths.specs.Paths.{path_of}
use Rattle.paths.proofs.Paths.{path-at, path-all}
use Rattle.shapes.proofs.Subtrees as subtrees

module _ (T : Tree) (t count : ℕ) (counts : count ≡ length (path_of T.n T.tree t)) where
  open T use {n, tree, is_tree}

  abbrev step : ℕ → ℕ
  step i = climb tree (suc i) t

  pub step-inner : (i : ℕ) → i < count → n < step i
  step-inner i l = (path-at T t i (omega (arith, counts))).1

  pub step-last : (i : ℕ) → step i ≤ length tree
  step-last i = subst (λ v. v ≤ length tree) (sym (climb-more tree i t)) (is_tree.within (climb tree i t))

  step_up : (i : ℕ) → ancestor tree (step i) ≡ step (suc i)
  step_up i = sym (climb-more tree (suc i) t)

  module _ (some : 1 ≤ t) where
    pub deep_step : (i : ℕ) → i < count → deep tree (length tree) (step i) + suc i ≡ deep tree (length tree) t
    deep_step zero l = omega (arith, subtrees.deep-below T t some)
    deep_step (suc i) l =
        omega (
          arith,
          deep_step i (omega arith),
          subtrees.deep-below T (step i) (omega (arith, step-inner i (omega arith))),
          ap (deep tree (length tree)) (step_up i),
        )

    -- so no node is there twice
    pub steps_apart : (h i : ℕ) → h < i → i < count → step h ≢ step i
    steps_apart h i l m e = omega (arith, deep_step h (omega arith), deep_step i m, ap (deep tree (length tree)) e)

    -- a descendant of a node of the path that is not the one before it is off the path
    pub off-path : (i d : ℕ) → i < count → ancestor tree d ≡ step i → n < d → d ≢ climb tree i t → below tree d t ≡ 0
    off-path i d l e lo ne = go (dec_le 1 (below tree d t))
      where
        go : Dec (1 ≤ below tree d t) → below tree d t ≡ 0
        go (no p) = omega arith
        go (yes p) =
            let (h, m, q) = path-all T t d lo p in
            let m' : h < count = omega (arith, counts) in
            absurd (ne (sym q ∙ ap (λ k. climb tree k t) (level h m' q)))
          where
            level : (h : ℕ) → h < count → step h ≡ d → suc h ≡ i
            level h m q =
                omega (
                  arith,
                  deep_step h m,
                  deep_step i l,
                  subtrees.deep-below T d (omega arith),
                  ap (deep tree (length tree)) q,
                  ap (deep tree (length tree)) e,
                )
