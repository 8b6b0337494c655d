-- The rose trees that fit a table: the branches of each node are the table's descendants, in the table's order. Each node has one, and a number
-- stands in it just where climbing from the number comes to its top.
-- Assumes nothing.
use mathlib.Core.Path.{◌≡◌, refl, sym, ◌∙◌, ap, ap₂, subst}
use mathlib.Core.Logic.{◌≢◌}
use mathlib.Core.List.{List, [], ◌∷◌, map}
use Prim.Native.Nat.{ℕ, zero, suc, ◌+◌, ◌≤◌, ◌<◌}
use native.Mathlib.Decide.{dec_le}
use native.Mathlib.Omega.{arith}
use lib.ListN.{length}
use Rattle.parsimony.specs.Lists.{sum, same}
use Rattle.parsimony.specs.Table.{ancestor, descendants, meets, below, deep}
use Rattle.parsimony.proofs.Sums.{All, all_map}
use Rattle.parsimony.proofs.Rose.Shapes.{Rose, Roses, tip, node, one, more, top, count, counts, Distinct}
use Rattle.parsimony.proofs.Tables.Descendants.{past_table, Descends, each_descends}
use Rattle.parsimony.proofs.Tables.Climbing.{deep-most, deeper, meets-descendants}
use Rattle.parsimony.proofs.Tables.Trees.{Tree, out, meets-all, meets-least, no_ancestor}

-- the tops of a list of trees
abbrev pub tops : Roses → List ℕ
tops (one t) = top t ∷ []
tops (more t f) = top t ∷ tops f

-- how often a number stands in a tree below the top
abbrev pub inner : Rose → ℕ → ℕ
inner (tip k) m = 0
inner (node k f) m = counts f m

pub count-inner : (t : Rose) (m : ℕ) → count t m ≡ same (top t) m + inner t m
count-inner (tip k) m = omega arith
count-inner (node k f) m = refl

-- ---- to fit, and a tree that does

module _ (below : ℕ → List ℕ) where
  abbrev mutual
    pub Fits : Rose → Type 0
    Fits (tip k) = below k ≡ []
    Fits (node k f) = (tops f ≡ below k) × AllFit f

    pub AllFit : Roses → Type 0
    AllFit (one t) = Fits t
    AllFit (more t f) = Fits t × AllFit f

  -- a tip has branches nowhere, and a node has some
  pub some_branch : (f : Roses) → tops f ≡ [] → ⊥
  some_branch (one t) q = let z : ◌≡◌ {A = ℕ} 0 1 = cc in omega arith
  some_branch (more t g) q = let z : ◌≡◌ {A = ℕ} 0 1 = cc in omega arith

  abbrev bush : Rose → List Rose → Roses
  bush t [] = one t
  bush t (s ∷ ss) = more t (bush s ss)

  abbrev build : ℕ → List Rose → Rose
  build v [] = tip v
  build v (t ∷ ts) = node v (bush t ts)

  -- the tree of a node, to a depth
  grow : ℕ → ℕ → Rose
  grow zero v = tip v
  grow (suc s) v = build v (map (λ c. grow s c) (below v))

  top-build : (v : ℕ) (ts : List Rose) → top (build v ts) ≡ v
  top-build v [] = refl
  top-build v (t ∷ ts) = refl

  top_grow : (s v : ℕ) → top (grow s v) ≡ v
  unfolding grow
  top_grow zero v = refl
  top_grow (suc s) v = top-build v (map (λ c. grow s c) (below v))

  -- where descendants rank higher, and no rank is above D, D steps grow the whole tree
  module _ (rank : ℕ → ℕ) (D : ℕ) (rise : (v : ℕ) → All (λ c. (rank v < rank c) × (rank c ≤ D)) (below v)) where
    childless : (v : ℕ) (cs : List ℕ) → All (λ c. (rank v < rank c) × (rank c ≤ D)) cs → D ≤ rank v → cs ≡ []
    childless v [] h l = refl
    childless v (c ∷ cs) h l = let z : ⊥ = omega (arith, h.0) in absurd z

    module _ (s : ℕ) (ih : (c : ℕ) → D ≤ s + rank c → Fits (grow s c)) where
      tops-bush : (c : ℕ) (cs : List ℕ) → tops (bush (grow s c) (map (λ c. grow s c) cs)) ≡ c ∷ cs
      tops-bush c [] = ap (λ k. k ∷ []) (top_grow s c)
      tops-bush c (d ∷ ds) = ap₂ (λ k ks. k ∷ ks) (top_grow s c) (tops-bush d ds)

      fits-bush : (v : ℕ) → D ≤ suc s + rank v → (c : ℕ) (cs : List ℕ) → All (λ c. (rank v < rank c) × (rank c ≤ D)) (c ∷ cs)
          → AllFit (bush (grow s c) (map (λ c. grow s c) cs))
      fits-bush v l c [] h = ih c (omega (arith, h.0))
      fits-bush v l c (d ∷ ds) h = (ih c (omega (arith, h.0)), fits-bush v l d ds h.1)

      fits-build : (v : ℕ) → D ≤ suc s + rank v → (cs : List ℕ) → cs ≡ below v → All (λ c. (rank v < rank c) × (rank c ≤ D)) cs
          → Fits (build v (map (λ c. grow s c) cs))
      fits-build v l [] e h = sym e
      fits-build v l (c ∷ cs) e h = (tops-bush c cs ∙ e, fits-bush v l c cs h)

    fits_grow : (s v : ℕ) → D ≤ s + rank v → Fits (grow s v)
    unfolding grow
    fits_grow zero v l = childless v (below v) (rise v) (omega arith)
    fits_grow (suc s) v l = fits-build s (fits_grow s) v l (below v) refl (rise v)

-- ---- the trees of a table

module _ (T : Tree) where
  open T use {n, tree, ρ, δ, is_tree}
  open is_tree use {some, taxon, root, fork}

  pub grown : (v : ℕ) → (t : Rose) × Fits (descendants tree) t × (top t ≡ v)
  grown v = (
    grow (descendants tree) (length tree) v,
    fits_grow (descendants tree) (deep tree (length tree)) (length tree)
        (λ u. all_map (Descends tree u) (λ c. (deep tree (length tree) u < deep tree (length tree) c) × (deep tree (length tree) c ≤ length tree))
        (λ c d. (
          omega (arith, deeper tree (length tree) (out T) c, ap (deep tree (length tree)) d.of, d.some),
          deep-most tree (length tree) c,
        )) (descendants tree u) (each_descends tree u))
        (length tree) v (omega arith),
    top_grow (descendants tree) (length tree) v,
  )

  -- a number stands in a tree that fits as often as climbing from it stands at the tree's top
  mutual
    pub count_meets : (t : Rose) → Fits (descendants tree) t → 1 ≤ top t → (k : ℕ) → count t k ≡ meets tree (length tree) (top t) k
    count_meets (tip v) h p k =
        omega (
          arith,
          meets-descendants tree (length tree) v k p,
          ap (sum (λ c. meets tree (length tree) c k)) h,
          meets-all T v k p,
        )
    count_meets (node v f) h p k =
        omega (
          arith,
          meets-descendants tree (length tree) v k p,
          ap (sum (λ c. meets tree (length tree) c k)) h.0,
          counts_meet f h.1 v (subst (All (Descends tree v)) (sym h.0) (each_descends tree v)) k,
          meets-all T v k p,
        )

    counts_meet : (f : Roses) → AllFit (descendants tree) f → (v : ℕ) → All (Descends tree v) (tops f) → (k : ℕ)
        → counts f k ≡ sum (λ c. meets tree (length tree) c k) (tops f)
    counts_meet (one t) h v a k = omega (arith, count_meets t h a.0.some k)
    counts_meet (more t f) h v a k = omega (arith, count_meets t h.0 a.0.some k, counts_meet f h.1 v a.1 k)

  -- below the top stand the nodes below it
  pub inner_below : (t : Rose) → Fits (descendants tree) t → 1 ≤ top t → (k : ℕ) → inner t k ≡ below tree (top t) k
  inner_below t h p k = omega (arith, count_meets t h p k, count-inner t k, meets-all T (top t) k p)

  pub distinct : (t : Rose) → Fits (descendants tree) t → 1 ≤ top t → Distinct t
  distinct t h p k = omega (arith, count_meets t h p k, meets-least T (top t) k p)

  -- the numbers in a tree are nodes, and the root is in no tree but its own
  pub in_tree : (t : Rose) → Fits (descendants tree) t → 1 ≤ top t → top t ≤ length tree → (k : ℕ) → 1 ≤ count t k
      → (1 ≤ k) × (k ≤ length tree) × (k ≡ ρ → top t ≡ ρ)
  in_tree t h p q k l =
      let m : 1 ≤ meets tree (length tree) (top t) k = omega (arith, count_meets t h p k) in
      (least m (dec_le 1 k), most m (dec_le k (length tree)), λ e. no_ancestor T (top t) k p (ap (ancestor tree) e ∙ root) m ∙ e)
    where
      least : 1 ≤ meets tree (length tree) (top t) k → Dec (1 ≤ k) → 1 ≤ k
      least m (yes r) = r
      least m (no r) = let z : k ≡ 0 = omega arith in omega (arith, no_ancestor T (top t) k p (ap (ancestor tree) z) m)

      most : 1 ≤ meets tree (length tree) (top t) k → Dec (k ≤ length tree) → k ≤ length tree
      most m (yes r) = r
      most m (no r) = omega (arith, no_ancestor T (top t) k p (past_table tree k (omega arith)) m)

  -- a descendant is not the root, which has no ancestor
  pub not_root : (v : ℕ) → 1 ≤ v → (c : ℕ) → Descends tree v c → c ≢ ρ
  not_root v p c d e = omega (arith, d.of, ap (ancestor tree) e, root)

  -- the tree of an interior node
  pub tree_of : (v : ℕ) → n < v → v ≤ length tree → (f : Roses) × Fits (descendants tree) (node v f)
  tree_of v lo hi = let (t, h, e) = grown v in full t h e
    where
      full : (t : Rose) → Fits (descendants tree) t → top t ≡ v → (f : Roses) × Fits (descendants tree) (node v f)
      full (tip k) h e = let z : ⊥ = omega (arith, fork v lo hi, ap (λ j. length (descendants tree j)) e, ap length h) in absurd z
      full (node k f) h e = (f, (h.0 ∙ ap (descendants tree) e, h.1))

  -- ---- from the taxa up

  -- what holds of the taxa, and of an interior node as soon as it holds of its descendants, holds of every node but the root
  module _ (P : ℕ → Type 0) (taxa : (k : ℕ) → 1 ≤ k → k ≤ n → k ≢ ρ → P k)
      (forks : (v : ℕ) → n < v → v ≤ length tree → All P (descendants tree v) → P v) where
    here : (k : ℕ) → 1 ≤ k → k ≤ length tree → k ≢ ρ → All P (descendants tree k) → P k
    here k p q r h = go (dec_le k n)
      where
        go : Dec (k ≤ n) → P k
        go (yes l) = taxa k p l r
        go (no l) = forks k (omega arith) q h

    mutual
      up_tree : (t : Rose) → Fits (descendants tree) t → 1 ≤ top t → top t ≤ length tree → top t ≢ ρ → P (top t)
      up_tree (tip k) h p q r = here k p q r (subst (All P) (sym h) tt)
      up_tree (node k f) h p q r =
          here k p q r
          (subst (All P) h.0 (up_trees k p f h.1 (subst (All (Descends tree k)) (sym h.0) (each_descends tree k))))

      up_trees : (v : ℕ) → 1 ≤ v → (f : Roses) → AllFit (descendants tree) f → All (Descends tree v) (tops f) → All P (tops f)
      up_trees v p (one t) h d = (up_tree t h d.0.some d.0.most (not_root v p (top t) d.0), tt)
      up_trees v p (more t f) h d =
          (up_tree t h.0 d.0.some d.0.most (not_root v p (top t) d.0), up_trees v p f h.1 d.1)

    pub upward : (v : ℕ) → 1 ≤ v → v ≤ length tree → v ≢ ρ → P v
    upward v p q r =
        let (t, h, e) = grown v in
        subst P e (up_tree t h (omega arith) (omega arith) (λ z. r (sym e ∙ z)))
