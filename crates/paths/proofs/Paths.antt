-- The path from a node to the root: its length is the number of interior nodes between them, and how a loop lists it.
-- Assumes nothing.
use mathlib.Core.Path.{◌≡◌, refl, sym, ◌∙◌, ap, subst}
use mathlib.Core.List.{List, [], ◌∷◌}
use Prim.Native.Nat.{ℕ, zero, suc, ◌+◌, ◌-◌, ◌≤◌, ◌<◌}
use native.Mathlib.Decide.{ℕ_discrete, dec_le}
use native.Mathlib.Numerals.{add-one}
use native.Mathlib.Omega.{arith}
use lib.ListN.{length, get_or, set, length-set}
use lib.Seq.{sets}
use Rattle.parsimony.specs.Lists.{sum, from, choose, same}
use Rattle.parsimony.specs.Table.{ancestor, descendants, climb, meets, below, between}
use Rattle.parsimony.proofs.Sums.{
  all_from,
  choose_yes,
  choose_no,
  sum-zero,
  sum-add,
  sum_small,
  often,
  often-once,
  same_self,
  same-apart,
  length_from,
}
use Rattle.parsimony.proofs.Tables.Descendants.{often-descendants}
use Rattle.parsimony.proofs.Tables.Climbing.{climb-none, climb-add, climb-more, meets-none}
use Rattle.parsimony.proofs.Tables.Trees.{Tree, out, meets-least, below_steps}
use Rattle.paths.specs.Paths.{path_by, path_of, Pathable, IsPath}

module _ (T : Tree) where
  open T use {n, tree, ρ, δ, is_tree}
  open is_tree use {some, taxon, root, within, leaf, more}

  -- the interior nodes
  abbrev inner : List ℕ
  inner = from (suc n) (length tree - n)

  -- a taxon that is an ancestor is the root
  top : (k : ℕ) → ancestor tree k ≤ n → ancestor tree (ancestor tree k) ≡ 0
  top k h = go (dec_le 1 (ancestor tree k)) (ℕ_discrete (ancestor tree k) ρ)
    where
      go : Dec (1 ≤ ancestor tree k) → Dec (ancestor tree k ≡ ρ) → ancestor tree (ancestor tree k) ≡ 0
      go (no p) d = let z : ancestor tree k ≡ 0 = omega arith in ap (ancestor tree) z
      go (yes p) (yes e) = ap (ancestor tree) e ∙ root
      go (yes p) (no e) =
          let none : descendants tree (ancestor tree k) ≡ [] = leaf (ancestor tree k) p h e in
          omega (
            arith,
            often-descendants tree (ancestor tree k) k p,
            ap (λ ks. often ks k) none,
            same_self (ancestor tree k),
          )

  -- the nodes of a climb that are interior: none from a taxon up
  none_above : (s k : ℕ) → ancestor tree k ≤ n → sum (λ v. meets tree s v (ancestor tree k)) inner ≡ 0
  none_above s k h = zeros (suc n) (length tree - n) (omega arith)
    where
      at : (s v : ℕ) → n < v → meets tree s v (ancestor tree k) ≡ 0
      at zero v l = refl
      at (suc s) v l =
          omega (
            arith,
            same-apart v (ancestor tree k) (λ (e : v ≡ ancestor tree k). omega arith),
            ap (meets tree s v) (top k h),
            meets-none tree s v (omega arith),
          )

      zeros : (a m : ℕ) → n < a → sum (λ v. meets tree s v (ancestor tree k)) (from a m) ≡ 0
      zeros a zero l = refl
      zeros a (suc m) l = omega (arith, at s a l, zeros (suc a) m (omega arith))

  one-here : (a : ℕ) → n < a → a ≤ length tree → sum (λ v. same v a) inner ≡ 1
  one-here a lo hi = often-once (suc n) (length tree - n) a (omega arith) (omega arith)

  length_path_by : (s k : ℕ) → length (path_by n tree s k) ≡ sum (λ v. meets tree s v (ancestor tree k)) inner
  unfolding path_by
  length_path_by zero k = sym (sum-zero inner)
  length_path_by (suc s) k = go (dec_le (ancestor tree k) n) (length_path_by s (ancestor tree k))
    where
      go : (d : Dec (ancestor tree k ≤ n))
          → length (path_by n tree s (ancestor tree k)) ≡ sum (λ v. meets tree s v (ancestor tree (ancestor tree k))) inner
          → length (choose d [] (ancestor tree k ∷ path_by n tree s (ancestor tree k))) ≡ sum (λ v. meets tree (suc s) v (ancestor tree k)) inner
      go (yes l) ih = sym (none_above (suc s) k l)
      go (no l) ih =
          omega (
            arith,
            ih,
            sum-add (λ v. same v (ancestor tree k)) (λ v. meets tree s v (ancestor tree (ancestor tree k))) inner,
            one-here (ancestor tree k) (omega arith) (within k),
          )

  -- the path has as many nodes as there are interior nodes between
  pub length-path : (k : ℕ) → length (path_of n tree k) ≡ between n tree k
  length-path k = length_path_by (length tree) k

  -- and no more than there are interior nodes
  pub path-short : (k : ℕ) → length (path_of n tree k) ≤ length tree - n
  path-short k =
      omega (
        arith,
        length-path k,
        sum_small (λ v. below tree v k) inner
            (all_from (λ v. below tree v k ≤ 1) (suc n) (length tree - n) (λ v p q. meets-least T v (ancestor tree k) (omega arith))),
        length_from (suc n) (length tree - n),
      )

-- ---- the nodes of the path, one by one

module _ (n : ℕ) (tree : List ℕ) where
  -- each is the next of the climb, and interior
  path_by_at : (s k i : ℕ) → i < length (path_by n tree s k) → (get_or (path_by n tree s k) i 0 ≡ climb tree (suc i) k) × (n < climb tree (suc i) k)
  unfolding path_by
  path_by_at zero k i l = absurd (omega arith)
  path_by_at (suc s) k i l = go (dec_le (ancestor tree k) n) i l (λ j m. path_by_at s (ancestor tree k) j m)
    where
      go : (d : Dec (ancestor tree k ≤ n)) (i : ℕ) → i < length (choose d [] (ancestor tree k ∷ path_by n tree s (ancestor tree k)))
          → ((j : ℕ) → j < length (path_by n tree s (ancestor tree k))
          → (get_or (path_by n tree s (ancestor tree k)) j 0 ≡ climb tree (suc j) (ancestor tree k)) × (n < climb tree (suc j) (ancestor tree k)))
          → (get_or (choose d [] (ancestor tree k ∷ path_by n tree s (ancestor tree k))) i 0 ≡ climb tree (suc i) k) × (n < climb tree (suc i) k)
      go (yes e) i m h = absurd (omega arith)
      go (no e) zero m h = (refl, omega arith)
      go (no e) (suc i) m h = h i (omega arith)

  -- and behind the last of them the climb is at a taxon, or out
  path_by_ends : (s k : ℕ) → climb tree s k ≡ 0 → climb tree (suc (length (path_by n tree s k))) k ≤ n
  unfolding path_by
  path_by_ends zero k e = let z : ancestor tree k ≡ 0 = ap (ancestor tree) e in omega arith
  path_by_ends (suc s) k e = go (dec_le (ancestor tree k) n) (path_by_ends s (ancestor tree k) e)
    where
      go : (d : Dec (ancestor tree k ≤ n))
          → climb tree (suc (length (path_by n tree s (ancestor tree k)))) (ancestor tree k) ≤ n
          → climb tree (suc (length (choose d [] (ancestor tree k ∷ path_by n tree s (ancestor tree k))))) k ≤ n
      go (yes l) h = l
      go (no l) h = h

module _ (T : Tree) where
  open T use {n, tree}

  -- a climb that comes to v, where it is at a taxon or out after L steps more than one
  on-path : (k v : ℕ) → n < v → (L : ℕ) → climb tree (suc L) k ≤ n → (s : ℕ) → climb tree (suc s) k ≡ v → (i : ℕ) × (i < L)
      × (climb tree (suc i) k ≡ v)
  on-path k v lo L ends s e = go (dec_le L s)
    where
      stop : ancestor tree (climb tree L k) ≤ n
      stop = subst (λ x. x ≤ n) (climb-more tree L k) ends

      -- from there on the climb is at a taxon, or out
      past : (r : ℕ) → climb tree r (ancestor tree (climb tree L k)) ≤ n
      past zero = stop
      past (suc r) =
          let z : climb tree r (ancestor tree (ancestor tree (climb tree L k))) ≡ 0 = ap (climb tree r) (top T (climb tree L k) stop)
          ∙ climb-none tree r in
          omega arith

      go : Dec (L ≤ s) → (i : ℕ) × (i < L) × (climb tree (suc i) k ≡ v)
      go (no l) = (s, omega arith, e)
      go (yes l) =
          let split : L + suc (s - L) ≡ suc s = omega arith in
          let same-climb : climb tree (suc s) k ≡ climb tree (s - L) (ancestor tree (climb tree L k)) =
          ap (λ x. climb tree x k) (sym split) ∙ climb-add tree L (suc (s - L)) k in
          absurd (omega (arith, past (s - L)))

  pub path-at : (k i : ℕ) → i < length (path_of n tree k) → (get_or (path_of n tree k) i 0 ≡ climb tree (suc i) k) × (n < climb tree (suc i) k)
  path-at k i l = path_by_at n tree (length tree) k i l

  -- every interior node above k is on the path
  pub path-all : (k v : ℕ) → n < v → 1 ≤ below tree v k → (i : ℕ) × (i < length (path_of n tree k)) × (climb tree (suc i) k ≡ v)
  path-all k v lo h =
      let (s, e) = below_steps T v k (omega arith) h in
      on-path k v lo (length (path_of n tree k)) (path_by_ends n tree (length tree) k (out T k)) s e

-- ---- a loop that climbs from k and lists what it passes

module _ (n : ℕ) (tree : List ℕ) where
  -- the path from a node a on, a itself among it if it is interior
  abbrev pub up_by : ℕ → ℕ → List ℕ
  up_by s a = choose (dec_le a n) [] (a ∷ path_by n tree s a)

  -- `count` nodes are listed, and the climb stands at `at`; `left` steps are left
  pub record WalkedTo (k : ℕ) (path₀ : List ℕ) (count at : ℕ) (path : List ℕ) : Type 0 where
    pub left : ℕ
    pub steps : count + suc left ≡ length tree
    pub stands : at ≡ climb tree (suc count) k
    pub most : at ≤ length tree
    pub lists : sets path₀ 0 (path_of n tree k) ≡ sets path count (up_by left at)
    pub counts : length (path_of n tree k) ≡ count + length (up_by left at)
    pub long : length path ≡ length path₀

-- the tree of a table whose paths are asked for
abbrev pub tree_of : {n k : ℕ} {tree : List ℕ} → Pathable n tree k → Tree
tree_of {n} {k} {tree} P = record { n = n; tree = tree; ρ = P.ρ; δ = P.δ; is_tree = P.accepted.is_tree }

module _ (n : ℕ) (tree : List ℕ) (k : ℕ) (path₀ : List ℕ) (long : length path₀ ≡ 254) (P : Pathable n tree k) where
  open P.accepted.is_tree use {more, within}

  pub walk_starts : (at : ℕ) → at ≡ ancestor tree k → WalkedTo n tree k path₀ 0 at path₀
  unfolding path_by
  walk_starts at e =
      let N : length tree ≡ suc (length tree - 1) = omega (arith, more) in
      let p : path_of n tree k ≡ up_by n tree (length tree - 1) at = ap (λ s. path_by n tree s k) N ∙ ap (up_by n tree (length tree - 1)) (sym e) in
      record {
        left = length tree - 1;
        steps = omega (arith, more);
        stands = e;
        most = omega (arith, within k);
        lists = ap (sets path₀ 0) p;
        counts = ap length p ∙ omega arith;
        long = refl;
      }

  module _ (count at : ℕ) (path : List ℕ) (W : WalkedTo n tree k path₀ count at path) where
    -- at an interior node
    module _ (h : n < at) where
      open_up : up_by n tree W.left at ≡ at ∷ path_by n tree W.left at
      open_up = choose_no (dec_le at n) [] (at ∷ path_by n tree W.left at) (λ l. omega arith)

      -- there is room for it
      pub room : count < length path
      room =
          omega (
            arith,
            W.counts,
            ap length open_up,
            path-short (tree_of P) k,
            W.long,
            long,
            P.sized.nodes,
            P.sized.least,
            P.sized.most,
          )

      -- and a step more to go
      more_left : 1 ≤ W.left
      more_left = go (dec_le 1 W.left)
        where
          go : Dec (1 ≤ W.left) → 1 ≤ W.left
          go (yes l) = l
          go (no l) =
              let z : suc count ≡ length tree = omega (arith, W.steps) in
              omega (arith, W.stands, ap (λ s. climb tree s k) z, out (tree_of P) k)

      pub walk_on : (next : ℕ) → next ≡ ancestor tree at → WalkedTo n tree k path₀ (count + 1) next (set path count at)
      unfolding path_by
      walk_on next e =
          let s : ℕ = W.left - 1 in
          let l : W.left ≡ suc s = omega (arith, more_left) in
          let p : up_by n tree W.left at ≡ at ∷ up_by n tree s next =
          open_up ∙ ap (λ j. at ∷ path_by n tree j at) l ∙ ap (λ a. at ∷ up_by n tree s a) (sym e) in
          record {
            left = s;
            steps = omega (arith, W.steps, more_left);
            stands = e ∙ ap (ancestor tree) W.stands ∙ sym (climb-more tree (suc count) k) ∙ ap (λ j. climb tree (suc j) k) (sym (add-one count));
            most = omega (arith, within at);
            lists = W.lists ∙ ap (sets path count) p ∙ ap (λ j. sets (set path count at) j (up_by n tree s next)) (sym (add-one count));
            counts = W.counts ∙ ap (λ xs. count + length xs) p ∙ omega arith;
            long = simp length-set W.long;
          }

    -- at the root
    pub walk_ends : at ≤ n → IsPath n tree k path₀ path count
    walk_ends h =
        let p : up_by n tree W.left at ≡ [] = choose_yes (dec_le at n) [] (at ∷ path_by n tree W.left at) h in
        let c : count ≡ length (path_of n tree k) = omega (arith, W.counts, ap length p) in
        record {
          lists = sym (W.lists ∙ ap (sets path count) p);
          counts = c;
          number = c ∙ length-path (tree_of P) k;
        }
