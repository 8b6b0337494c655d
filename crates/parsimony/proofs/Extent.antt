-- No way is shorter than two of its states are apart. So m is at most a character's length, and CI and RI are at most 1.
-- Assumes nothing.
use mathlib.Core.Path.{◌≡◌, refl, sym, ◌∙◌, ap, ap₂}
use mathlib.Core.Logic.{◌⊎◌, ⊎_elim, inl, inr}
use mathlib.Core.List.{List}
use Prim.Native.Nat.{ℕ, zero, suc, ◌+◌, ◌≤◌, ◌<◌}
use native.Mathlib.Decide.{dec_le}
use native.Mathlib.Omega.{arith}
use lib.IntN.{ℤ, pos, negsuc}
use lib.ListN.{length}
use Rattle.parsimony.specs.Lists.{sum, from, same}
use Rattle.parsimony.specs.Table.{IsTree}
use Rattle.parsimony.specs.Kind.{In}
use Rattle.parsimony.specs.Ordered.{Range, ordered, point}
use Rattle.parsimony.specs.Meaning.{LengthMeans}
use Rattle.parsimony.specs.Character.{cells}
use Rattle.parsimony.specs.Index.{m}
use Rattle.parsimony.proofs.Sums.{same_equal}
use Rattle.parsimony.proofs.Spread.{m_is}
use Rattle.parsimony.proofs.Ranges.Distances.{apart, distance_is, apart_self, apart_sym, in_range}
use Rattle.parsimony.proofs.Ranges.Laws.{ordered_laws}
use Rattle.parsimony.proofs.Rose.Shapes.{Rose, Roses, tip, node, one, more, top, count, counts}
use Rattle.parsimony.proofs.Rose.Lengths.{length_in, lengths_in}
use Rattle.parsimony.proofs.Rose.Reroot.{count-plug}
use Rattle.parsimony.proofs.Tables.Trees.{Tree}
use Rattle.parsimony.proofs.Tables.Whole.{crown, crown_fits, whole, root_up, whole-plug, up_crown, each-once}
use Rattle.parsimony.proofs.Tables.Ways.{length_whole}

-- by way of a third
apart_by_way : (x y z : ℤ) → apart x z ≤ apart x y + apart y z
apart_by_way (pos a) (pos b) (pos d) = omega arith
apart_by_way (pos a) (pos b) (negsuc d) = omega arith
apart_by_way (pos a) (negsuc b) (pos d) = omega arith
apart_by_way (pos a) (negsuc b) (negsuc d) = omega arith
apart_by_way (negsuc a) (pos b) (pos d) = omega arith
apart_by_way (negsuc a) (pos b) (negsuc d) = omega arith
apart_by_way (negsuc a) (negsuc b) (pos d) = omega arith
apart_by_way (negsuc a) (negsuc b) (negsuc d) = omega arith

split : (p q : ℕ) → 1 ≤ p + q → (1 ≤ p) ⊎ (1 ≤ q)
split p q h = go (dec_le 1 p)
  where
    go : Dec (1 ≤ p) → (1 ≤ p) ⊎ (1 ≤ q)
    go (yes l) = inl l
    go (no l) = inr (omega arith)

-- ---- in a tree of the inductive kind

module _ (cell : ℕ → Range) (w : ℕ → ℤ) where
  -- the state on top, or above, and another
  mutual
    from-top : (t : Rose) (k : ℕ) → 1 ≤ count t k → apart (w (top t)) (w k) ≤ length_in ordered cell t w
    from-top (tip j) k h = omega (arith, ap (λ i. apart (w j) (w i)) (same_equal j k h), apart_self (w j))
    from-top (node j f) k h =
        ⊎_elim (λ p. omega (arith, ap (λ i. apart (w j) (w i)) (same_equal j k p), apart_self (w j))) (λ p. from-above f (w j) k p)
        (split (same j k) (counts f k) h)

    from-above : (f : Roses) (x : ℤ) (k : ℕ) → 1 ≤ counts f k → apart x (w k) ≤ lengths_in ordered cell f w x
    from-above (one t) x k h = omega (arith, from-top t k h, apart_by_way x (w (top t)) (w k), distance_is x (w (top t)))
    from-above (more t f) x k h =
        ⊎_elim (λ p. omega (arith, from-top t k p, apart_by_way x (w (top t)) (w k), distance_is x (w (top t))))
        (λ p. omega (arith, from-above f x k p)) (split (count t k) (counts f k) h)

  -- any two
  mutual
    between : (t : Rose) (a b : ℕ) → 1 ≤ count t a → 1 ≤ count t b → apart (w a) (w b) ≤ length_in ordered cell t w
    between (tip k) a b h g =
        omega (arith, ap (λ i. apart (w i) (w b)) (same_equal k a h), ap (λ i. apart (w k) (w i)) (same_equal k b g), apart_self (w k))
    between (node k f) a b h g =
        ⊎_elim (λ p. omega (arith, ap (λ i. apart (w i) (w b)) (same_equal k a p), from-top (node k f) b g))
        (λ p. ⊎_elim
        (λ q. omega (arith, ap (λ i. apart (w i) (w a)) (same_equal k b q), apart_sym (w a) (w b), from-top (node k f) a h))
        (λ q. all-between f (w k) a b p q) (split (same k b) (counts f b) g))
        (split (same k a) (counts f a) h)

    all-between : (f : Roses) (x : ℤ) (a b : ℕ) → 1 ≤ counts f a → 1 ≤ counts f b → apart (w a) (w b) ≤ lengths_in ordered cell f w x
    all-between (one t) x a b h g = omega (arith, between t a b h g)
    all-between (more t f) x a b h g =
        ⊎_elim
        (λ p. ⊎_elim (λ q. omega (arith, between t a b p q))
        (λ q. omega (arith, from-above (one t) x a p, from-above f x b q, apart_by_way (w a) x (w b), apart_sym (w a) x))
        (split (count t b) (counts f b) g))
        (λ p. ⊎_elim
        (λ q. omega (arith, from-above f x a p, from-above (one t) x b q, apart_by_way (w a) x (w b), apart_sym (w a) x))
        (λ q. omega (arith, all-between f x a b p q)) (split (count t b) (counts f b) g))
        (split (count t a) (counts f a) h)

-- ---- in a table

-- each node stands in the tree of a whole table
in_whole : (T : Tree) (k : ℕ) → 1 ≤ k → k ≤ length T.tree → 1 ≤ count (whole T) k
in_whole T k p l =
    omega (
      arith,
      ap (λ t. count t k) (sym (whole-plug T)),
      count-plug (root_up T) (tip T.ρ) k,
      ap (λ t. count t k) (up_crown T),
      each-once T (node T.δ (crown T)) (crown_fits T) refl k p l,
    )

state_is : (state : ℕ → ℕ) (w : ℕ → ℤ) (k : ℕ) → In ordered (w k) (point (state k)) → w k ≡ pos (state k)
state_is state w k h =
    let (a, e, p, q) = (in_range (point (state k)) (w k)).0 h in
    let same : a ≡ state k = omega arith in
    e ∙ ap pos same

-- m is at most the length
pub m_shortest : (n : ℕ) (state : ℕ → ℕ) (tree : List ℕ) (ρ δ l : ℕ) → IsTree n tree ρ δ → LengthMeans ordered n (cells n state) tree l
    → m n state ≤ l
m_shortest n state tree ρ δ l I L =
    let T : Tree = record { n = n; tree = tree; ρ = ρ; δ = δ; is_tree = I } in
    let (w, agrees, long) = L.attained in
    let (i, j, (pi, qi), (pj, qj), e) = (m_is n state (omega (arith, I.some, I.taxon))).1 in
    omega (
      arith,
      I.more,
      between (cells n state) w (whole T) i j (in_whole T i pi (omega (arith, I.more))) (in_whole T j pj (omega (arith, I.more))),
      ap₂ apart (state_is state w i (agrees i pi qi)) (state_is state w j (agrees j pj qj)),
      length_whole ordered ordered_laws (cells n state) T w,
    )

-- what is at most as large at each of the numbers from 1 up is so in the sum
pub sum_below : (f g : ℕ → ℕ) (c : ℕ) → ((j : ℕ) → 1 ≤ j → j ≤ c → f j ≤ g j) → sum f (from 1 c) ≤ sum g (from 1 c)
sum_below f g c h = go 1 c (omega arith) (λ j p q. h j p (omega arith))
  where
    go : (a k : ℕ) → 1 ≤ a → ((j : ℕ) → a ≤ j → j < a + k → f j ≤ g j) → sum f (from a k) ≤ sum g (from a k)
    go a zero p u = omega arith
    go a (suc k) p u = omega (arith, u a (omega arith) (omega arith), go (suc a) k (omega arith) (λ j r s. u j (omega arith) (omega arith)))
