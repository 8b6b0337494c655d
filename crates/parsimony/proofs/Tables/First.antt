-- What the first pass means: the paper's Basic Lemma, Theorem 1, Corollary 1.1 and equation (16), of a table.
-- Assumes nothing.
use mathlib.Core.Path.{◌≡◌, sym, ◌∙◌, ap, subst, subst₂}
use mathlib.Core.Logic.{◌≢◌}
use mathlib.Core.List.{List, [], ◌∷◌, map}
use Prim.Native.Nat.{ℕ, ◌+◌, ◌≤◌, ◌<◌}
use native.Mathlib.Decide.{dec_le}
use native.Mathlib.Omega.{arith}
use lib.ListN.{length}
use Rattle.parsimony.specs.Lists.{sum}
use Rattle.parsimony.specs.Table.{descendants}
use Rattle.parsimony.specs.Kind.{Kind, Laws}
use Rattle.parsimony.specs.Way.{Agrees, AgreesBelow, length_of, length_below}
use Rattle.parsimony.specs.Least.{IsLeast}
use Rattle.parsimony.specs.Meaning.{EntryMeans, LengthMeans}
use Rattle.parsimony.specs.Steps.{FirstPass, length_by}
use Rattle.parsimony.proofs.Rose.Shapes.{Rose, Roses, node, top, count, Distinct}
use Rattle.parsimony.proofs.Rose.Lengths.{region, least}
use Rattle.parsimony.proofs.Rose.Tips.{least-both}
use Rattle.parsimony.proofs.Tables.Trees.{Tree, δ-most}
use Rattle.parsimony.proofs.Tables.Fitting.{Fits, in_tree, tree_of}
use Rattle.parsimony.proofs.Tables.Settling.{MadeOf, Made, settled}
use Rattle.parsimony.proofs.Tables.Whole.{δ-inner, crown, crown_fits, whole, root_up, whole-plug, up_crown, whole_distinct}
use Rattle.parsimony.proofs.Tables.Ways.{below_lower, below-least, below-used, whole-least}

module _ (K : Kind) (laws : Laws K) (cell : ℕ → K.Region) (T : Tree) (entry : ℕ → K.Region) (size : ℕ → ℕ) where
  open K use {State, Region, distance, away, join, cost, nearest}
  open T use {n, tree, ρ, δ, is_tree}
  open is_tree use {taxon, leaf, fork}

  -- a settled node is made of its descendants
  made_of : (v : ℕ) (cs : List ℕ) → 2 ≤ length cs → entry v ≡ join (map entry cs) → size v ≡ sum size cs + cost (map entry cs)
      → MadeOf K cell (descendants tree) entry size v cs
  made_of v [] l e s = let z : ⊥ = omega arith in absurd z
  made_of v (c ∷ cs) l e s = (e, s)

  pub inner-apart : (v : ℕ) → n < v → v ≢ ρ
  inner-apart v h e = omega (arith, taxon)

  module _ (P : FirstPass K n cell tree entry size) where
    pub made_at : (k : ℕ) → 1 ≤ k → k ≤ length tree → k ≢ ρ → Made K cell (descendants tree) entry size k
    made_at k p q r = go (dec_le k n)
      where
        go : Dec (k ≤ n) → Made K cell (descendants tree) entry size k
        go (yes l) = subst (MadeOf K cell (descendants tree) entry size k) (sym (leaf k p l r)) (P.taxa k p l)
        go (no l) = made_of k (descendants tree k) (fork k (omega arith) q) (P.forks k (omega arith) q).joined (P.forks k (omega arith) q).summed

    pub made_in : (t : Rose) → Fits (descendants tree) t → 1 ≤ top t → top t ≤ length tree → top t ≢ ρ → (k : ℕ) → 1 ≤ count t k
        → Made K cell (descendants tree) entry size k
    made_in t h p q r k l =
        let (a, b, c) = in_tree T t h p q k l in
        made_at k a b (λ e. r (c e))

    -- the entry is the region and the least length of the tree
    pub entry_is : (v : ℕ) → n < v → v ≤ length tree → (f : Roses) → Fits (descendants tree) (node v f)
        → (region K cell (node v f) ≡ entry v) × (least K cell (node v f) ≡ size v)
    entry_is v lo hi f h =
        settled K cell (descendants tree) entry size (node v f) h (made_in (node v f) h (omega arith) hi (inner-apart v lo))

    -- Theorem 1 and Corollary 1.1
    pub entry-means : (v : ℕ) → n < v → v ≤ length tree → EntryMeans K n cell tree v (entry v) (size v)
    entry-means v lo hi =
        let (f, h) = tree_of T v lo hi in
        let e = entry_is v lo hi f h in
        record {
          least = rw (← e.1) (below-least K laws cell T v lo hi f h);
          used = λ x. rw (← e.0) (below-used K laws cell T v lo hi f h x);
        }

    -- the Basic Lemma: with the state y at the ancestor, the least of the length below v and the change at v
    pub basic : (v : ℕ) → n < v → v ≤ length tree → (y : State)
        → IsLeast (AgreesBelow K n cell tree v) (λ w. length_below K tree v w + distance (w v) y) (size v + away y (entry v))
    basic v lo hi y =
        let E = entry-means v lo hi in
        let x : State = nearest (entry v) y in
        let (w, s, q) = (E.used x).0 (laws.nearest_in (entry v) y) in
        let (w₁, g₁, e₁) = E.least.attained in
        record {
          attained = (
            w,
            s.good,
            omega (
              arith,
              E.least.bound w s.good,
              s.least w₁ g₁,
              e₁,
              ap (λ z. distance z y) q,
              laws.either_way x y,
              laws.nearest_far (entry v) y,
            ),
          );
          bound = lower;
        }
      where
        lower : (w : ℕ → State) → AgreesBelow K n cell tree v w → size v + away y (entry v) ≤ length_below K tree v w + distance (w v) y
        lower w g =
            let (f, h) = tree_of T v lo hi in
            let e = entry_is v lo hi f h in
            let l : size v + away (w v) (entry v) ≤ length_below K tree v w =
            subst₂ (λ r m. m + away (w v) r ≤ length_below K tree v w) e.0 e.1 (below_lower K laws cell T v lo hi f h w g) in
            omega (arith, laws.away_by_way y (w v) (entry v), laws.either_way y (w v))

    -- equation (16): the length of the whole
    least-whole : least K cell (whole T) ≡ least K cell (node δ (crown T)) + cost (cell ρ ∷ region K cell (node δ (crown T)) ∷ [])
    least-whole =
        ap (least K cell) (sym (whole-plug T))
        ∙ least-both K cell laws (root_up T) ρ (subst Distinct (sym (whole-plug T)) (whole_distinct T))
        ∙ ap (λ t. least K cell t + cost (cell ρ ∷ region K cell t ∷ [])) (up_crown T)

    pub least_is : least K cell (whole T) ≡ length_by K n cell tree ρ δ entry size
    least_is =
        let e = entry_is δ (δ-inner T) (δ-most T) (crown T) (crown_fits T) in
        least-whole ∙ rw (e.0, e.1)

    pub length-means : LengthMeans K n cell tree (length_by K n cell tree ρ δ entry size)
    length-means = subst (IsLeast (Agrees K n cell) (length_of K tree)) least_is (whole-least K laws cell T)
