-- The results, each restated in full and proved by a citation. docs/THEOREMS.md maps the demands to them.
-- The first part holds for any kind of character that keeps the laws of specs/Kind.antt, any table that is a tree, any number of branches and
-- any cells. The second part is for ordered characters over the integers.
-- Assumes nothing.
use mathlib.Core.Path.{◌≡◌}
use mathlib.Core.Logic.{◌≢◌, ◌↔◌}
use mathlib.Core.List.{List, [], ◌∷◌}
use Prim.Native.Nat.{ℕ, suc, ◌+◌, ◌-◌, ◌≤◌, ◌<◌, min, max}
use native.Mathlib.Omega.{arith}
use lib.ListN.{length, get_or}
use lib.IntN.{ℤ}
use Rattle.parsimony.specs.Table.{climb, below, IsTree}
use Rattle.parsimony.specs.Kind.{Kind, Laws, In}
use Rattle.parsimony.specs.Ordered.{distance, Range, span, Between, nearest, ends, sorted, ordered}
use Rattle.parsimony.specs.Way.{AgreesBelow, length_of, length_below}
use Rattle.parsimony.specs.Least.{IsLeast, Used}
use Rattle.parsimony.specs.Meaning.{EntryMeans, FinalMeans, LengthMeans, Reconstructs}
use Rattle.parsimony.specs.Steps.{Settled, FirstPass, SecondPass, final, length_by, Chosen, RootChosen}
use Rattle.parsimony.specs.Character.{cells}
use Rattle.parsimony.specs.Index.{m}
use Rattle.parsimony.proofs.Tables.Trees as trees
use Rattle.parsimony.proofs.Tables.Trees.{Tree}
use Rattle.parsimony.proofs.Tables.First as first
use Rattle.parsimony.proofs.Tables.Final as second
use Rattle.parsimony.proofs.Tables.Chosen as chosen
use Rattle.parsimony.proofs.Tables.Mending as mending
use Rattle.parsimony.proofs.Ranges.Distances as distances
use Rattle.parsimony.proofs.Ranges.Laws as laws-of-ranges
use Rattle.parsimony.proofs.Ranges.Joins as joins
use Rattle.parsimony.proofs.Ranges.Joins.{join2, cost2, join3, median, OverlapOrGap}
use Rattle.parsimony.proofs.Uniqueness as unique
use Rattle.parsimony.proofs.Spread as spread
use Rattle.parsimony.proofs.Extent as extent

-- ---- Any tree

-- Below v are the nodes from which some number of steps, one or more, leads to v: `below` is 1 for these and 0 for the others. So the bound on
-- the steps in its definition loses nothing.
pub below_is : (n : ℕ) (tree : List ℕ) (ρ δ : ℕ) → IsTree n tree ρ δ → (v k : ℕ) → 1 ≤ v
    → (below tree v k ≤ 1) × ((1 ≤ below tree v k) ↔ ((s : ℕ) × (climb tree (suc s) k ≡ v)))
below_is n tree ρ δ A v k p =
    let T : Tree = record { n = n; tree = tree; ρ = ρ; δ = δ; is_tree = A } in (
      omega (arith, trees.meets-all T v k p, trees.meets-least T v k p),
      (trees.below_steps T v k p, λ (s, e). trees.steps_below T v k s p e),
    )

-- ---- Any kind of character

module _ (K : Kind) (laws : Laws K) (n : ℕ) (cell : ℕ → K.Region) (tree : List ℕ) (ρ δ : ℕ) (A : IsTree n tree ρ δ) where
  abbrev T : Tree
  T = record { n = n; tree = tree; ρ = ρ; δ = δ; is_tree = A }

  module _ (entry : ℕ → K.Region) (size : ℕ → ℕ) (P : FirstPass K n cell tree entry size) where
    -- 1. The Basic Lemma, equation (4): with the state y at the ancestor of v, the least of the length below v together with the change from y
    -- to v is the length of v's entry and the distance from y to its region.
    pub basic_lemma : (v : ℕ) → n < v → v ≤ length tree → (y : K.State)
        → IsLeast (AgreesBelow K n cell tree v) (λ w. length_below K tree v w + K.distance (w v) y) (size v + K.away y (entry v))
    basic_lemma = first.basic K laws cell T entry size P

    -- Theorem 1, equation (14): the length of a settled entry is the least length below its node.
    pub theorem_1 : (v : ℕ) → n < v → v ≤ length tree → IsLeast (AgreesBelow K n cell tree v) (length_below K tree v) (size v)
    theorem_1 v lo hi = (first.entry-means K laws cell T entry size P v lo hi).least

    -- Corollary 1.1: a shortest way below v has a state at v just where that state is in the entry's region.
    pub corollary_1_1 : (v : ℕ) → n < v → v ≤ length tree
        → (x : K.State) → In K x (entry v) ↔ Used (AgreesBelow K n cell tree v) (length_below K tree v) v x
    corollary_1_1 v lo hi = (first.entry-means K laws cell T entry size P v lo hi).used

    -- 2. Equation (16): the character's length is the least over all ways.
    pub equation_16 : LengthMeans K n cell tree (length_by K n cell tree ρ δ entry size)
    equation_16 = first.length-means K laws cell T entry size P

    -- 5. ACCTRAN's choice is a way of this length, so a shortest one.
    pub acctran_least : (w : ℕ → K.State) → RootChosen K n cell tree ρ δ entry w → Chosen K n cell tree ρ entry w
        → Reconstructs K n cell tree w × (length_of K tree w ≡ length_by K n cell tree ρ δ entry size)
    acctran_least w r c =
        let (g, e) = chosen.acctran K laws cell T entry size P w r c in
        (chosen.reconstructs K laws cell T entry size P w g e, e)

    module _ (above : ℕ → K.Region) (Q : SecondPass K n cell tree ρ δ entry above) where
      -- 3. Theorem 2: a state is in the final region exactly when some shortest way uses it there.
      pub theorem_2 : (v : ℕ) → n < v → v ≤ length tree → FinalMeans K n cell tree v (final K n cell tree entry above v)
      theorem_2 = second.final-means K laws cell T entry size above P Q

      -- 5. DELTRAN's choice is a shortest way too, where the nearest state of a region lies between a state and any other of the region.
      pub deltran_least : ((r : K.Region) (x y : K.State) → In K y r
          → K.distance x (K.nearest r x) + K.distance (K.nearest r x) y ≡ K.distance x y)
          → (w : ℕ → K.State) → w ρ ≡ K.nearest (cell ρ) (w δ) → Chosen K n cell tree ρ (final K n cell tree entry above) w
          → Reconstructs K n cell tree w × (length_of K tree w ≡ length_by K n cell tree ρ δ entry size)
      deltran_least between w r c =
          let (g, e) = chosen.deltran K laws cell T entry size P above Q between w r c in
          (chosen.reconstructs K laws cell T entry size P w g e, e)

  -- 5. Whatever satisfies the local rule from the same state at the root is the same way.
  pub one_choice : (range : ℕ → K.Region) (w w' : ℕ → K.State)
      → Chosen K n cell tree ρ range w → Chosen K n cell tree ρ range w' → w ρ ≡ w' ρ → (k : ℕ) → 1 ≤ k → k ≤ length tree → w k ≡ w' k
  one_choice = chosen.one_way K laws cell T (λ v. cell v) (λ v. 0)

  -- 6. Corrections: the cell of the taxon x changes, only entries between x and the root are rewritten, and each of these is settled anew. Then
  -- the table is settled for the corrected cells.
  pub correction : (cell' : ℕ → K.Region) (entry entry' : ℕ → K.Region) (size size' : ℕ → ℕ) (x : ℕ)
      → FirstPass K n cell tree entry size
      → ((k : ℕ) → 1 ≤ k → k ≤ n → k ≢ x → cell' k ≡ cell k)
      → ((k : ℕ) → 1 ≤ k → k ≤ n → (entry' k ≡ cell' k) × (size' k ≡ 0))
      → ((v : ℕ) → n < v → v ≤ length tree → below tree v x ≡ 0 → (entry' v ≡ entry v) × (size' v ≡ size v))
      → ((v : ℕ) → n < v → v ≤ length tree → 1 ≤ below tree v x → Settled K tree entry' size' v)
      → FirstPass K n cell' tree entry' size'
  correction cell' entry entry' size size' x = mending.corrected K T cell cell' entry entry' size size' x

  -- 7. Uniqueness, of any kind: one least length, and the same states in two regions that have the same meaning.
  pub entry_unique : (v : ℕ) (r r' : K.Region) (l l' : ℕ) → EntryMeans K n cell tree v r l → EntryMeans K n cell tree v r' l'
      → (l ≡ l') × ((x : K.State) → In K x r ↔ In K x r')
  entry_unique v r r' l l' = unique.one_entry K n cell tree v r r' l l'

  pub final_unique : (v : ℕ) (r r' : K.Region) → FinalMeans K n cell tree v r → FinalMeans K n cell tree v r'
      → (x : K.State) → In K x r ↔ In K x r'
  final_unique v r r' = unique.one-final K n cell tree v r r'

-- 7. Two least lengths are equal.
pub least_unique : {W : Type 0} {Good : W → Type 0} {long : W → ℕ} {l l' : ℕ} → IsLeast Good long l → IsLeast Good long l' → l ≡ l'
least_unique = unique.one-least

-- ---- Ordered characters

-- Integers with |x - y|, and ranges with their join, keep the laws of a kind.
pub ordered_keeps_laws : Laws ordered
ordered_keeps_laws = laws-of-ranges.ordered_laws

-- A state is in a range when it is one of low, .., high.
pub in_range : (r : Range) (x : ℤ) → In ordered x r ↔ Between r.low r.high x
in_range = distances.in_range

-- The nearest state of a range lies between a state and any other of the range: what DELTRAN asks.
pub nearest-between : (r : Range) (x y : ℤ) → In ordered y r → distance x (nearest r x) + distance (nearest r x) y ≡ distance x y
nearest-between = laws-of-ranges.straight

-- 7. Ranges with the same states are the same range, so two tables that both have the meaning are equal entry by entry.
pub range_unique : (r r' : Range) → ((x : ℤ) → In ordered x r ↔ In ordered x r') → r ≡ r'
range_unique = unique.one-range

pub entries_equal : (n : ℕ) (cell : ℕ → Range) (tree : List ℕ) (v low high length' low' high' length'' : ℕ)
    → low ≤ high → low' ≤ high'
    → EntryMeans ordered n cell tree v (span low high) length' → EntryMeans ordered n cell tree v (span low' high') length''
    → (low ≡ low') × (high ≡ high') × (length' ≡ length'')
entries_equal = unique.one-ordered-entry

pub finals_equal : (n : ℕ) (cell : ℕ → Range) (tree : List ℕ) (v low high low' high' : ℕ) → low ≤ high → low' ≤ high'
    → FinalMeans ordered n cell tree v (span low high) → FinalMeans ordered n cell tree v (span low' high') → (low ≡ low') × (high ≡ high')
finals_equal = unique.one-ordered-final

-- 8. The join of two ranges: their overlap where they meet, at no cost; else the gap between the nearer ends, at its width.
pub join_overlap_or_gap : (r q : Range) → OverlapOrGap r q (join2 r q) (cost2 r q)
join_overlap_or_gap = joins.join_words

-- It is from the second to the third of the four ends in rising order.
pub join_middle_two : (r q : Range)
    → ((join2 r q).low ≡ get_or (sorted (ends (r ∷ q ∷ []))) 1 0) × ((join2 r q).high ≡ get_or (sorted (ends (r ∷ q ∷ []))) 2 0)
join_middle_two r q = laws-of-ranges.join-ends r (q ∷ [])

-- It is the paper's formula (3): from the lesser to the greater of y = median (a, b, a') and z = median (b, a', b').
pub join_formula_3 : (r q : Range)
    → ((join2 r q).low ≡ min (median r.low r.high q.low) (median r.high q.low q.high))
    × ((join2 r q).high ≡ max (median r.low r.high q.low) (median r.high q.low q.high))
join_formula_3 = joins.join_medians

-- Which range comes first does not matter.
pub join_commutes : (r q : Range) → join2 r q ≡ join2 q r
join_commutes = joins.join_comm

-- But of three, which two are joined first does matter: 0 with 2 and then 5 gives 2-5, and 0 with the join of 2 and 5 gives 0-2.
pub join_not_associative : ((r q s : Range) → join2 (join2 r q) s ≡ join2 r (join2 q s)) → ⊥
join_not_associative = joins.not_associative

-- 4. The final range of a node with two descendants is from the third to the fourth of the six ends of their ranges and the range from above.
pub final_middle_two : (a b c : Range)
    → ((join3 a b c).low ≡ get_or (sorted (ends (a ∷ b ∷ c ∷ []))) 2 0) × ((join3 a b c).high ≡ get_or (sorted (ends (a ∷ b ∷ c ∷ []))) 3 0)
final_middle_two a b c = laws-of-ranges.join-ends a (b ∷ c ∷ [])

-- 4. It is the paper's three-way intersection, equation (17).
pub final-three-way : (a b c : Range) (x : ℤ)
    → In ordered x (join3 a b c)
    ↔ (In ordered x (join2 (join2 a b) c) × In ordered x (join2 (join2 a c) b) × In ordered x (join2 (join2 b c) a))
final-three-way = joins.equation_17

-- m is the greatest difference between the states of two taxa.
pub m_greatest : (n : ℕ) (state : ℕ → ℕ) → 1 ≤ n
    → ((i j : ℕ) → 1 ≤ i → i ≤ n → 1 ≤ j → j ≤ n → state i - state j ≤ m n state)
    × ((i : ℕ) × (j : ℕ) × ((1 ≤ i) × (i ≤ n)) × ((1 ≤ j) × (j ≤ n)) × (state i - state j ≡ m n state))
m_greatest = spread.m_is

-- It is at most the length, so that no index is above 1.
pub m-at-most-length : (n : ℕ) (state : ℕ → ℕ) (tree : List ℕ) (ρ δ l : ℕ) → IsTree n tree ρ δ → LengthMeans ordered n (cells n state) tree l
    → m n state ≤ l
m-at-most-length = extent.m_shortest
