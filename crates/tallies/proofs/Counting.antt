-- A character's length from its entries, and the sum over all characters.
-- Assumes nothing.
use mathlib.Core.Path.{◌≡◌, sym, ◌∙◌, ap, ap₂, subst}
use mathlib.Core.List.{List, [], ◌∷◌}
use Prim.Native.Nat.{ℕ, ◌+◌, ◌-◌, ◌*◌, ◌≤◌, ◌<◌}
use native.Mathlib.Omega.{arith}
use lib.ListN.{get_or, take, drop}
use Rattle.parsimony.specs.Lists.{sum, from}
use Rattle.parsimony.specs.Ordered as ordered
use Rattle.parsimony.specs.Ordered.{point}
use Rattle.parsimony.specs.Matrix.{state_of}
use Rattle.parsimony.specs.Character.{at_node, ranges, sizes}
use Rattle.parsimony.proofs.Sums.{sum_next}
use Rattle.parsimony.proofs.Characters.{range-taxon, range-inner, size-inner}
use Rattle.parsimony.proofs.Ranges.Joins.{cost-high}
use Rattle.refusals.specs.Search.{Never}
use Rattle.refusals.specs.Checks.{Clear}
use Rattle.refusals.proofs.Laws.{lowest_never}
use Rattle.ranges.specs.declared.Range.{Range}
use Rattle.ranges.specs.Ranges.{range_of}
use Rattle.nodes.specs.Nodes.{Readable, IsAt}
use Rattle.tables.specs.Tables.{stretch}
use Rattle.entries.specs.Entries.{BadAt, BadIn, all_entries}
use Rattle.entries.proofs.Searching.{clean, part_is, one-character}
use Rattle.tallies.specs.Tallies.{length_here, length_in, IsLength, HasTop, AllSound}

-- ---- one character

module _ (n c j ρ δ : ℕ) (matrix lows highs lengths : List ℕ) (S : HasTop n c j ρ δ matrix lows highs lengths) where
  abbrev state : ℕ → ℕ
  state = state_of matrix c j

  -- the entry of the root's descendant
  entry : (at_node n lows δ ≤ at_node n highs δ) × (at_node n highs δ ≤ 9999) × (at_node n lengths δ ≤ 5089491)
  entry = clean (at_node n lows δ) (at_node n highs δ) (at_node n lengths δ) (λ b. S.sound (S.inner, b))

  pub top_reads : Readable n c j δ matrix lows highs
  top_reads =
      record {
        some = S.character.0;
        most = S.character.1;
        rows = S.rows;
        low_long = S.lists.low_long;
        high_long = S.lists.high_long;
        node = omega (arith, S.inner);
        last = S.last;
        fits = λ l. entry.0;
      }

  pub below-here : get_or lengths (δ - n - 1) 0 ≡ sizes n state lengths δ
  below-here = ap (λ k. get_or lengths k 0) (omega (arith, S.inner)) ∙ sym (size-inner n state lengths δ S.inner)

  -- the cost of the step at the root
  abbrev last_cost : ℕ
  last_cost = ordered.cost (point (state ρ) ∷ ranges n state lows highs δ ∷ [])

  cost-small : last_cost ≤ 9999
  cost-small =
      cost-high (point (state ρ)) (ranges n state lows highs δ) 9999 S.state
      (omega (arith, ap (λ (r : ordered.Range). r.high) (range-inner n state lows highs δ S.inner), entry))

  pub length-small : (tree : List ℕ) → length_here n c j ρ δ tree matrix lows highs lengths ≤ 5099490
  length-small tree = omega (arith, cost-small, entry, size-inner n state lengths δ S.inner)

  module _ (x y : Range) (X : IsAt n c j ρ matrix lows highs x) (Y : IsAt n c j δ matrix lows highs y) (k : ℕ)
      (e : k ≡ ordered.cost (range_of x ∷ range_of y ∷ [])) where
    cost_is : k ≡ last_cost
    cost_is =
        e ∙ ap₂ (λ r q. ordered.cost (r ∷ q ∷ [])) (X.range ∙ range-taxon n state lows highs ρ S.root.1) Y.range

    pub fits-here : (k' : ℕ) → k' ≡ k → get_or lengths (δ - n - 1) 0 + k' ≤ 5099490
    fits-here k' d = omega (arith, cost_is, cost-small, below-here, entry, size-inner n state lengths δ S.inner)

    pub length-here : (k' : ℕ) → k' ≡ k → IsLength n c j ρ δ matrix lows highs lengths (get_or lengths (δ - n - 1) 0 + k')
    length-here k' d tree = ap₂ (λ a b. a + b) below-here (d ∙ cost_is)

-- ---- all characters

module _ (n c ρ δ : ℕ) (matrix lows highs lengths : List ℕ) (S : AllSound n c ρ δ matrix lows highs lengths) (k : ℕ) (l : k < c) (q : ℕ)
    (e : q ≡ n - 2) where
  -- the stretch of the character k + 1, said by its two ends
  abbrev part : List ℕ → List ℕ
  part entries = take q (drop (k * (n - 2)) entries)

  is_stretch : (entries : List ℕ) → part entries ≡ stretch (n - 2) entries (k + 1)
  is_stretch entries = part_is n c lows highs lengths S.given.lists k l q e entries

  pub has-top : HasTop n c (k + 1) ρ δ matrix (part lows) (part highs) (part lengths)
  has-top =
      record {
        lists = one-character n c lows highs lengths S.given.lists k l q e;
        root = S.given.root;
        inner = S.given.inner;
        last = S.given.last;
        character = (omega arith, omega arith);
        rows = S.given.rows;
        state = S.given.states (k + 1) (omega arith) (omega arith);
        sound = λ b. S.sound (k + 1) (omega arith) (omega arith) δ (omega (arith, S.given.inner)) S.given.last (in_stretch b);
      }
    where
      in_stretch : BadAt n (part lows) (part highs) (part lengths) δ
          → BadAt n (stretch (n - 2) lows (k + 1)) (stretch (n - 2) highs (k + 1)) (stretch (n - 2) lengths (k + 1)) δ
      in_stretch b =
          subst (λ x. BadAt n x (stretch (n - 2) highs (k + 1)) (stretch (n - 2) lengths (k + 1)) δ) (is_stretch lows)
          (subst (λ x. BadAt n (part lows) x (stretch (n - 2) lengths (k + 1)) δ) (is_stretch highs)
          (subst (λ x. BadAt n (part lows) (part highs) x δ) (is_stretch lengths) b))

  module _ (r : ℕ) (L : IsLength n c (k + 1) ρ δ matrix (part lows) (part highs) (part lengths) r) where
    pub one-small : r ≤ 5099490
    one-small = omega (arith, L [], length-small n c (k + 1) ρ δ matrix (part lows) (part highs) (part lengths) has-top [])

    pub one_more : (total : ℕ) → ((tree : List ℕ) → total ≡ sum (length_in n c ρ δ tree matrix lows highs lengths) (from 1 k)) → (tree : List ℕ)
        → total + r ≡ sum (length_in n c ρ δ tree matrix lows highs lengths) (from 1 (k + 1))
    one_more total h tree =
        ap₂ (λ a b. a + b) (h tree) here ∙ sym (sum_next (length_in n c ρ δ tree matrix lows highs lengths) k)
      where
        here : r ≡ length_in n c ρ δ tree matrix lows highs lengths (k + 1)
        here =
            L tree ∙ ap (λ x. length_here n c (k + 1) ρ δ tree matrix x (part highs) (part lengths)) (is_stretch lows)
            ∙ ap₂ (λ x y. length_here n c (k + 1) ρ δ tree matrix (stretch (n - 2) lows (k + 1)) x y) (is_stretch highs) (is_stretch lengths)

-- ---- 10

module _ (n c : ℕ) (lows highs lengths : List ℕ) where
  pub found-most : (p : ℕ) → (all_entries n c lows highs lengths).At p → p ≤ 2 * n - 2
  found-most p (j, b, L, h) = L.most

  pub clear_entries : ((j : ℕ) → 1 ≤ j → j ≤ c → Never (BadIn n lows highs lengths j) (2 * n - 2)) → Clear (all_entries n c lows highs lengths)
  clear_entries N p (j, (a, b), L, h) = lowest_never (BadIn n lows highs lengths j) (2 * n - 2) p L (N j a b)
