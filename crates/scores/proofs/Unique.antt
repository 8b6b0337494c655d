-- What is found is one: any two scores of a character or of a tree, and any two contents of the six slices, that have their meaning are equal.
-- Assumes nothing.
use mathlib.Core.Path.{◌≡◌, refl, sym, ◌∙◌, ap, ap₂, subst}
use mathlib.Core.List.{List}
use Prim.Native.Nat.{ℕ, ◌-◌, ◌*◌, ◌≤◌, ◌<◌}
use native.Mathlib.Omega.{arith}
use lib.ListN.{length}
use Rattle.std.specs.Prelude.{Option, Some, None}
use Rattle.parsimony.specs.Table.{Accepted}
use Rattle.parsimony.specs.Ordered.{ordered}
use Rattle.parsimony.specs.Character.{at_node, cells, ranges, way_of}
use Rattle.parsimony.specs.Steps.{Chosen}
use Rattle.parsimony.specs.Index as index
use Rattle.parsimony.proofs.Sums.{sum_alike}
use Rattle.parsimony.proofs.Characters.{same_entries, way-taxon, way-inner}
use Rattle.parsimony.proofs.Uniqueness.{one-least, one-ordered-entry, one-ordered-final}
use Rattle.parsimony.proofs.Ranges.Distances.{pos_same}
use Rattle.parsimony.proofs.Ranges.Laws.{ordered_laws}
use Rattle.parsimony.proofs.Tables.Chosen.{one_way}
use Rattle.parsimony.proofs.Tables.Trees.{Tree}
use Rattle.indices.specs.declared.Fraction.{Fraction}
use Rattle.indices.specs.Indices.{index_of}
use Rattle.choices.specs.declared.Resolve.{Resolve}
use Rattle.choices.specs.declared.Resolve.TheVariants.{Acctran, Deltran}
use Rattle.scores.specs.declared.Scores.{Scores}
use Rattle.scores.specs.Scores.{HasIndices, CharacterScores, TreeScores, Results, ranges_of, CharacterMeans}

-- ---- scores

-- 1 for none
abbrev nones : index.Index → ℕ
nones (index.fraction a b) = 0
nones index.none = 1

-- an index is known by what it says
index_same : (i i' : Option Fraction) → index_of i ≡ index_of i' → i ≡ i'
index_same (Some f) (Some f') e = λ k. Some (record { over = over e k; under = under e k })
  where
    over : index.fraction f.over f.under ≡ index.fraction f'.over f'.under → f.over ≡ f'.over
    over q = cc

    under : index.fraction f.over f.under ≡ index.fraction f'.over f'.under → f.under ≡ f'.under
    under q = cc
index_same (Some f) None e = let z : ◌≡◌ {A = ℕ} 0 1 = ap nones e in absurd (omega arith)
index_same None (Some f) e = let z : ◌≡◌ {A = ℕ} 1 0 = ap nones e in absurd (omega arith)
index_same None None e = refl

scores-same : (s s' : Scores) → s.length ≡ s'.length → s.m ≡ s'.m → s.g ≡ s'.g → HasIndices s → HasIndices s' → s ≡ s'
scores-same s s' el em eg I I' = made s.ci s'.ci s.ri s'.ri el em eg same-ci same-ri
  where
    same-ci : s.ci ≡ s'.ci
    same-ci = index_same s.ci s'.ci (I.ci ∙ ap₂ index.ci em el ∙ sym I'.ci)

    same-ri : s.ri ≡ s'.ri
    same-ri =
        index_same s.ri s'.ri
        (I.ri ∙ ap (λ x. index.ri x s.length s.g) em ∙ ap₂ (λ x y. index.ri s'.m x y) el eg ∙ sym I'.ri)

    made : {l l' m m' g g' : ℕ} (c c' r r' : Option Fraction) → l ≡ l' → m ≡ m' → g ≡ g' → c ≡ c' → r ≡ r'
        → ◌≡◌ {A = Scores} (record { length = l; m = m; g = g; ci = c; ri = r }) (record { length = l'; m = m'; g = g'; ci = c'; ri = r' })
    made c c' r r' a b d e f = cc

-- ---- one character

module _ (n : ℕ) (state : ℕ → ℕ) (tree : List ℕ) (ρ δ : ℕ) (A : Accepted n tree ρ δ) (nodes : length tree ≡ 2 * n - 2) where
  abbrev T : Tree
  T = record { n = n; tree = tree; ρ = ρ; δ = δ; is_tree = A.is_tree }

  pub one-scores : (s s' : Scores) → CharacterScores n state tree ρ s → CharacterScores n state tree ρ s' → s ≡ s'
  one-scores s s' C C' =
      scores-same s s' (one-least C.least C'.least) (C.m ∙ sym C'.m) (C.g ∙ sym C'.g) C.indices C'.indices

  module _ (resolve : Resolve) (r r' : Results) (s s' : Scores) (M : CharacterMeans n state tree ρ resolve r s)
      (M' : CharacterMeans n state tree ρ resolve r' s') where
    entry : (v : ℕ) → n < v → v ≤ length tree
        → (at_node n r.first_lows v ≡ at_node n r'.first_lows v) × (at_node n r.first_highs v ≡ at_node n r'.first_highs v)
        × (at_node n r.subtree v ≡ at_node n r'.subtree v)
    entry v lo hi =
        one-ordered-entry n (cells n state) tree v _ _ _ _ _ _ (M.first.fits v lo hi) (M'.first.fits v lo hi) (M.first.means v lo hi)
        (M'.first.means v lo hi)

    final : (v : ℕ) → n < v → v ≤ length tree
        → (at_node n r.final_lows v ≡ at_node n r'.final_lows v) × (at_node n r.final_highs v ≡ at_node n r'.final_highs v)
    final v lo hi =
        one-ordered-final n (cells n state) tree v _ _ _ _ (M.finals.fits v lo hi) (M'.finals.fits v lo hi) (M.finals.means v lo hi)
        (M'.finals.means v lo hi)

    -- list by list, each from what is said of its own entries
    first_lows : r.first_lows ≡ r'.first_lows
    first_lows = same_entries n tree _ _ nodes M.long.first_lows M'.long.first_lows (λ v lo hi. (entry v lo hi).0)

    first_highs : r.first_highs ≡ r'.first_highs
    first_highs = same_entries n tree _ _ nodes M.long.first_highs M'.long.first_highs (λ v lo hi. (entry v lo hi).1)

    subtree : r.subtree ≡ r'.subtree
    subtree = same_entries n tree _ _ nodes M.long.subtree M'.long.subtree (λ v lo hi. (entry v lo hi).2)

    final_lows : r.final_lows ≡ r'.final_lows
    final_lows = same_entries n tree _ _ nodes M.long.final_lows M'.long.final_lows (λ v lo hi. (final v lo hi).0)

    final_highs : r.final_highs ≡ r'.final_highs
    final_highs = same_entries n tree _ _ nodes M.long.final_highs M'.long.final_highs (λ v lo hi. (final v lo hi).1)

    ranges-same : (resolve : Resolve) → ranges_of resolve n state r ≡ ranges_of resolve n state r'
    ranges-same Acctran = ap₂ (λ a b. ranges n state a b) first_lows first_highs
    ranges-same Deltran = ap₂ (λ a b. ranges n state a b) final_lows final_highs

    states : r.states ≡ r'.states
    states = same_entries n tree _ _ nodes M.long.states M'.long.states at
      where
        chosen : Chosen ordered n (cells n state) tree ρ (ranges_of resolve n state r') (way_of n state r.states)
        chosen =
            subst (λ q. Chosen ordered n (cells n state) tree ρ q (way_of n state r.states)) (ranges-same resolve) M.chosen

        root : way_of n state r.states ρ ≡ way_of n state r'.states ρ
        root = way-taxon n state r.states ρ A.is_tree.taxon ∙ sym (way-taxon n state r'.states ρ A.is_tree.taxon)

        at : (v : ℕ) → n < v → v ≤ length tree → at_node n r.states v ≡ at_node n r'.states v
        at v lo hi =
            pos_same _ _
            (sym (way-inner n state r.states v lo)
            ∙ one_way ordered ordered_laws (cells n state) T (cells n state) (λ u. 0) (ranges_of resolve n state r') (way_of n state r.states)
            (way_of n state r'.states) chosen
            M'.chosen root v (omega arith) hi
            ∙ way-inner n state r'.states v lo)

    pub one-results : r ≡ r'
    one-results = made first_lows first_highs subtree final_lows final_highs states
      where
        made : {a a' b b' c c' d d' e e' f f' : List ℕ} → a ≡ a' → b ≡ b' → c ≡ c' → d ≡ d' → e ≡ e' → f ≡ f'
            → ◌≡◌ {A = Results} (record { first_lows = a; first_highs = b; subtree = c; final_lows = d; final_highs = e; states = f })
            (record { first_lows = a'; first_highs = b'; subtree = c'; final_lows = d'; final_highs = e'; states = f' })
        made p q s t u v = cc

-- ---- all characters

pub one-tree-scores : (n c : ℕ) (matrix tree : List ℕ) (ρ : ℕ) (s s' : Scores) → TreeScores n c matrix tree ρ s → TreeScores n c matrix tree ρ s'
    → s ≡ s'
one-tree-scores n c matrix tree ρ s s' M M' =
    scores-same s s'
    (M.total ∙ sum_alike M.lengths M'.lengths c (λ j a b. one-least (M.least j a b) (M'.least j a b)) ∙ sym M'.total)
    (M.m ∙ sym M'.m) (M.g ∙ sym M'.g) M.indices M'.indices
