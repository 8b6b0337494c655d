-- The other way round: entries that have their meaning are settled. A meaning is had by one region and one length alone (Uniqueness.antt), and the
-- tree of a node has them, so they are the join and the sum of what the node's branches have.
-- Assumes nothing.
use mathlib.Core.Path.{◌≡◌, sym, ◌∙◌, ap, ap₂, subst₂}
use mathlib.Core.Logic.{◌≢◌, ◌↔◌}
use mathlib.Core.List.{List, [], ◌∷◌, map}
use Prim.Native.Nat.{ℕ, ◌+◌, ◌≤◌, ◌<◌}
use native.Mathlib.Decide.{dec_le}
use native.Mathlib.Omega.{arith}
use lib.ListN.{length}
use Rattle.parsimony.specs.Lists.{sum}
use Rattle.parsimony.specs.Table.{descendants, IsTree}
use Rattle.parsimony.specs.Kind.{Kind, Laws, In}
use Rattle.parsimony.specs.Ordered.{ordered}
use Rattle.parsimony.specs.Meaning.{EntryMeans}
use Rattle.parsimony.specs.Steps.{Settled, FirstPass}
use Rattle.parsimony.specs.Character.{cells, ranges, sizes, FirstMeans}
use Rattle.parsimony.proofs.Sums.{All}
use Rattle.parsimony.proofs.Uniqueness.{one_entry, one-range}
use Rattle.parsimony.proofs.Characters.{range-taxon, range-inner, size-taxon, size-inner}
use Rattle.parsimony.proofs.Rose.Shapes.{Rose, Roses, tip, node, one, more, top}
use Rattle.parsimony.proofs.Rose.Lengths.{region, regions, least, leasts}
use Rattle.parsimony.proofs.Ranges.Laws.{ordered_laws}
use Rattle.parsimony.proofs.Tables.Descendants.{Descends, each_descends}
use Rattle.parsimony.proofs.Tables.Trees.{Tree}
use Rattle.parsimony.proofs.Tables.Fitting.{tops, Fits, AllFit, some_branch, not_root, tree_of}
use Rattle.parsimony.proofs.Tables.Ways.{childless, below-least, below-used}

-- of any kind whose regions are known by their states
module _ (K : Kind) (laws : Laws K) (cell : ℕ → K.Region) (T : Tree) (entry : ℕ → K.Region) (size : ℕ → ℕ)
    (known : (r q : K.Region) → ((x : K.State) → In K x r ↔ In K x q) → r ≡ q) where
  open T use {n, tree, ρ, is_tree}
  open is_tree use {leaf}

  module _ (taxa : (k : ℕ) → 1 ≤ k → k ≤ n → (entry k ≡ cell k) × (size k ≡ 0))
      (means : (v : ℕ) → n < v → v ≤ length tree → EntryMeans K n cell tree v (entry v) (size v)) where
    -- the entry of a node is the region and the least length of its tree
    of_node : (v : ℕ) → n < v → v ≤ length tree → (f : Roses) → Fits (descendants tree) (node v f)
        → (region K cell (node v f) ≡ entry v) × (least K cell (node v f) ≡ size v)
    of_node v lo hi f h =
        let (e, s) = one_entry K n cell tree v (region K cell (node v f)) (entry v) (least K cell (node v f)) (size v)
        (record { least = below-least K laws cell T v lo hi f h; used = below-used K laws cell T v lo hi f h }) (means v lo hi) in
        (known (region K cell (node v f)) (entry v) s, e)

    -- a taxon's too
    of_tree : (t : Rose) → Fits (descendants tree) t → 1 ≤ top t → top t ≤ length tree → top t ≢ ρ
        → (region K cell t ≡ entry (top t)) × (least K cell t ≡ size (top t))
    of_tree (tip k) h p q r =
        let (e, s) = taxa k p (childless K laws cell T k q h) in
        (sym e, sym s)
    of_tree (node k f) h p q r = go (dec_le k n)
      where
        go : Dec (k ≤ n) → (region K cell (node k f) ≡ entry k) × (least K cell (node k f) ≡ size k)
        go (yes l) = absurd (some_branch (descendants tree) f (h.0 ∙ leaf k p l r))
        go (no l) = of_node k (omega arith) q f h

    -- and those of a list of trees, one after the other
    of_trees : (v : ℕ) → 1 ≤ v → (f : Roses) → AllFit (descendants tree) f → All (Descends tree v) (tops f)
        → (regions K cell f ≡ map entry (tops f)) × (leasts K cell f ≡ sum size (tops f))
    of_trees v p f = go f
      where
        first : (t : Rose) → Fits (descendants tree) t → Descends tree v (top t) → (region K cell t ≡ entry (top t)) × (least K cell t ≡ size (top t))
        first t h d = of_tree t h d.some d.most (not_root T v p (top t) d)

        go : (f : Roses) → AllFit (descendants tree) f → All (Descends tree v) (tops f)
            → (regions K cell f ≡ map entry (tops f)) × (leasts K cell f ≡ sum size (tops f))
        go (one t) h d =
            let (e, s) = first t h d.0 in
            (ap (λ x. x ∷ []) e, omega arith)
        go (more t f) h d =
            let (e, s) = first t h.0 d.0 in
            let (es, ss) = go f h.1 d.1 in
            (ap₂ (λ x xs. x ∷ xs) e es, omega arith)

    settled_at : (v : ℕ) → n < v → v ≤ length tree → Settled K tree entry size v
    settled_at v lo hi =
        let (f, h) = tree_of T v lo hi in
        let (e, s) = of_node v lo hi f h in
        let (es, ss) = of_trees v (omega arith) f h.1 (subst_tops h.0) in
        record {
          joined = sym e ∙ ap K.join (es ∙ ap (map entry) h.0);
          summed = sym s ∙ ap₂ (λ x xs. x + K.cost xs) (ss ∙ ap (sum size) h.0) (es ∙ ap (map entry) h.0);
        }
      where
        subst_tops : {cs : List ℕ} → cs ≡ descendants tree v → All (Descends tree v) cs
        subst_tops e = rw e (each_descends tree v)

    pub meant_pass : FirstPass K n cell tree entry size
    meant_pass = record { taxa = taxa; forks = settled_at }

-- three lists
pub meant_settled : (n : ℕ) (state : ℕ → ℕ) (tree : List ℕ) (ρ δ : ℕ) → IsTree n tree ρ δ → (lows highs lengths : List ℕ)
    → FirstMeans n state tree lows highs lengths
    → FirstPass ordered n (cells n state) tree (ranges n state lows highs) (sizes n state lengths)
meant_settled n state tree ρ δ A lows highs lengths M =
    meant_pass ordered ordered_laws (cells n state) (record { n = n; tree = tree; ρ = ρ; δ = δ; is_tree = A }) (ranges n state lows highs)
    (sizes n state lengths) one-range
    (λ k p l. (range-taxon n state lows highs k l, size-taxon n state lengths k l))
    (λ v lo hi. subst₂ (EntryMeans ordered n (cells n state) tree v) (sym (range-inner n state lows highs v lo))
    (sym (size-inner n state lengths v lo)) (M.means v lo hi))
