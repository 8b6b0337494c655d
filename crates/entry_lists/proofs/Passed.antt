-- What a first pass leaves of one character of a block: its entries by themselves are settled, and its length is the least.
-- Assumes nothing.
use mathlib.Core.Path.{◌≡◌, sym, ◌∙◌, ap, ap₂, subst}
use mathlib.Core.List.{List, [], ◌∷◌}
use Prim.Native.Nat.{ℕ, suc, ◌+◌, ◌-◌, ◌*◌, ◌≤◌, ◌<◌}
use native.Mathlib.Decide.{dec_le}
use native.Mathlib.Omega.{arith}
use lib.ListN.{length, get_or}
use Rattle.parsimony.specs.Table.{descendants}
use Rattle.parsimony.specs.Ordered as ordered
use Rattle.parsimony.specs.Ordered.{span, point}
use Rattle.parsimony.specs.Matrix.{state_of}
use Rattle.parsimony.specs.Character.{at_node, cells, ranges, sizes}
use Rattle.parsimony.specs.Steps.{FirstPass}
use Rattle.parsimony.specs.Meaning.{LengthMeans}
use Rattle.parsimony.proofs.Sums.{all_map}
use Rattle.parsimony.proofs.Characters.{span-point, range-taxon, range-inner, size-taxon, size-inner, Settles, settles}
use Rattle.parsimony.proofs.Tables.Descendants.{each_descends}
use Rattle.parsimony.proofs.Ranges.Joins.{cost-high}
use Rattle.parsimony.proofs.Ranges.Laws.{ordered_laws}
use Rattle.parsimony.proofs.Tables.First.{length-means}
use Rattle.parsimony.proofs.Tables.Whole.{δ-inner}
use Rattle.parsimony.proofs.Tables.Mending.{Alike, stays_settled}
use Rattle.parsimony.proofs.Tables.Trees.{Tree, δ-some, δ-most}
use Rattle.shapes.specs.Shape.{inside}
use Rattle.shapes.specs.Filling.{Orders}
use Rattle.shapes.proofs.Subtrees as subtrees
use Rattle.rows.specs.Rows.{range_at}
use Rattle.blocks.specs.Blocks.{Fits}
use Rattle.passes.specs.Passes.{PassedIn}
use Rattle.entry_lists.specs.EntryLists.{Copied, Taken, Ends, length_at}

-- a list of the block, copied for the character i, has what the block has at the nodes
pub taken : {n w i : ℕ} {block entries : List ℕ} → 1 ≤ i → Copied n w i block entries → Taken n w i block entries
taken {n} {w} {i} {block} p C =
    record {
      long = C.long;
      taken = λ v lo hi. C.copied (v - suc n) 0 (omega arith) ∙ ap (λ k. get_or block k 0) (ap (λ x. x * w + (i - 1)) (row v lo) ∙ omega arith);
    }
  where
    row : (v : ℕ) → n < v → n + (v - suc n) ≡ v - 1
    row v lo = omega arith

module _ {n δ : ℕ} {tree : List ℕ} {ρ : ℕ} {left right : List ℕ} (O : Orders n δ tree ρ left right) where
  abbrev T : Tree
  T = record { n = n; tree = tree; ρ = ρ; δ = δ; is_tree = O.accepted.is_tree }

  module _ {c a w : ℕ} {matrix lows highs lengths : List ℕ} (P : PassedIn n c a w tree matrix lows highs lengths) (i : ℕ) (p : 1 ≤ i) (q : i ≤ w) where
    abbrev state : ℕ → ℕ
    state = state_of matrix c (a + i)

    -- the range of a taxon in the block
    pub taxon-range : (k : ℕ) → 1 ≤ k → k ≤ n → range_at lows highs w i k ≡ point (state k)
    taxon-range k r s =
        let (f, g, h) = P.taxa i k p q r s in
        ap₂ span f g ∙ span-point (state k)

    module _ {flows fhighs flengths : List ℕ} (E : Taken n w i lows flows) (F : Taken n w i highs fhighs) (G : Taken n w i lengths flengths) where
      last : (v : ℕ) → v ≤ length tree → v ≤ 2 * n - 2
      last v hi = omega (arith, O.sized.nodes)

      -- an entry by itself is what it is in the block
      alike : (v : ℕ) → 1 ≤ v → v ≤ length tree
          → Alike ordered.ordered (range_at lows highs w i) (ranges n state flows fhighs) (state_of lengths w i) (sizes n state flengths) v
      alike v lo hi = go (dec_le v n)
        where
          go : Dec (v ≤ n) → Alike ordered.ordered (range_at lows highs w i) (ranges n state flows fhighs) (state_of lengths w i)
              (sizes n state flengths) v
          go (yes l) = (
            range-taxon n state flows fhighs v l ∙ sym (taxon-range v lo l),
            size-taxon n state flengths v l ∙ sym (P.taxa i v p q lo l).2,
          )
          go (no l) =
              let h : n < v = omega arith in (
                range-inner n state flows fhighs v h ∙ ap₂ span (E.taken v h (last v hi)) (F.taken v h (last v hi)),
                size-inner n state flengths v h ∙ G.taken v h (last v hi),
              )

      pub one_settles : Settles n state tree flows fhighs flengths
      one_settles =
          settles n state tree flows fhighs flengths
          (λ v lo hi. stays_settled ordered.ordered (range_at lows highs w i) (ranges n state flows fhighs) (state_of lengths w i)
          (sizes n state flengths)
          tree v (alike v (omega arith) hi)
          (all_map _ (Alike ordered.ordered (range_at lows highs w i) (ranges n state flows fhighs) (state_of lengths w i) (sizes n state flengths))
          (λ k d. alike k d.some d.most) (descendants tree v) (each_descends tree v))
          (P.settled i v p q lo hi))

      pub one-fits : (v : ℕ) → n < v → v ≤ length tree
          → (at_node n flows v ≤ at_node n fhighs v) × (at_node n fhighs v ≤ 9999) × (at_node n flengths v ≤ 9999 * inside n tree v)
      one-fits v lo hi =
          let (x, y, z) = P.fits i v p q lo hi in
          let e : at_node n flows v ≡ state_of lows w i v = E.taken v lo (last v hi) in
          let f : at_node n fhighs v ≡ state_of highs w i v = F.taken v lo (last v hi) in
          let g : at_node n flengths v ≡ state_of lengths w i v = G.taken v lo (last v hi) in
          (omega arith, omega arith, subst (λ s. s ≤ 9999 * inside n tree v) (sym g) z)

    -- ---- its length

    -- the block's own entries are a first pass
    pub block-pass : FirstPass ordered.ordered n (cells n state) tree (range_at lows highs w i) (state_of lengths w i)
    block-pass = record { taxa = λ k r s. (taxon-range k r s, (P.taxa i k p q r s).2); forks = λ v lo hi. P.settled i v p q lo hi }

    top-fits : Fits n tree lows highs lengths w i δ
    top-fits = P.fits i δ p q (δ-inner T) (δ-most T)

    -- at most 9999 for each interior node
    below-small : state_of lengths w i δ ≤ 2539746
    below-small = omega (arith, top-fits.2, subtrees.inside-few T δ (δ-some T), O.sized.nodes, O.sized.most)

    pub ends : w ≤ 8 → Ends ρ δ w i lows highs lengths
    ends few =
        let (f, g, h) = P.taxa i ρ p q O.accepted.is_tree.some O.accepted.is_tree.taxon in
        record {
          few = few;
          some = p;
          one = q;
          nodes = (O.accepted.is_tree.some, δ-some T);
          last = (
            omega (arith, O.accepted.is_tree.taxon, O.sized.most),
            omega (arith, δ-most T, O.sized.nodes, O.sized.most),
          );
          root_fits = omega arith;
          fits = top-fits.0;
          small = omega (arith, below-small);
        }

    -- it is the least
    pub length_is : LengthMeans ordered.ordered n (cells n state) tree (length_at ρ δ w i lows highs lengths)
    length_is =
        subst (LengthMeans ordered.ordered n (cells n state) tree)
        (ap (λ r. state_of lengths w i δ + ordered.cost (r ∷ range_at lows highs w i δ ∷ []))
        (sym (taxon-range ρ O.accepted.is_tree.some O.accepted.is_tree.taxon)))
        (length-means ordered.ordered ordered_laws (cells n state) T (range_at lows highs w i) (state_of lengths w i) block-pass)

    -- and small: at most 9999 for each interior node and the root
    pub length-small : ((k : ℕ) → 1 ≤ k → k ≤ n → state k ≤ 9999) → length_at ρ δ w i lows highs lengths ≤ 2549745
    length-small small =
        let (f, g, h) = P.taxa i ρ p q O.accepted.is_tree.some O.accepted.is_tree.taxon in
        let s = small ρ O.accepted.is_tree.some O.accepted.is_tree.taxon in
        omega (
          arith,
          below-small,
          cost-high (range_at lows highs w i ρ) (range_at lows highs w i δ) 9999 (omega arith) (omega (arith, top-fits.0, top-fits.1)),
        )
