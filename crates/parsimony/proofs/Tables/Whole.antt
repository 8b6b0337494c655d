-- The tree of a whole table: the tree of the root's descendant, with the root as one more tip behind its branches. Then every rule is the same
-- at the root's descendant as elsewhere.
-- Assumes nothing.
use mathlib.Core.Path.{◌≡◌, refl, sym, ◌∙◌, ap}
use mathlib.Core.List.{[], ◌∷◌}
use Prim.Native.Nat.{ℕ, suc, ◌+◌, ◌≤◌, ◌<◌}
use native.Mathlib.Decide.{dec_le}
use native.Mathlib.Omega.{arith}
use lib.ListN.{length}
use Rattle.parsimony.specs.Lists.{same}
use Rattle.parsimony.specs.Table.{descendants}
use Rattle.parsimony.specs.Kind.{Kind, Laws}
use Rattle.parsimony.proofs.Sums.{same-apart}
use Rattle.parsimony.proofs.Rose.Shapes.{Rose, Roses, tip, node, one, more, top, count, Distinct}
use Rattle.parsimony.proofs.Rose.Lengths.{length_in}
use Rattle.parsimony.proofs.Rose.Reroot.{◌⊕◌, Place, after, past, fill, rest, Up, plug, up_rose, count-plug, off, off-plug, length-plug}
use Rattle.parsimony.proofs.Tables.Trees.{Tree, meets-root, δ-some, δ-most, δ-apart}
use Rattle.parsimony.proofs.Tables.Fitting.{Fits, count_meets, distinct, tree_of}

-- the place behind all of a list
abbrev behind : Roses → Place
behind (one s) = after s
behind (more s f) = past s (behind f)

fill-behind : (f : Roses) (t : Rose) → fill (behind f) t ≡ f ⊕ one t
fill-behind (one s) t = refl
fill-behind (more s f) t = ap (more s) (fill-behind f t)

rest-behind : (f : Roses) → rest (behind f) ≡ f
rest-behind (one s) = refl
rest-behind (more s f) = ap (more s) (rest-behind f)

-- the tree of δ with the branches f, and the tip ρ behind them
abbrev pub whole_of : ℕ → ℕ → Roses → Rose
whole_of ρ δ f = node δ (f ⊕ one (tip ρ))

module _ (T : Tree) where
  open T use {n, tree, ρ, δ, is_tree}
  open is_tree use {some, taxon, leaf, stem, more}

  -- a tree of the root's descendant, and the root: each node once
  pub each-once : (t : Rose) → Fits (descendants tree) t → top t ≡ δ → (k : ℕ) → 1 ≤ k → k ≤ length tree → same ρ k + count t k ≡ 1
  each-once t h e k p l =
      omega (
        arith,
        count_meets T (node ρ (one t)) (ap (λ d. d ∷ []) e ∙ sym stem, h) some k,
        meets-root T k l,
      )

  pub δ-inner : n < δ
  δ-inner = go (dec_le δ n)
    where
      go : Dec (δ ≤ n) → n < δ
      go (no r) = omega arith
      go (yes r) =
          omega (
            arith,
            each-once (tip δ) (leaf δ (δ-some T) r (δ-apart T)) refl (suc n) (omega arith) more,
            same-apart ρ (suc n) (λ e. omega (arith, taxon)),
            same-apart δ (suc n) (λ e. omega arith),
          )

  -- the branches of the root's descendant
  pub crown : Roses
  crown = (tree_of T δ δ-inner (δ-most T)).0

  pub crown_fits : Fits (descendants tree) (node δ crown)
  unfolding crown
  crown_fits = (tree_of T δ δ-inner (δ-most T)).1

  abbrev pub whole : Rose
  whole = whole_of ρ δ crown

  -- the root, as a tip of the whole
  abbrev pub root_up : Up
  root_up = Up.root δ (behind crown)

  pub whole-plug : plug root_up (tip ρ) ≡ whole
  whole-plug = ap (node δ) (fill-behind crown (tip ρ))

  pub up_crown : up_rose root_up ≡ node δ crown
  up_crown = ap (node δ) (rest-behind crown)

  pub whole_distinct : Distinct whole
  whole_distinct k =
      omega (
        arith,
        ap (λ t. count t k) (sym whole-plug),
        count-plug root_up (tip ρ) k,
        ap (λ t. count t k) up_crown,
        distinct T (node ρ (one (node δ crown))) (sym stem, crown_fits) some k,
      )

  module _ (K : Kind) (cell : ℕ → K.Region) (w : ℕ → K.State) where
    pub whole-off : off K cell whole w ≡ K.away (w ρ) (cell ρ) + off K cell (node δ crown) w
    whole-off =
        ap (λ t. off K cell t w) (sym whole-plug) ∙ off-plug K cell root_up (tip ρ) w
        ∙ ap (λ t. K.away (w ρ) (cell ρ) + off K cell t w) up_crown

    pub whole_length : Laws K → length_in K cell whole w ≡ K.distance (w ρ) (w δ) + length_in K cell (node δ crown) w
    whole_length laws =
        ap (λ t. length_in K cell t w) (sym whole-plug) ∙ length-plug K cell laws root_up (tip ρ) w
        ∙ ap (λ t. 0 + (K.distance (w ρ) (w (top t)) + length_in K cell t w)) up_crown ∙ omega arith
