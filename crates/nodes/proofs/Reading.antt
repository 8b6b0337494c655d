-- The range of a node, read from a matrix and two lists; and what a node sees from above.
-- Assumes nothing.
use mathlib.Core.Path.{◌≡◌, refl, sym, ◌∙◌, ap, ap₂, subst}
use mathlib.Core.Logic.{◌≢◌}
use mathlib.Core.List.{List, [], ◌∷◌, ◌++◌, map}
use Prim.Native.Nat.{ℕ, suc, ◌+◌, ◌-◌, ◌≤◌, ◌<◌}
use native.Mathlib.Decide.{ℕ_discrete}
use native.Mathlib.Omega.{arith}
use lib.ListN.{length, get_or, set}
use Rattle.parsimony.specs.Lists.{choose, same, without}
use Rattle.parsimony.specs.Table.{ancestor, descendants, sisters}
use Rattle.parsimony.specs.Ordered as ordered
use Rattle.parsimony.specs.Ordered.{span, point}
use Rattle.parsimony.specs.Matrix.{state_of}
use Rattle.parsimony.specs.Character.{at_node, ranges}
use Rattle.parsimony.proofs.Sums.{often, same_self, same-apart, same_equal, without_middle}
use Rattle.parsimony.proofs.Characters.{span-point, range-taxon}
use Rattle.parsimony.proofs.Tables.Descendants.{often-descendants}
use Rattle.parsimony.proofs.Tables.Trees.{Tree}
use Rattle.ranges.specs.declared.Range.{Range}
use Rattle.ranges.specs.Ranges.{range_of, IsRange, Joined}
use Rattle.shapes.proofs.Subtrees as subtrees
use Rattle.nodes.specs.Nodes.{Readable, IsAt, other_of, above_of, Seeing, Seen, Finished}

-- ---- the range of a node

module _ (n c j v : ℕ) (matrix lows highs : List ℕ) where
  pub at-taxon : (s : ℕ) → v ≤ n → s ≡ state_of matrix c j v → IsAt n c j v matrix lows highs (record { low = s; high = s })
  at-taxon s l e =
      record {
        fits = omega arith;
        range = ap (λ x. span x x) e ∙ span-point (state_of matrix c j v) ∙ sym (range-taxon n (state_of matrix c j) lows highs v l);
      }

-- ---- the final range of a node

-- a descendant, by its place in one of the two lists
module _ (n c j v : ℕ) (matrix side lows highs : List ℕ) (inner : n < v) where
  slot : (u : ℕ) → u ≡ get_or side (v - n - 1) 0 → u ≡ at_node n side v
  slot u e = e ∙ ap (λ k. get_or side k 0) (omega arith)

pub finished : (n c j v : ℕ) (r : Range) (matrix left right lows highs lows₀ highs₀ : List ℕ) → n < v
    → (a b : ℕ) → a ≡ get_or left (v - n - 1) 0 → b ≡ get_or right (v - n - 1) 0
    → (x y : Range) → IsAt n c j a matrix lows highs x → IsAt n c j b matrix lows highs y
    → (last : Range) → Joined (range_of x ∷ range_of y ∷ range_of r ∷ []) last
    → Finished n c j v r matrix left right lows highs lows₀ highs₀ (set lows₀ (v - n - 1) last.low) (set highs₀ (v - n - 1) last.high)
finished n c j v r matrix left right lows highs lows₀ highs₀ h a b ea eb x y X Y last J =
    record {
      range = last;
      joined =
          record {
            fits = J.fits;
            joins = J.joins ∙ ap₂ (λ p q. ordered.join (p ∷ q ∷ range_of r ∷ [])) (X.range ∙ ap entry (slot n c j v matrix left lows highs h a ea))
                (Y.range ∙ ap entry (slot n c j v matrix right lows highs h b eb));
          };
      low_written = refl;
      high_written = refl;
    }
  where
    entry : ℕ → ordered.Range
    entry = ranges n (state_of matrix c j) lows highs

-- ---- from above

module _ {n c j ρ δ v : ℕ} {tree matrix left right lows highs : List ℕ} {above : List Range}
    (S : Seeing n c j ρ δ v tree matrix left right lows highs above) where
  abbrev T : Tree
  T = record { n = n; tree = tree; ρ = ρ; δ = δ; is_tree = S.accepted.is_tree }

  abbrev p : ℕ
  p = ancestor tree v

  -- the root's descendant sees the root's state
  pub sees_root : v ≡ δ → (s : ℕ) → s ≡ state_of matrix c j ρ
      → Seen n c j ρ δ v tree matrix lows highs above (record { low = s; high = s })
  sees_root e s q =
      record {
        fits = omega arith;
        top = λ d. ap (λ x. span x x) q ∙ span-point (state_of matrix c j ρ);
        rest = λ d. absurd (d e);
      }

  -- any other node has an interior ancestor, and a sister
  module _ (d : v ≢ δ) (q : ℕ) (up : q ≡ p) where
    inner_up : n < p
    inner_up = subtrees.inner-ancestor T v S.inner S.last d

    last_up : p ≤ length tree
    last_up = subtrees.ancestor_in T v

    place : p - suc n ≡ q - n - 1
    place = omega arith

    pub up_inner : n < q
    up_inner = omega (arith, inner_up)

    module _ (a b : ℕ) (ea : a ≡ get_or left (q - n - 1) 0) (eb : b ≡ get_or right (q - n - 1) 0) where
      fork : descendants tree p ≡ a ∷ b ∷ []
      fork =
          S.shape p inner_up last_up
          ∙ ap₂ (λ x y. x ∷ y ∷ []) (ap (λ k. get_or left k 0) place ∙ sym ea) (ap (λ k. get_or right k 0) place ∙ sym eb)

      -- v is one of its ancestor's two descendants, and not both
      one_of : same a v + (same b v + 0) ≡ 1
      one_of = ap (λ l. often l v) (sym fork) ∙ often-descendants tree p v (omega (arith, inner_up)) ∙ same_self p

      pub sister_is : sisters tree v ≡ other_of v a b ∷ []
      sister_is = ap (without v) fork ∙ go (ℕ_discrete a v)
        where
          go : (e : Dec (a ≡ v)) → without v (a ∷ b ∷ []) ≡ choose e b a ∷ []
          go (yes e) =
              ap (λ u. without v (u ∷ b ∷ [])) e
              ∙ without_middle [] v (b ∷ []) (omega (arith, one_of, same_self v, ap (λ u. same u v) e))
          go (no e) = ap (λ u. without v (a ∷ u ∷ [])) second ∙ without_middle (a ∷ []) v [] (omega (arith, one_of, ap (λ u. same u v) second))
            where
              second : b ≡ v
              second = same_equal b v (omega (arith, one_of, same-apart a v e))

      pub sister_in : (1 ≤ other_of v a b) × (other_of v a b ≤ length tree)
      sister_in = go (ℕ_discrete a v)
        where
          go : (e : Dec (a ≡ v)) → (1 ≤ choose e b a) × (choose e b a ≤ length tree)
          go (yes e) = let (lo, hi, up) = subtrees.some-second T p a b inner_up last_up fork in (lo, hi)
          go (no e) = let (lo, hi, up) = subtrees.some_first T p a b inner_up last_up fork in (lo, hi)

      pub sister_readable : (u : ℕ) → u ≡ other_of v a b → Readable n c j u matrix lows highs
      sister_readable u e =
          rw e
          (record {
            some = S.some;
            most = S.most;
            rows = S.rows;
            low_long = S.low_long;
            high_long = S.high_long;
            node = sister_in.0;
            last = omega (arith, sister_in.1, S.sized.nodes);
            fits = λ h. S.fits (other_of v a b) h sister_in.1;
          })

      pub above-fits : IsRange (get_or above (q - n - 1) (record { low = 0; high = 0 }))
      above-fits = subst (λ k. IsRange (get_or above k (record { low = 0; high = 0 }))) place (S.known d)

      pub sees_join : (u : ℕ) → u ≡ other_of v a b → (beside r : Range) → IsAt n c j u matrix lows highs beside
          → Joined (range_of beside ∷ range_of (get_or above (q - n - 1) (record { low = 0; high = 0 })) ∷ []) r
          → Seen n c j ρ δ v tree matrix lows highs above r
      sees_join u eu beside r B J =
          record {
            fits = J.fits;
            top = λ e. absurd (d e);
            rest = λ e.
                J.joins
                ∙ ap₂ (λ x y. ordered.join (x ∷ y ∷ [])) (B.range ∙ ap (ranges n (state_of matrix c j) lows highs) eu)
                (ap (λ k. range_of (get_or above k (record { low = 0; high = 0 }))) (sym place))
                ∙ ap (λ us. ordered.join (map (ranges n (state_of matrix c j) lows highs) us ++ (above_of n above p ∷ [])))
                (sym sister_is);
          }
