-- The subtree of a node is settled once the subtrees of its descendants are, and the node after them: what is settled in one of them stays so,
-- because nothing there is written again.
-- Assumes nothing.
use mathlib.Core.Path.{◌≡◌, refl, sym, ◌∙◌, ap, ap₂, subst}
use mathlib.Core.Logic.{◌≢◌, ◌⊎◌, inl, inr}
use mathlib.Core.List.{List, [], ◌∷◌, map}
use Prim.Native.Nat.{ℕ, suc, ◌+◌, ◌-◌, ◌≤◌, ◌<◌}
use native.Mathlib.Decide.{ℕ_discrete, dec_le}
use native.Mathlib.Omega.{arith}
use lib.ListN.{length, get_or}
use Rattle.parsimony.specs.Lists.{sum, same}
use Rattle.parsimony.specs.Table.{descendants, deep}
use Rattle.parsimony.specs.Ordered as ordered
use Rattle.parsimony.specs.Ordered.{span}
use Rattle.parsimony.specs.Steps.{Settled}
use Rattle.parsimony.specs.Matrix.{state_of}
use Rattle.parsimony.proofs.Sums.{all_map, same_self, same-apart}
use Rattle.parsimony.proofs.Tables.Trees.{Tree}
use Rattle.parsimony.proofs.Tables.Mending.{Alike, stays_settled}
use Rattle.parsimony.proofs.Ranges.Joins.{join-high, cost-high}
use Rattle.shapes.specs.Shape.{under}
use Rattle.shapes.proofs.Subtrees as subtrees
use Rattle.rows.specs.Rows.{range_at, Same, Room, Settleable, SettledRow}
use Rattle.blocks.specs.Blocks.{Fits, Walks, WalkedIn}

-- what stays the same stays the same
pub same-on : (lows highs lengths lows₁ highs₁ lengths₁ lows₂ highs₂ lengths₂ : List ℕ) (w i v : ℕ)
    → Same lows highs lengths lows₁ highs₁ lengths₁ w i v → Same lows₁ highs₁ lengths₁ lows₂ highs₂ lengths₂ w i v
    → Same lows highs lengths lows₂ highs₂ lengths₂ w i v
same-on lows highs lengths lows₁ highs₁ lengths₁ lows₂ highs₂ lengths₂ w i v (a, b, d) (a', b', d') = (a' ∙ a, b' ∙ b, d' ∙ d)

module _ {node n w : ℕ} {tree : List ℕ} {ρ δ : ℕ} {left right lows highs lengths : List ℕ}
    (W : Walks node n w tree ρ δ left right lows highs lengths) where
  abbrev T : Tree
  T = record { n = n; tree = tree; ρ = ρ; δ = δ; is_tree = W.accepted.is_tree }

  -- at a taxon there is nothing to do
  pub at-taxon : node ≤ n → WalkedIn node n w tree lows highs lengths lows highs lengths
  at-taxon l =
      record {
        room = W.room;
        settled = λ i v p q lo hi h. absurd (nobody v lo h);
        fits = λ i v p q lo hi h. absurd (nobody v lo h);
        taxa = λ i k p q r s. (refl, refl, refl);
        others = λ i v p q r s h. (refl, refl, refl);
      }
    where
      nobody : (v : ℕ) → n < v → 1 ≤ under tree node v → ⊥
      nobody v lo h = let e : v ≡ node = subtrees.under-taxon T node v W.some l W.apart h in omega arith

  -- few nodes are left when a node is deep
  pub allowed_some : {allowed : ℕ} → length tree < deep tree (length tree) node + allowed → 1 ≤ allowed
  allowed_some h = omega (arith, subtrees.deep-few T node)

  -- the two descendants of an interior node, read from the lists at its place
  pub fork : {a b : ℕ} → n < node → a ≡ get_or left (node - n - 1) 0 → b ≡ get_or right (node - n - 1) 0 → descendants tree node ≡ a ∷ b ∷ []
  fork lo p q =
      W.shape node lo W.most
      ∙ ap₂ (λ x y. x ∷ y ∷ []) (ap (λ k. get_or left k 0) place ∙ sym p) (ap (λ k. get_or right k 0) place ∙ sym q)
    where
      place : node - suc n ≡ node - n - 1
      place = omega arith

  pub nodes-few : length tree ≤ 510
  nodes-few = omega (arith, W.sized.nodes, W.sized.most)

  -- from another node, over entries whose taxa are as they are to be
  walks_from : (v : ℕ) → 1 ≤ v → v ≤ length tree → v ≢ ρ → (lows₁ highs₁ lengths₁ : List ℕ) → Room lows₁ highs₁ lengths₁
      → ((i k : ℕ) → 1 ≤ i → i ≤ w → 1 ≤ k → k ≤ n → (state_of lows₁ w i k ≤ state_of highs₁ w i k) × (state_of highs₁ w i k ≤ 9999))
      → ((i k : ℕ) → 1 ≤ i → i ≤ w → 1 ≤ k → k ≤ n → state_of lengths₁ w i k ≡ 0) → Walks v n w tree ρ δ left right lows₁ highs₁ lengths₁
  walks_from v some most apart lows₁ highs₁ lengths₁ room fits none =
      record {
        sized = W.sized;
        accepted = W.accepted;
        shape = W.shape;
        some = some;
        most = most;
        apart = apart;
        room = room;
        few = W.few;
        fits = fits;
        none = none;
      }

  module _ {a b : ℕ} (lo : n < node) (D : descendants tree node ≡ a ∷ b ∷ []) where
    hi : node ≤ length tree
    hi = W.most

    pub walks-first : Walks a n w tree ρ δ left right lows highs lengths
    walks-first =
        let (s, m, _) = subtrees.some_first T node a b lo hi D in
        walks_from a s m (subtrees.first-apart T node a b lo hi D) lows highs lengths W.room W.fits W.none

    pub first_allowed : (allowed : ℕ) → length tree < deep tree (length tree) node + allowed → length tree < deep tree (length tree) a + (allowed - 1)
    first_allowed allowed h =
        let (s, m, e) = subtrees.some_first T node a b lo hi D in
        omega (arith, subtrees.deep-below T a s, ap (deep tree (length tree)) e, subtrees.deep-few T node)

    module _ {lows₁ highs₁ lengths₁ : List ℕ} (A : WalkedIn a n w tree lows highs lengths lows₁ highs₁ lengths₁) where
      pub walks-second : Walks b n w tree ρ δ left right lows₁ highs₁ lengths₁
      walks-second =
          let (s, m, _) = subtrees.some-second T node a b lo hi D in
          walks_from b s m (subtrees.second-apart T node a b lo hi D) lows₁ highs₁ lengths₁ A.room
          (λ i k p q r s.
          let (x, y, z) = A.taxa i k p q r s in
          let (f, g) = W.fits i k p q r s in
          (omega arith, omega arith))
          (λ i k p q r s. (A.taxa i k p q r s).2 ∙ W.none i k p q r s)

      pub second_allowed : (allowed : ℕ) → length tree < deep tree (length tree) node + allowed
          → length tree < deep tree (length tree) b + (allowed - 1)
      second_allowed allowed h =
          let (s, m, e) = subtrees.some-second T node a b lo hi D in
          omega (arith, subtrees.deep-below T b s, ap (deep tree (length tree)) e, subtrees.deep-few T node)

      module _ {lows₂ highs₂ lengths₂ : List ℕ} (B : WalkedIn b n w tree lows₁ highs₁ lengths₁ lows₂ highs₂ lengths₂) where
        -- what a descendant's entry is, once both subtrees are finished
        abbrev Fit : ℕ → ℕ → Type 0
        Fit i v = Fits n tree lows₂ highs₂ lengths₂ w i v

        -- the second subtree is apart from the first
        second_out : (u : ℕ) → 1 ≤ under tree a u → under tree b u ≡ 0
        second_out u h = omega (arith, subtrees.under-once T node a b lo hi D u)

        kept-first : (i u : ℕ) → 1 ≤ i → i ≤ w → 1 ≤ u → u ≤ length tree → 1 ≤ under tree a u
            → Same lows₁ highs₁ lengths₁ lows₂ highs₂ lengths₂ w i u
        kept-first i u p q r s h = B.others i u p q r s (second_out u h)

        taxon-fits : (i k : ℕ) → 1 ≤ i → i ≤ w → 1 ≤ k → k ≤ n → Fit i k
        taxon-fits i k p q r s =
            let (x, y, z) = A.taxa i k p q r s in
            let (x', y', z') = B.taxa i k p q r s in
            let (f, g) = W.fits i k p q r s in
            (omega arith, omega arith, omega (arith, W.none i k p q r s))

        -- the entries of the first descendant are as the first walk left them and the second kept them, those of the second as the second left them
        first_fits : (i : ℕ) → 1 ≤ i → i ≤ w → Fit i a
        first_fits i p q = go (dec_le a n)
          where
            go : Dec (a ≤ n) → Fit i a
            go (yes l) = taxon-fits i a p q walks-first.some l
            go (no l) =
                let one = subtrees.under_self T a walks-first.some in
                let (f, g, s) = A.fits i a p q (omega arith) walks-first.most (omega arith) in
                let (x, y, z) = kept-first i a p q walks-first.some walks-first.most (omega arith) in
                (omega arith, omega arith, omega arith)

        second_fits : (i : ℕ) → 1 ≤ i → i ≤ w → Fit i b
        second_fits i p q = go (dec_le b n)
          where
            go : Dec (b ≤ n) → Fit i b
            go (yes l) = taxon-fits i b p q walks-second.some l
            go (no l) =
                let one = subtrees.under_self T b walks-second.some in
                B.fits i b p q (omega arith) walks-second.most (omega arith)

        pub settleable : Settleable node a b w lows₂ highs₂ lengths₂
        settleable =
            record {
              room = B.room;
              few = W.few;
              some = (W.some, walks-first.some, walks-second.some);
              most = (
                omega (arith, nodes-few, W.most),
                omega (arith, nodes-few, walks-first.most),
                omega (arith, nodes-few, walks-second.most),
              );
              apart = (subtrees.not_first T node a b lo hi D, subtrees.not_second T node a b lo hi D);
              fits = λ i p q. ((first_fits i p q).0, (second_fits i p q).0);
              small = λ i p q.
                  omega (
                    arith,
                    (first_fits i p q).2,
                    (second_fits i p q).2,
                    subtrees.inside-few T a walks-first.some,
                    subtrees.inside-few T b walks-second.some,
                    nodes-few,
                  );
            }

        module _ {lows₃ highs₃ lengths₃ : List ℕ} (R : SettledRow node a b w w lows₂ highs₂ lengths₂ lows₃ highs₃ lengths₃) where
          off : (i u : ℕ) → 1 ≤ i → i ≤ w → 1 ≤ u → u ≢ node → Same lows₂ highs₂ lengths₂ lows₃ highs₃ lengths₃ w i u
          off i u p q r h = R.kept i u p q r (inl h)

          -- who is in a descendant's subtree is not the node
          off-first : (u : ℕ) → 1 ≤ under tree a u → u ≢ node
          off-first u h e = omega (arith, subtrees.under-once T node a b lo hi D u, ap (same node) e, same_self node)

          off-second : (u : ℕ) → 1 ≤ under tree b u → u ≢ node
          off-second u h e = omega (arith, subtrees.under-once T node a b lo hi D u, ap (same node) e, same_self node)

          since_first : (i u : ℕ) → 1 ≤ i → i ≤ w → 1 ≤ u → u ≤ length tree → 1 ≤ under tree a u
              → Same lows₁ highs₁ lengths₁ lows₃ highs₃ lengths₃ w i u
          since_first i u p q r s h =
              same-on lows₁ highs₁ lengths₁ lows₂ highs₂ lengths₂ lows₃ highs₃ lengths₃ w i u (kept-first i u p q r s h)
              (off i u p q r (off-first u h))

          since_second : (i u : ℕ) → 1 ≤ i → i ≤ w → 1 ≤ u → 1 ≤ under tree b u → Same lows₂ highs₂ lengths₂ lows₃ highs₃ lengths₃ w i u
          since_second i u p q r h = off i u p q r (off-second u h)

          -- entries that are the same are alike
          alike : (x y z : List ℕ) (i u : ℕ) → Same x y z lows₃ highs₃ lengths₃ w i u
              → Alike ordered.ordered (range_at x y w i) (range_at lows₃ highs₃ w i) (state_of z w i) (state_of lengths₃ w i) u
          alike x y z i u (p, q, r) = (ap₂ span p q, r)

          -- a node v of the subtree is the node itself, or in one of the two subtrees
          abbrev Where : ℕ → Type 0
          Where v = (v ≡ node) ⊎ ((1 ≤ under tree a v) ⊎ (1 ≤ under tree b v))

          where_is : (v : ℕ) → 1 ≤ under tree node v → Where v
          where_is v h = go (ℕ_discrete v node) (dec_le 1 (under tree a v))
            where
              go : Dec (v ≡ node) → Dec (1 ≤ under tree a v) → Where v
              go (yes e) d = inl e
              go (no e) (yes s) = inr (inl s)
              go (no e) (no s) =
                  inr (inr (omega (arith, subtrees.under-fork T node a b lo hi D v, same-apart node v (λ q. e (sym q)))))

          own-settled : (i : ℕ) → 1 ≤ i → i ≤ w → Settled ordered.ordered tree (range_at lows₃ highs₃ w i) (state_of lengths₃ w i) node
          own-settled i p q =
              let (x, y, z) = off i a p q walks-first.some settleable.apart.0 in
              let (x', y', z') = off i b p q walks-second.some settleable.apart.1 in
              record {
                joined = R.joined i p q
                    ∙ ap₂ (λ r s. ordered.join (r ∷ s ∷ [])) (sym (ap₂ span x y)) (sym (ap₂ span x' y'))
                    ∙ ap (λ cs. ordered.join (map (range_at lows₃ highs₃ w i) cs)) (sym D);
                summed = R.summed i p q
                    ∙ ap₂ (λ l c. l + c) (sum-two i z z')
                    (ap₂ (λ r s. ordered.cost (r ∷ s ∷ [])) (sym (ap₂ span x y)) (sym (ap₂ span x' y')))
                    ∙ ap (λ cs. sum (state_of lengths₃ w i) cs + ordered.cost (map (range_at lows₃ highs₃ w i) cs)) (sym D);
              }
            where
              sum-two : (i : ℕ) → state_of lengths₃ w i a ≡ state_of lengths₂ w i a → state_of lengths₃ w i b ≡ state_of lengths₂ w i b
                  → state_of lengths₂ w i a + state_of lengths₂ w i b ≡ sum (state_of lengths₃ w i) (a ∷ b ∷ [])
              sum-two i z z' = omega arith

          pub finished : WalkedIn node n w tree lows highs lengths lows₃ highs₃ lengths₃
          finished =
              record {
                room = R.room;
                settled = λ i v p q lo' hi' h. settled i v p q lo' hi' (where_is v h);
                fits = λ i v p q lo' hi' h. fits i v p q lo' hi' (where_is v h);
                taxa = taxa;
                others = others;
              }
            where
              settled : (i v : ℕ) → 1 ≤ i → i ≤ w → n < v → v ≤ length tree → Where v
                  → Settled ordered.ordered tree (range_at lows₃ highs₃ w i) (state_of lengths₃ w i) v
              settled i v p q lo' hi' (inl e) =
                  subst (Settled ordered.ordered tree (range_at lows₃ highs₃ w i) (state_of lengths₃ w i)) (sym e) (own-settled i p q)
              settled i v p q lo' hi' (inr (inl h)) =
                  stays_settled ordered.ordered (range_at lows₁ highs₁ w i) (range_at lows₃ highs₃ w i) (state_of lengths₁ w i) (state_of lengths₃ w i)
                  tree v
                  (alike lows₁ highs₁ lengths₁ i v (since_first i v p q (omega arith) hi' h))
                  (all_map _ _ (λ c (r, s, t). alike lows₁ highs₁ lengths₁ i c (since_first i c p q r s t)) (descendants tree v)
                  (subtrees.under_closed T a v walks-first.some h))
                  (A.settled i v p q lo' hi' h)
              settled i v p q lo' hi' (inr (inr h)) =
                  stays_settled ordered.ordered (range_at lows₂ highs₂ w i) (range_at lows₃ highs₃ w i) (state_of lengths₂ w i) (state_of lengths₃ w i)
                  tree v
                  (alike lows₂ highs₂ lengths₂ i v (since_second i v p q (omega arith) h))
                  (all_map _ _ (λ c (r, s, t). alike lows₂ highs₂ lengths₂ i c (since_second i c p q r t)) (descendants tree v)
                  (subtrees.under_closed T b v walks-second.some h))
                  (B.settled i v p q lo' hi' h)

              own-fits : (i : ℕ) → 1 ≤ i → i ≤ w → Fits n tree lows₃ highs₃ lengths₃ w i node
              own-fits i p q =
                  let (f, g, s) = first_fits i p q in
                  let (f', g', s') = second_fits i p q in (
                    R.fits i p q,
                    join-high (range_at lows₂ highs₂ w i a) (range_at lows₂ highs₂ w i b) _ _ 9999 (omega arith) (omega arith) (R.joined i p q)
                        (R.fits i p q),
                    omega (
                      arith,
                      R.summed i p q,
                      cost-high (range_at lows₂ highs₂ w i a) (range_at lows₂ highs₂ w i b) 9999 (omega arith) (omega arith),
                      subtrees.inside-fork T node a b lo hi D,
                    ),
                  )

              fits : (i v : ℕ) → 1 ≤ i → i ≤ w → n < v → v ≤ length tree → Where v → Fits n tree lows₃ highs₃ lengths₃ w i v
              fits i v p q lo' hi' (inl e) = subst (Fits n tree lows₃ highs₃ lengths₃ w i) (sym e) (own-fits i p q)
              fits i v p q lo' hi' (inr (inl h)) =
                  let (x, y, z) = since_first i v p q (omega arith) hi' h in
                  let (f, g, s) = A.fits i v p q lo' hi' h in
                  (omega arith, omega arith, omega arith)
              fits i v p q lo' hi' (inr (inr h)) =
                  let (x, y, z) = since_second i v p q (omega arith) h in
                  let (f, g, s) = B.fits i v p q lo' hi' h in
                  (omega arith, omega arith, omega arith)

              taxa : (i k : ℕ) → 1 ≤ i → i ≤ w → 1 ≤ k → k ≤ n → Same lows highs lengths lows₃ highs₃ lengths₃ w i k
              taxa i k p q r s =
                  same-on lows highs lengths lows₂ highs₂ lengths₂ lows₃ highs₃ lengths₃ w i k
                  (same-on lows highs lengths lows₁ highs₁ lengths₁ lows₂ highs₂ lengths₂ w i k (A.taxa i k p q r s) (B.taxa i k p q r s))
                  (off i k p q r (λ (e : k ≡ node). omega arith))

              others : (i v : ℕ) → 1 ≤ i → i ≤ w → 1 ≤ v → v ≤ length tree → under tree node v ≡ 0
                  → Same lows highs lengths lows₃ highs₃ lengths₃ w i v
              others i v p q r s h =
                  let e = subtrees.under-fork T node a b lo hi D v in
                  same-on lows highs lengths lows₂ highs₂ lengths₂ lows₃ highs₃ lengths₃ w i v
                  (same-on lows highs lengths lows₁ highs₁ lengths₁ lows₂ highs₂ lengths₂ w i v (A.others i v p q r s (omega arith))
                  (B.others i v p q r s (omega arith)))
                  (off i v p q r (λ (d : v ≡ node). omega (arith, ap (same node) d, same_self node)))
