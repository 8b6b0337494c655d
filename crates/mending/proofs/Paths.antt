-- A path, settled from the taxon up. No node of it is written twice (Climbs.antt), so what was settled before stays settled.
-- Assumes nothing.
use mathlib.Core.Path.{◌≡◌, refl, sym, ◌∙◌, ap, ap₂, subst}
use mathlib.Core.Logic.{◌≢◌, ◌⊎◌, inl, inr}
use mathlib.Core.List.{List, [], ◌∷◌, map}
use Prim.Native.Nat.{ℕ, zero, suc, ◌+◌, ◌-◌, ◌*◌, ◌≤◌, ◌<◌}
use native.Mathlib.Decide.{ℕ_discrete, dec_le}
use native.Mathlib.Omega.{arith}
use lib.ListN.{length, get_or, length-set}
use Rattle.parsimony.specs.Lists.{sum, same}
use Rattle.parsimony.specs.Table.{ancestor, descendants, climb, deep, below}
use Rattle.parsimony.specs.Ordered as ordered
use Rattle.parsimony.specs.Ordered.{span, ordered}
use Rattle.parsimony.specs.Steps.{Settled}
use Rattle.parsimony.specs.Matrix.{state_of}
use Rattle.parsimony.specs.Character.{at_node, ranges, sizes}
use Rattle.parsimony.proofs.Sums.{often, all_map, same_self, same-apart, same_equal}
use Rattle.parsimony.proofs.Characters.{entry-written, entry_other, range-taxon, range-inner, size-taxon, size-inner}
use Rattle.parsimony.proofs.Tables.Descendants.{each_descends, often-descendants}
use Rattle.parsimony.proofs.Tables.Climbing.{climb-more}
use Rattle.parsimony.proofs.Tables.Mending.{Alike, stays_settled}
use Rattle.parsimony.proofs.Tables.Trees.{Tree, steps_below}
use Rattle.parsimony.proofs.Ranges.Joins.{join-high, cost-high}
use Rattle.paths.proofs.Paths.{path-short, path-at}
use Rattle.shapes.proofs.Subtrees as subtrees
use Rattle.nodes.specs.Nodes.{Readable}
use Rattle.mending.proofs.Climbs as climbs
use Rattle.mending.proofs.Turns.{MendedTo}
use Rattle.mending.specs.Mending.{SameAt, MendsNode, MendedNode, MendsPath}

module _ {n c j t count : ℕ} {tree matrix left right path lows₀ highs₀ lengths₀ : List ℕ}
    (M : MendsPath n c j t count tree matrix left right path lows₀ highs₀ lengths₀) where
  abbrev T : Tree
  T = record { n = n; tree = tree; ρ = M.ρ; δ = M.δ; is_tree = M.accepted.is_tree }

  abbrev state : ℕ → ℕ
  state = state_of matrix c j

  -- the node that is i-th on the path
  abbrev step : ℕ → ℕ
  step i = climb tree (suc i) t

  step-inner : (i : ℕ) → i < count → n < step i
  step-inner = climbs.step-inner T t count M.counts

  step-last : (i : ℕ) → step i ≤ length tree
  step-last = climbs.step-last T t count M.counts

  deep_step : (i : ℕ) → i < count → deep tree (length tree) (step i) + suc i ≡ deep tree (length tree) t
  deep_step = climbs.deep_step T t count M.counts M.taxon.0

  steps_apart : (h i : ℕ) → h < i → i < count → step h ≢ step i
  steps_apart = climbs.steps_apart T t count M.counts M.taxon.0

  off-path : (i d : ℕ) → i < count → ancestor tree d ≡ step i → n < d → d ≢ climb tree i t → below tree d t ≡ 0
  off-path = climbs.off-path T t count M.counts M.taxon.0

  step_is : (i : ℕ) → i < count → get_or path i 0 ≡ step i
  step_is i l = M.lists i l ∙ (path-at T t i (omega (arith, M.counts))).0

  abbrev MendedBy : (i : ℕ) (lows highs lengths : List ℕ) → Type 0
  MendedBy = MendedTo n c j t count tree matrix lows₀ highs₀ lengths₀

  -- the list has room for the path
  pub room : count ≤ 254
  room = omega (arith, M.counts, path-short T t, M.sized.nodes, M.sized.most)

  -- ---- one node more

  module _ {i : ℕ} (l : i < count) {lows highs lengths : List ℕ} (D : MendedBy i lows highs lengths) where
    abbrev v : ℕ
    v = step i

    abbrev a : ℕ
    a = at_node n left v

    abbrev b : ℕ
    b = at_node n right v

    lo : n < v
    lo = step-inner i l

    hi : v ≤ length tree
    hi = step-last i

    fork : descendants tree v ≡ a ∷ b ∷ []
    fork = M.shape v lo hi

    first_in : (1 ≤ a) × (a ≤ length tree) × (ancestor tree a ≡ v)
    first_in = subtrees.some_first T v a b lo hi fork

    second_in : (1 ≤ b) × (b ≤ length tree) × (ancestor tree b ≡ v)
    second_in = subtrees.some-second T v a b lo hi fork

    -- one of the two is where the climb was before
    one_child : same a (climb tree i t) + (same b (climb tree i t) + 0) ≡ 1
    one_child =
        ap (λ ks. often ks (climb tree i t)) (sym fork) ∙ often-descendants tree v (climb tree i t) (omega (arith, lo))
        ∙ ap (same v) (sym (climb-more tree i t)) ∙ same_self v

    -- what a descendant's entries are: sound, but for the length of the one before
    record Known (d bound : ℕ) : Type 0 where
      pub fits : n < d → at_node n lows d ≤ at_node n highs d
      pub low_small : (ranges n state lows highs d).low ≤ (ranges n state lows highs d).high
      pub small : (ranges n state lows highs d).high ≤ 9999
      pub short : sizes n (λ k. 0) lengths d ≤ bound

    known-off : (d : ℕ) → 1 ≤ d → d ≤ length tree → ancestor tree d ≡ v → d ≢ climb tree i t → Known d 5089491
    known-off d p q e ne = go (dec_le d n)
      where
        go : Dec (d ≤ n) → Known d 5089491
        go (yes m) =
            record {
              fits = λ x. absurd (omega arith);
              low_small = (ranges n state lows highs d).fits;
              small = rw (range-taxon n state lows highs d m) (M.states d p m);
              short = omega (arith, size-taxon n (λ k. 0) lengths d m);
            }
        go (no m) =
            let x : n < d = omega arith in
            let z = off-path i d l e x ne in
            let (fl, fh, fs) = D.others d x q (λ h y r. apart h y r z x) in
            let S = M.beside d x q (omega (arith, lo)) (on_the_path d e) z in
            record {
              fits = λ y. omega (arith, S.fits, fl, fh);
              low_small = (ranges n state lows highs d).fits;
              small = rw (range-inner n state lows highs d x) (omega (arith, S.fits, S.small, fl, fh));
              short = omega (arith, size-inner n (λ k. 0) lengths d x, fs, S.short);
            }
          where
            apart : (h : ℕ) → h < i → step h ≡ d → below tree d t ≡ 0 → n < d → ⊥
            apart h y r z x = omega (arith, steps_below T d t h (omega arith) r)

            on_the_path : (d : ℕ) → ancestor tree d ≡ v → 1 ≤ below tree (ancestor tree d) t
            on_the_path d e = subst (λ u. 1 ≤ below tree u t) (sym e) (steps_below T v t i (omega (arith, lo)) refl)

    known_on : (d : ℕ) → d ≡ climb tree i t → Known d (i * 5099490)
    known_on d e = go i l D e (λ k. k)
      where
        go : (k : ℕ) → k < count → MendedBy k lows highs lengths → d ≡ climb tree k t → (k ≡ i → k ≡ i) → Known d (k * 5099490)
        go zero m B q z =
            let w : d ≤ n = omega (arith, M.taxon.1) in
            record {
              fits = λ x. absurd (omega arith);
              low_small = (ranges n state lows highs d).fits;
              small = rw (range-taxon n state lows highs d w) (M.states d (omega (arith, M.taxon.0)) w);
              short = omega (arith, size-taxon n (λ k. 0) lengths d w);
            }
        go (suc k) m B q z =
            let x : n < d = rw q (step-inner k (omega arith)) in
            record {
              fits = λ y. rw q (B.fits k (omega arith));
              low_small = (ranges n state lows highs d).fits;
              small = rw (range-inner n state lows highs d x) (rw q (omega (arith, B.fits k (omega arith), B.small k (omega arith))));
              short = omega (arith, size-inner n (λ k. 0) lengths d x, ap (at_node n lengths) q, B.short k (omega arith));
            }

    -- the bounds of the two together
    both : (Known a (i * 5099490) × Known b 5089491) ⊎ (Known a 5089491 × Known b (i * 5099490))
    both = go (ℕ_discrete a (climb tree i t))
      where
        other : (x y : ℕ) → same x (climb tree i t) + (same y (climb tree i t) + 0) ≡ 1 → x ≡ climb tree i t → y ≢ climb tree i t
        other x y e p q = omega (arith, same_self (climb tree i t), ap (λ u. same u (climb tree i t)) p, ap (λ u. same u (climb tree i t)) q)

        go : Dec (a ≡ climb tree i t) → (Known a (i * 5099490) × Known b 5089491) ⊎ (Known a 5089491 × Known b (i * 5099490))
        go (yes e) = inl (known_on a e, known-off b second_in.0 second_in.1 second_in.2 (other a b one_child e))
        go (no e) =
            inr (
              known-off a first_in.0 first_in.1 first_in.2 e,
              known_on b (same_equal b (climb tree i t) (omega (arith, one_child, same-apart a (climb tree i t) e))),
            )

    -- filled field by field from what the path asks, as `descents` does from what a descent asks: the two ask different things
    readable : (d bound : ℕ) → 1 ≤ d → d ≤ length tree → Known d bound → Readable n c j d matrix lows highs
    readable d bound p q K =
        record {
          some = M.some;
          most = M.most;
          rows = M.rows;
          low_long = D.low_long;
          high_long = D.high_long;
          node = p;
          last = omega (arith, M.sized.nodes);
          fits = K.fits;
        }

    -- what is known of both, whichever of them is where the climb was
    record Both : Type 0 where
      pub first : Readable n c j a matrix lows highs
      pub second : Readable n c j b matrix lows highs
      pub first_small : (ranges n state lows highs a).high ≤ 9999
      pub second-small : (ranges n state lows highs b).high ≤ 9999
      pub sum-short : sizes n (λ k. 0) lengths a + sizes n (λ k. 0) lengths b ≤ i * 5099490 + 5089491

    known : Both
    known = go both
      where
        made : (p q : ℕ) → Known a p → Known b q → p + q ≡ i * 5099490 + 5089491 → Both
        made p q A B e =
            record {
              first = readable a p first_in.0 first_in.1 A;
              second = readable b q second_in.0 second_in.1 B;
              first_small = A.small;
              second-small = B.small;
              sum-short = omega (arith, A.short, B.short);
            }

        go : (Known a (i * 5099490) × Known b 5089491) ⊎ (Known a 5089491 × Known b (i * 5099490)) → Both
        go (inl (A, B)) = made (i * 5099490) 5089491 A B refl
        go (inr (A, B)) = made 5089491 (i * 5099490) A B (omega arith)

    mends_node : MendsNode n c j v matrix left right lows highs lengths
    mends_node =
        record {
          taxa = (M.sized.least, M.sized.most);
          inner = lo;
          last = omega (arith, hi, M.sized.nodes);
          first = known.first;
          second = known.second;
          long = D.length_long;
          small = omega (arith, known.sum-short, room);
        }

    -- the node is settled, and all before it stay so
    module _ (lows' highs' lengths' : List ℕ) (W : MendedNode n c j v matrix left right lows highs lengths lows' highs' lengths') where
      abbrev new : ℕ
      new =
          sizes n (λ k. 0) lengths a + sizes n (λ k. 0) lengths b
          + ordered.cost (ranges n state lows highs a ∷ ranges n state lows highs b ∷ [])

      place : v - n - 1 < n - 2
      place = omega (arith, lo, hi, M.sized.nodes)

      low-here : at_node n lows' v ≡ W.range.low
      low-here = ap (λ l. at_node n l v) W.low_written ∙ entry-written n lows v W.range.low lo (omega (arith, place, D.low_long))

      high-here : at_node n highs' v ≡ W.range.high
      high-here = ap (λ l. at_node n l v) W.high_written ∙ entry-written n highs v W.range.high lo (omega (arith, place, D.high_long))

      length-here : at_node n lengths' v ≡ new
      length-here = ap (λ l. at_node n l v) W.length_written ∙ entry-written n lengths v new lo (omega (arith, place, D.length_long))

      other : (u : ℕ) → n < u → u ≢ v → SameAt n lows highs lengths lows' highs' lengths' u
      other u x d = (
        ap (λ l. at_node n l u) W.low_written ∙ entry_other n lows v W.range.low lo u x d,
        ap (λ l. at_node n l u) W.high_written ∙ entry_other n highs v W.range.high lo u x d,
        ap (λ l. at_node n l u) W.length_written ∙ entry_other n lengths v new lo u x d,
      )

      -- a node other than v is as before, a taxon too
      alike : (u : ℕ) → u ≢ v → Alike ordered (ranges n state lows highs) (ranges n state lows' highs') (sizes n state lengths)
          (sizes n state lengths') u
      alike u d = go (dec_le u n)
        where
          go : Dec (u ≤ n) → Alike ordered (ranges n state lows highs) (ranges n state lows' highs') (sizes n state lengths) (sizes n state lengths')
              u
          go (yes m) = (
            range-taxon n state lows' highs' u m ∙ sym (range-taxon n state lows highs u m),
            size-taxon n state lengths' u m ∙ sym (size-taxon n state lengths u m),
          )
          go (no m) =
              let x : n < u = omega arith in
              let (p, q, r) = other u x d in (
                range-inner n state lows' highs' u x ∙ ap₂ span p q ∙ sym (range-inner n state lows highs u x),
                size-inner n state lengths' u x ∙ r ∙ sym (size-inner n state lengths u x),
              )

      stays : (h : ℕ) → h < i → Settled ordered tree (ranges n state lows' highs') (sizes n state lengths') (step h)
      stays h m =
          stays_settled ordered (ranges n state lows highs) (ranges n state lows' highs') (sizes n state lengths) (sizes n state lengths') tree
          (step h)
          (alike (step h) (steps_apart h i m l))
          (all_map _ (Alike ordered (ranges n state lows highs) (ranges n state lows' highs') (sizes n state lengths) (sizes n state lengths'))
          (λ d x. alike d (not_v d x.of x.some)) (descendants tree (step h)) (each_descends tree (step h)))
          (D.settled h m)
        where
          not_v : (d : ℕ) → step h ≡ ancestor tree d → 1 ≤ d → d ≢ v
          not_v d e p q =
              omega (
                arith,
                deep_step h (omega arith),
                deep_step i l,
                subtrees.deep-below T d p,
                ap (deep tree (length tree)) e,
                ap (deep tree (length tree)) q,
              )

      settled_here : Settled ordered tree (ranges n state lows' highs') (sizes n state lengths') v
      settled_here =
          record {
            joined = range-inner n state lows' highs' v lo ∙ ap₂ span low-here high-here ∙ W.joined.joins
                ∙ ap₂ (λ x y. ordered.join (x ∷ y ∷ [])) (sym (alike a (subtrees.not_first T v a b lo hi fork)).0)
                (sym (alike b (subtrees.not_second T v a b lo hi fork)).0)
                ∙ ap (λ ks. ordered.join (map (ranges n state lows' highs') ks)) (sym fork);
            summed = size-inner n state lengths' v lo ∙ length-here
                ∙ ap₂ (λ x y. x + y) sum_same
                (ap₂ (λ x y. ordered.cost (x ∷ y ∷ [])) (sym (alike a (subtrees.not_first T v a b lo hi fork)).0)
                (sym (alike b (subtrees.not_second T v a b lo hi fork)).0))
                ∙ ap (λ ks. sum (sizes n state lengths') ks + ordered.cost (map (ranges n state lows' highs') ks)) (sym fork);
          }
        where
          sum_same : sizes n (λ k. 0) lengths a + sizes n (λ k. 0) lengths b ≡ sum (sizes n state lengths') (a ∷ b ∷ [])
          sum_same =
              omega (
                arith,
                (alike a (subtrees.not_first T v a b lo hi fork)).1,
                (alike b (subtrees.not_second T v a b lo hi fork)).1,
              )

      range-high : W.range.high ≤ 9999
      range-high =
          join-high (ranges n state lows highs a) (ranges n state lows highs b) W.range.low W.range.high 9999 known.first_small
          known.second-small W.joined.joins W.joined.fits

      new-short : new ≤ suc i * 5099490
      new-short =
          omega (
            arith,
            known.sum-short,
            cost-high (ranges n state lows highs a) (ranges n state lows highs b) 9999 known.first_small known.second-small,
          )

      mended-more : MendedBy (i + 1) lows' highs' lengths'
      mended-more =
          record {
            low_long = ap length W.low_written ∙ length-set lows (v - n - 1) W.range.low ∙ D.low_long;
            high_long = ap length W.high_written ∙ length-set highs (v - n - 1) W.range.high ∙ D.high_long;
            length_long = ap length W.length_written ∙ length-set lengths (v - n - 1) new ∙ D.length_long;
            others = λ u x y h.
                let (p, q, r) = other u x (λ e. h i (omega arith) (sym e)) in
                let (p', q', r') = D.others u x y (λ k m. h k (omega arith)) in
                (p ∙ p', q ∙ q', r ∙ r');
            settled = λ h m. settled h m (ℕ_discrete h i);
            fits = λ h m. fits h m (ℕ_discrete h i);
            small = λ h m. small h m (ℕ_discrete h i);
            short = λ h m. short h m (ℕ_discrete h i);
          }
        where
          before : (h : ℕ) → h < i → SameAt n lows highs lengths lows' highs' lengths' (step h)
          before h m = other (step h) (step-inner h (omega arith)) (steps_apart h i m l)

          settled : (h : ℕ) → h < i + 1 → Dec (h ≡ i) → Settled ordered tree (ranges n state lows' highs') (sizes n state lengths') (step h)
          settled h m (yes e) = rw e settled_here
          settled h m (no e) = stays h (omega arith)

          fits : (h : ℕ) → h < i + 1 → Dec (h ≡ i) → at_node n lows' (step h) ≤ at_node n highs' (step h)
          fits h m (yes e) = rw e (omega (arith, low-here, high-here, W.joined.fits))
          fits h m (no e) = let (p, q, r) = before h (omega arith) in omega (arith, D.fits h (omega arith))

          small : (h : ℕ) → h < i + 1 → Dec (h ≡ i) → at_node n highs' (step h) ≤ 9999
          small h m (yes e) = rw e (omega (arith, high-here, range-high))
          small h m (no e) = let (p, q, r) = before h (omega arith) in omega (arith, D.small h (omega arith))

          short : (h : ℕ) → h < i + 1 → Dec (h ≡ i) → at_node n lengths' (step h) ≤ suc h * 5099490
          short h m (yes e) = rw e (omega (arith, length-here, new-short))
          short h m (no e) = let (p, q, r) = before h (omega arith) in omega (arith, D.short h (omega arith))

    -- the same of a node that is known to be the one whose turn it is
    module _ {u : ℕ} (e : u ≡ get_or path i 0) where
      here : u ≡ v
      here = e ∙ step_is i l

      pub mends_at : MendsNode n c j u matrix left right lows highs lengths
      mends_at = subst (λ x. MendsNode n c j x matrix left right lows highs lengths) (sym here) mends_node

      pub mended-at : (lows' highs' lengths' : List ℕ) → MendedNode n c j u matrix left right lows highs lengths lows' highs' lengths'
          → MendedBy (i + 1) lows' highs' lengths'
      mended-at =
          subst
          (λ x. (lows' highs' lengths' : List ℕ) → MendedNode n c j x matrix left right lows highs lengths lows' highs' lengths'
          → MendedBy (i + 1) lows' highs' lengths')
          (sym here) mended-more
