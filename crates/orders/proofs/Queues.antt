-- The order of the interior nodes, as a queue: the root's descendant, and then the interior descendants of each node in turn. `ks` is the queue, and
-- the first i of it have had their turn. Each interior node comes into it once, when its ancestor has its turn.
-- Assumes nothing.
use mathlib.Core.Path.{◌≡◌, refl, sym, ◌∙◌, ap, subst}
use mathlib.Core.Logic.{◌≢◌}
use mathlib.Core.List.{List, [], ◌∷◌, ◌++◌}
use Prim.Native.Nat.{ℕ, zero, suc, ◌+◌, ◌-◌, ◌*◌, ◌≤◌, ◌<◌}
use native.Mathlib.Decide.{ℕ_discrete, dec_le}
use native.Mathlib.Numerals.{add-one}
use native.Mathlib.Omega.{arith}
use lib.ListN.{length, get_or, take, length-append}
use lib.Seq.{take-suc, take-append-le, take-length, get_or-append_seam, get_or-take}
use Rattle.parsimony.specs.Lists.{choose, same}
use Rattle.parsimony.specs.Table.{ancestor, descendants, deep}
use Rattle.parsimony.proofs.Sums.{often, same_self, same-apart}
use Rattle.parsimony.proofs.Often.{
  often_snoc,
  often-take,
  often-before,
  often_absent,
  often-found,
  one_place_each,
  few_distinct,
  all_there,
}
use Rattle.parsimony.proofs.Tables.Descendants.{often-descendants}
use Rattle.parsimony.proofs.Tables.Trees.{Tree, δ-ancestor, δ-most}
use Rattle.parsimony.proofs.Tables.Whole.{δ-inner}
use Rattle.shapes.specs.Shape.{under}
use Rattle.orders.specs.Orders.{IsOrder}
use Rattle.shapes.proofs.Subtrees as subtrees

-- a queue with one more node, if it is interior
abbrev pub put_if : (n a : ℕ) → List ℕ → List ℕ
put_if n a ks = choose (dec_le a n) ks (ks ++ (a ∷ []))

often_put : (n a : ℕ) (ks : List ℕ) (u : ℕ) → n < u → often (put_if n a ks) u ≡ often ks u + same a u
often_put n a ks u h = go (dec_le a n)
  where
    go : (d : Dec (a ≤ n)) → often (choose d ks (ks ++ (a ∷ []))) u ≡ often ks u + same a u
    go (yes l) = omega (arith, same-apart a u (λ (e : a ≡ u). omega arith))
    go (no l) = often_snoc ks a u

-- the places that were there stay as they were
put_grows : (n a : ℕ) (ks : List ℕ) → length ks ≤ length (put_if n a ks)
put_grows n a ks = go (dec_le a n)
  where
    go : (d : Dec (a ≤ n)) → length ks ≤ length (choose d ks (ks ++ (a ∷ [])))
    go (yes l) = omega arith
    go (no l) = omega (arith, length-append ks (a ∷ []))

put_keeps : (n a : ℕ) (ks : List ℕ) (j : ℕ) → j < length ks → get_or (put_if n a ks) j 0 ≡ get_or ks j 0
put_keeps n a ks j h = go (dec_le a n)
  where
    go : (d : Dec (a ≤ n)) → get_or (choose d ks (ks ++ (a ∷ []))) j 0 ≡ get_or ks j 0
    go (yes l) = refl
    go (no l) =
        sym (get_or-take (length ks) (ks ++ (a ∷ [])) j 0 h)
        ∙ ap (λ l. get_or l j 0) (take-append-le (length ks) ks (a ∷ []) (omega arith) ∙ take-length ks)

put_takes : (n a : ℕ) (ks : List ℕ) (i : ℕ) → i ≤ length ks → take i (put_if n a ks) ≡ take i ks
put_takes n a ks i h = go (dec_le a n)
  where
    go : (d : Dec (a ≤ n)) → take i (choose d ks (ks ++ (a ∷ []))) ≡ take i ks
    go (yes l) = refl
    go (no l) = take-append-le i ks (a ∷ []) h

-- what holds of each node of the queue, and of the new one if it is interior, holds of each node of the longer queue
put_each : (n a : ℕ) (ks : List ℕ) (P : ℕ → ℕ → Type 0) → ((j : ℕ) → j < length ks → P j (get_or ks j 0)) → (n < a → P (length ks) a)
    → (j : ℕ) → j < length (put_if n a ks) → P j (get_or (put_if n a ks) j 0)
put_each n a ks P h p = go (dec_le a n)
  where
    go : (d : Dec (a ≤ n)) → (j : ℕ) → j < length (choose d ks (ks ++ (a ∷ []))) → P j (get_or (choose d ks (ks ++ (a ∷ []))) j 0)
    go (yes l) j q = h j q
    go (no l) j q = at (ℕ_discrete j (length ks))
      where
        at : Dec (j ≡ length ks) → P j (get_or (ks ++ (a ∷ [])) j 0)
        at (yes e) = rw e (subst (P (length ks)) (sym (get_or-append_seam ks a [] 0)) (p (omega arith)))
        at (no e) =
            let m : j < length ks = omega (arith, length-append ks (a ∷ [])) in
            subst (P j)
            (sym (sym (get_or-take (length ks) (ks ++ (a ∷ [])) j 0 m)
            ∙ ap (λ l. get_or l j 0) (take-append-le (length ks) ks (a ∷ []) (omega arith) ∙ take-length ks)))
            (h j m)

put_longer : (n a : ℕ) (ks : List ℕ) → n < a → length (put_if n a ks) ≡ length ks + 1
put_longer n a ks h = go (dec_le a n)
  where
    go : (d : Dec (a ≤ n)) → length (choose d ks (ks ++ (a ∷ []))) ≡ length ks + 1
    go (yes l) = absurd (omega arith)
    go (no l) = length-append ks (a ∷ [])

module _ (T : Tree) where
  open T use {n, tree, ρ, δ, is_tree}
  open is_tree use {taxon, more}

  -- interior nodes, none of them twice
  pub record Sound (ks : List ℕ) : Type 0 where
    pub inner : (j : ℕ) → j < length ks → (n < get_or ks j 0) × (get_or ks j 0 ≤ length tree)
    pub once : (v : ℕ) → often ks v ≤ 1

  sound-few : (ks : List ℕ) → Sound ks → length ks ≤ length tree - n
  sound-few ks S = few_distinct (suc n) (length tree - n) ks (λ j h. let (lo, hi) = S.inner j h in (omega arith, omega (arith, more))) S.once

  sound_put : (ks : List ℕ) → Sound ks → (d : ℕ) → d ≤ length tree → (n < d → often ks d ≡ 0) → Sound (put_if n d ks)
  sound_put ks S d q f =
      record {
        inner = put_each n d ks (λ j u. (n < u) × (u ≤ length tree)) S.inner (λ p. (p, q));
        once = λ u. go u (dec_le d n) (ℕ_discrete d u);
      }
    where
      go : (u : ℕ) → (e : Dec (d ≤ n)) → Dec (d ≡ u) → often (choose e ks (ks ++ (d ∷ []))) u ≤ 1
      go u (yes l) r = S.once u
      go u (no l) (yes r) = omega (arith, often_snoc ks d u, same_self d, ap (same d) r, f (omega arith), ap (often ks) r)
      go u (no l) (no r) = omega (arith, often_snoc ks d u, same-apart d u r, S.once u)

  pub record Queue (i : ℕ) (ks : List ℕ) : Type 0 where
    pub begun : 1 ≤ length ks
    pub turns : i ≤ length ks
    pub first : get_or ks 0 0 ≡ δ
    pub inner : (j : ℕ) → j < length ks → (n < get_or ks j 0) × (get_or ks j 0 ≤ length tree)
    pub counts : (v : ℕ) → n < v → v ≤ length tree → often ks v ≡ same δ v + often (take i ks) (ancestor tree v)
    pub after : (j : ℕ) → j < length ks → 1 ≤ j → (k : ℕ) × (k < j) × (get_or ks k 0 ≡ ancestor tree (get_or ks j 0))

  pub begins : Queue 0 (δ ∷ [])
  begins =
      record {
        begun = omega arith;
        turns = omega arith;
        first = refl;
        inner = λ j h. inner j h;
        counts = λ v lo hi. omega arith;
        after = λ j h p. absurd (omega arith);
      }
    where
      inner : (j : ℕ) → j < 1 → (n < get_or (δ ∷ []) j 0) × (get_or (δ ∷ []) j 0 ≤ length tree)
      inner zero h = (δ-inner T, δ-most T)
      inner (suc j) h = absurd (omega arith)

  -- a node whose ancestor is interior is not the root's descendant
  not_top : (a v : ℕ) → n < v → ancestor tree a ≡ v → same δ a ≡ 0
  not_top a v lo e = same-apart δ a (λ (d : δ ≡ a). omega (arith, ap (ancestor tree) d, δ-ancestor T, taxon))

  module _ (i : ℕ) (ks : List ℕ) (Q : Queue i ks) where
    outside : (v : ℕ) → v ≤ n → often ks v ≡ 0
    outside v h = often_absent ks v (λ j l (e : get_or ks j 0 ≡ v). omega (arith, (Q.inner j l).0))

    beyond : (v : ℕ) → length tree < v → often ks v ≡ 0
    beyond v h = often_absent ks v (λ j l (e : get_or ks j 0 ≡ v). omega (arith, (Q.inner j l).1))

    -- no node is there twice: it came when its ancestor had its turn, and its ancestor is there once
    once-deep : (s v : ℕ) → deep tree (length tree) v ≤ s → often ks v ≤ 1
    once-deep zero v h = go (dec_le 1 v)
      where
        go : Dec (1 ≤ v) → often ks v ≤ 1
        go (yes p) = absurd (omega (arith, subtrees.deep-below T v p))
        go (no p) = omega (arith, outside v (omega arith))
    once-deep (suc s) v h =
        go (dec_le v n) (dec_le v (length tree)) (ℕ_discrete δ v) (λ p. once-deep s (ancestor tree v) (omega (arith, subtrees.deep-below T v p)))
      where
        go : Dec (v ≤ n) → Dec (v ≤ length tree) → Dec (δ ≡ v) → (1 ≤ v → often ks (ancestor tree v) ≤ 1) → often ks v ≤ 1
        go (yes l) d e up = omega (arith, outside v l)
        go (no l) (no m) e up = omega (arith, beyond v (omega arith))
        go (no l) (yes m) (yes e) up =
            omega (
              arith,
              Q.counts v (omega arith) m,
              same_self δ,
              ap (same δ) e,
              often-take i ks (ancestor tree v),
              outside (ancestor tree v) (omega (arith, ap (ancestor tree) e, δ-ancestor T, taxon)),
            )
        go (no l) (yes m) (no e) up =
            omega (arith, Q.counts v (omega arith) m, same-apart δ v e, often-take i ks (ancestor tree v), up (omega arith))

    pub once : (v : ℕ) → often ks v ≤ 1
    once v = once-deep (deep tree (length tree) v) v (omega arith)

    pub few : length ks ≤ length tree - n
    few = few_distinct (suc n) (length tree - n) ks (λ j h. let (lo, hi) = Q.inner j h in (omega arith, omega (arith, more))) once

    -- the node whose turn it is has two descendants
    module _ (h : i < length ks) (a b : ℕ) (D : descendants tree (get_or ks i 0) ≡ a ∷ b ∷ []) where
      abbrev v : ℕ
      v = get_or ks i 0

      lo : n < v
      lo = (Q.inner i h).0

      hi : v ≤ length tree
      hi = (Q.inner i h).1

      -- it has had no turn yet
      unturned : often (take i ks) v ≡ 0
      unturned = omega (arith, often-before ks i h, once v)

      fresh : (d : ℕ) → n < d → d ≤ length tree → ancestor tree d ≡ v → often ks d ≡ 0
      fresh d p q e = omega (arith, Q.counts d p q, not_top d v lo e, ap (often (take i ks)) e, unturned)

      first_in : (1 ≤ a) × (a ≤ length tree) × (ancestor tree a ≡ v)
      first_in = subtrees.some_first T v a b lo hi D

      second_in : (1 ≤ b) × (b ≤ length tree) × (ancestor tree b ≡ v)
      second_in = subtrees.some-second T v a b lo hi D

      apart : a ≢ b
      apart e =
          omega (arith, subtrees.under-once T v a b lo hi D a, subtrees.under_self T a first_in.0, ap (λ c. under tree c a) e)

      sound-first : Sound (put_if n a ks)
      sound-first = sound_put ks (record { inner = Q.inner; once = once }) a first_in.1 (λ p. fresh a p first_in.1 first_in.2)

      second-fresh : n < b → often (put_if n a ks) b ≡ 0
      second-fresh p = omega (arith, often_put n a ks b p, fresh b p second_in.1 second_in.2, same-apart a b apart)

      sound-second : Sound (put_if n b (put_if n a ks))
      sound-second = sound_put (put_if n a ks) sound-first b second_in.1 second-fresh

      -- there is room for each that is interior
      pub room-first : n < a → length ks < length tree - n
      room-first p = omega (arith, sound-few (put_if n a ks) sound-first, put_longer n a ks p)

      pub room-second : n < b → length (put_if n a ks) < length tree - n
      room-second p = omega (arith, sound-few (put_if n b (put_if n a ks)) sound-second, put_longer n b (put_if n a ks) p)

      abbrev ks₂ : List ℕ
      ks₂ = put_if n b (put_if n a ks)

      longer : length ks ≤ length ks₂
      longer = omega (arith, put_grows n a ks, put_grows n b (put_if n a ks))

      kept : (j : ℕ) → j < length ks → get_or ks₂ j 0 ≡ get_or ks j 0
      kept j l = put_keeps n b (put_if n a ks) j (omega (arith, put_grows n a ks)) ∙ put_keeps n a ks j l

      -- the node u at the place j is behind its ancestor
      abbrev Behind : ℕ → ℕ → Type 0
      Behind j u = 1 ≤ j → (k : ℕ) × (k < j) × (get_or ks₂ k 0 ≡ ancestor tree u)

      taken : take (i + 1) ks₂ ≡ take i ks ++ (v ∷ [])
      taken =
          put_takes n b (put_if n a ks) (i + 1) (omega (arith, put_grows n a ks)) ∙ put_takes n a ks (i + 1) (omega arith)
          ∙ ap (λ j. take j ks) (add-one i) ∙ take-suc ks i 0 h

      -- and the queue is a queue again
      pub next_turn : Queue (i + 1) ks₂
      next_turn =
          record {
            begun = omega (arith, Q.begun, longer);
            turns = omega (arith, longer);
            first = kept 0 Q.begun ∙ Q.first;
            inner = sound-second.inner;
            counts = counts;
            after =
                put_each n b (put_if n a ks) Behind
                (put_each n a ks Behind (λ j l p. let (k, m, e) = Q.after j l p in (k, m, kept k (omega arith) ∙ e))
                (λ p q. (i, h, kept i h ∙ sym first_in.2)))
                (λ p q. (i, omega (arith, put_grows n a ks), kept i h ∙ sym second_in.2));
          }
        where
          counts : (u : ℕ) → n < u → u ≤ length tree → often ks₂ u ≡ same δ u + often (take (i + 1) ks₂) (ancestor tree u)
          counts u p q =
              omega (
                arith,
                often_put n b (put_if n a ks) u p,
                often_put n a ks u p,
                Q.counts u p q,
                ap (λ l. often l (ancestor tree u)) taken,
                often_snoc (take i ks) v (ancestor tree u),
                often-descendants tree v u (omega (arith, lo)),
                ap (λ l. often l u) D,
              )

    -- ---- the end: every interior node has come

    module _ (e : i ≡ length ks) where
      all-taken : take i ks ≡ ks
      all-taken = ap (λ j. take j ks) e ∙ take-length ks

      each-deep : (s v : ℕ) → deep tree (length tree) v ≤ s → n < v → v ≤ length tree → often ks v ≡ 1
      each-deep zero v h lo hi = absurd (omega (arith, subtrees.deep-below T v (omega arith)))
      each-deep (suc s) v h lo hi =
          go (ℕ_discrete δ v) (λ p q. each-deep s (ancestor tree v) (omega (arith, subtrees.deep-below T v (omega arith))) p q)
        where
          turned : often ks v ≡ same δ v + often ks (ancestor tree v)
          turned = Q.counts v lo hi ∙ ap (λ l. same δ v + often l (ancestor tree v)) all-taken

          go : Dec (δ ≡ v) → (n < ancestor tree v → ancestor tree v ≤ length tree → often ks (ancestor tree v) ≡ 1) → often ks v ≡ 1
          go (yes d) up =
              omega (
                arith,
                turned,
                same_self δ,
                ap (same δ) d,
                outside (ancestor tree v) (omega (arith, ap (ancestor tree) d, δ-ancestor T, taxon)),
              )
          go (no d) up = omega (arith, turned, same-apart δ v d, up (subtrees.inner-ancestor T v lo hi (λ q. d (sym q))) (subtrees.ancestor_in T v))

      each : (v : ℕ) → n < v → v ≤ length tree → often ks v ≡ 1
      each v = each-deep (deep tree (length tree) v) v (omega arith)

      complete : length ks ≡ length tree - n
      complete = omega (arith, few, few_missing)
        where
          few_missing : length tree - n ≤ length ks
          few_missing = all_there (suc n) (length tree - n) ks (λ v p q. omega (arith, each v (omega arith) (omega (arith, more))))

      -- a list that begins with the queue is the order
      pub is_order : (order : List ℕ) → length tree ≡ 2 * n - 2 → 3 ≤ n → ((j : ℕ) → j < length ks → get_or order j 0 ≡ get_or ks j 0)
          → IsOrder n tree δ order
      is_order order nodes least at =
          let m : length ks ≡ n - 2 = omega (arith, complete) in
          record {
            inner = λ j l. let (p, q) = Q.inner j (omega arith) in rw (at j (omega arith)) (p, q);
            first = at 0 Q.begun ∙ Q.first;
            after = λ j p l. behind j (omega arith) (Q.after j (omega arith) p);
            once = λ j k p l f. one_place_each ks once j k p (omega arith) (sym (at j (omega arith)) ∙ f ∙ at k (omega arith));
            all = λ v lo hi.
                let (j, l, f) = often-found ks v (omega (arith, each v lo hi)) in
                (j, omega arith, at j l ∙ f);
          }
        where
          behind : (j : ℕ) → j < length ks → (k : ℕ) × (k < j) × (get_or ks k 0 ≡ ancestor tree (get_or ks j 0))
              → (k : ℕ) × (k < j) × (get_or order k 0 ≡ ancestor tree (get_or order j 0))
          behind j l (k, d, f) = (k, d, at k (omega arith) ∙ f ∙ ap (ancestor tree) (sym (at j l)))
