-- The searches for a bad entry, one entry after the other, and the marks of a path.
-- Assumes nothing.
use mathlib.Core.Path.{◌≡◌, sym, ◌∙◌, ap, subst}
use mathlib.Core.Logic.{◌≢◌, inl, inr, ⊎_elim}
use mathlib.Core.Bool.{Bool, true, false}
use mathlib.Core.List.{List}
use Prim.Native.Nat.{ℕ, suc, ◌+◌, ◌-◌, ◌*◌, ◌≤◌, ◌<◌}
use native.Mathlib.Nat.{mul-le-mul_right}
use native.Mathlib.Decide.{ℕ_discrete}
use native.Mathlib.Omega.{arith, by_contra}
use lib.ListN.{length, get_or, set, take, drop, replicate, length-set, length-replicate}
use Rattle.parsimony.specs.Table.{ancestor}
use Rattle.parsimony.specs.Character.{at_node}
use Rattle.parsimony.proofs.Sums.{zeros}
use Rattle.parsimony.proofs.Characters.{entry-written, entry_other}
use Rattle.refusals.specs.Search.{Lowest, Never, Finds, Tells}
use Rattle.std.specs.Prelude.{Option, Some, None}
use Rattle.tables.specs.Tables.{stretch}
use Rattle.tables.proofs.Stretches.{stretch_in, stretch-long}
use Rattle.entries.specs.Entries.{Bad, BadAt, BadIn, OneCharacter, AllCharacters, FindsEntry, Marks, Marked, Beside, BadMarked, Besides}

-- ---- one entry

pub not_bad : (low high l : ℕ) → low ≤ high → high ≤ 9999 → l ≤ 5089491 → Bad low high l → ⊥
not_bad low high l p q r h =
    ⊎_elim (λ (x : high < low). omega arith) (λ h₁. ⊎_elim (λ (x : 9999 < high). omega arith) (λ (x : 5089491 < l). omega arith) h₁) h

-- an entry that is not bad is a range up to 9999, and a length up to the limit
pub clean : (low high l : ℕ) → (Bad low high l → ⊥) → (low ≤ high) × (high ≤ 9999) × (l ≤ 5089491)
clean low high l h = (by_contra low high (λ b. h (inl b)), by_contra high 9999 (λ b. h (inr (inl b))), by_contra l 5089491 (λ b. h (inr (inr b))))

-- ---- one character

module _ (n : ℕ) (lows highs lengths : List ℕ) (S : OneCharacter n lows highs lengths) where
  abbrev entry_bad : ℕ → Type 0
  entry_bad k = Bad (get_or lows k 0) (get_or highs k 0) (get_or lengths k 0)

  at_place : (k : ℕ) → entry_bad k → BadAt n lows highs lengths (n + k + 1)
  at_place k h =
      let place : k ≡ n + k + 1 - suc n = omega arith in
      (omega arith, subst (λ x. Bad (get_or lows x 0) (get_or highs x 0) (get_or lengths x 0)) place h)

  -- no node up to the k-th interior one is bad
  pub never_none : Never (BadAt n lows highs lengths) (n + 0)
  never_none v p q h = omega (arith, h.0)

  pub never_more : (k : ℕ) → Never (BadAt n lows highs lengths) (n + k) → (entry_bad k → ⊥) → Never (BadAt n lows highs lengths) (n + (k + 1))
  never_more k N b v p q h = go (ℕ_discrete v (n + k + 1))
    where
      go : Dec (v ≡ n + k + 1) → ⊥
      go (yes e) =
          let place : v - suc n ≡ k = omega arith in
          b (subst (λ x. Bad (get_or lows x 0) (get_or highs x 0) (get_or lengths x 0)) place h.1)
      go (no e) = N v p (omega arith) h

  pub found_here : (k : ℕ) → k < n - 2 → Never (BadAt n lows highs lengths) (n + k) → entry_bad k
      → Lowest (BadAt n lows highs lengths) (2 * n - 2) (n + k + 1)
  found_here k l N h =
      record { some = omega arith; most = omega (arith, S.least); holds = at_place k h; first = λ v p q. N v p (omega arith) }

  pub found_nowhere : (k : ℕ) → n - 2 ≤ k → Never (BadAt n lows highs lengths) (n + k) → Never (BadAt n lows highs lengths) (2 * n - 2)
  found_nowhere k l N v p q = N v p (omega (arith, S.least))

-- ---- all characters

module _ (n c : ℕ) (lows highs lengths : List ℕ) (S : AllCharacters n c lows highs lengths) where
  -- the first k characters have no bad entry
  abbrev pub CleanTo : ℕ → Type 0
  CleanTo k = (j : ℕ) → 1 ≤ j → j ≤ k → Never (BadIn n lows highs lengths j) (2 * n - 2)

  pub clean_none : CleanTo 0
  clean_none j p q = absurd (omega arith)

  module _ (k : ℕ) (l : k < c) where
    ends : (entries : List ℕ) → length entries ≡ (n - 2) * c → k * (n - 2) + (n - 2) ≤ length entries
    ends entries e =
        subst (λ x. x * (n - 2) + (n - 2) ≤ length entries) this (omega (arith, stretch_in (n - 2) c (k + 1) (omega arith) (omega arith)))
      where
        this : k + 1 - 1 ≡ k
        this = omega arith

    pub ends_in : (k * (n - 2) + (n - 2) ≤ length lows) × (k * (n - 2) + (n - 2) ≤ length highs) × (k * (n - 2) + (n - 2) ≤ length lengths)
    ends_in = (ends lows S.long.low_long, ends highs S.long.high_long, ends lengths S.long.length_long)

    pub places_small : k * (n - 2) + (n - 2) ≤ 131072
    places_small = omega (arith, ends lows S.long.low_long, S.long.low_long, rows, S.few)
      where
        rows : (n - 2) * c ≤ 254 * c
        rows = mul-le-mul_right c (omega (arith, S.most))

    -- the stretch, by its two ends; q is how far they are apart
    module _ (q : ℕ) (e : q ≡ n - 2) where
      abbrev pub part : List ℕ → List ℕ
      part entries = take q (drop (k * (n - 2)) entries)

      pub part_is : (entries : List ℕ) → part entries ≡ stretch (n - 2) entries (k + 1)
      part_is entries = ap (λ x. take x (drop (k * (n - 2)) entries)) e ∙ ap (λ x. take (n - 2) (drop (x * (n - 2)) entries)) this
        where
          this : k ≡ k + 1 - 1
          this = omega arith

      part-long : (entries : List ℕ) → length entries ≡ (n - 2) * c → length (part entries) ≡ n - 2
      part-long entries d =
          ap length (part_is entries)
          ∙ stretch-long (n - 2) entries (k + 1) (omega (arith, d, stretch_in (n - 2) c (k + 1) (omega arith) (omega arith)))

      pub one-character : OneCharacter n (part lows) (part highs) (part lengths)
      one-character =
          record {
            least = S.least;
            most = S.most;
            low_long = part-long lows S.long.low_long;
            high_long = part-long highs S.long.high_long;
            length_long = part-long lengths S.long.length_long;
          }

      found_in : (r : Option ℕ) → Finds (BadAt n (part lows) (part highs) (part lengths)) (2 * n - 2) r
          → Finds (BadIn n lows highs lengths (k + 1)) (2 * n - 2) r
      found_in r h =
          subst (λ x. Finds (BadAt n x (stretch (n - 2) highs (k + 1)) (stretch (n - 2) lengths (k + 1))) (2 * n - 2) r) (part_is lows)
          (subst (λ x. Finds (BadAt n (part lows) x (stretch (n - 2) lengths (k + 1))) (2 * n - 2) r) (part_is highs)
          (subst (λ x. Finds (BadAt n (part lows) (part highs) x) (2 * n - 2) r) (part_is lengths) h))

      module _ (C : CleanTo k) (r : Option ℕ) (F : Finds (BadAt n (part lows) (part highs) (part lengths)) (2 * n - 2) r) where
        pub entry_found : (v : ℕ) → r ≡ Some v → FindsEntry n c lows highs lengths (Some v)
        entry_found v d =
            (k + 1, (omega arith, omega arith), subst (Finds (BadIn n lows highs lengths (k + 1)) (2 * n - 2)) d (found_in r F), λ i p m. C i p (omega arith))

        pub clean_more : r ≡ None → CleanTo (k + 1)
        clean_more d j p m = go (ℕ_discrete j (k + 1))
          where
            go : Dec (j ≡ k + 1) → Never (BadIn n lows highs lengths j) (2 * n - 2)
            go (yes x) = rw x (subst (Finds (BadIn n lows highs lengths (k + 1)) (2 * n - 2)) d (found_in r F))
            go (no x) = C j p (omega arith)

  pub clean_all : (k : ℕ) → c ≤ k → CleanTo k → CleanTo c
  clean_all k l C j p q = C j p (omega arith)

-- ---- marks

pub marked_none : (n : ℕ) (path : List ℕ) → Marked n 0 path (replicate 254 0)
marked_none n path = record { long = length-replicate {A = ℕ} 254 0; on = λ i l. absurd (omega arith); off = λ v lo h. zeros 254 (v - suc n) }

module _ (n count : ℕ) (path : List ℕ) (S : Marks n count path) where
  pub marked_more : (i : ℕ) (marks : List ℕ) → i < count → Marked n i path marks → Marked n (i + 1) path (set marks (get_or path i 0 - n - 1) 1)
  marked_more i marks l D =
      record {
        long = length-set marks (get_or path i 0 - n - 1) 1 ∙ D.long;
        on = λ h m. on h m (ℕ_discrete (get_or path h 0) (get_or path i 0));
        off = λ v lo h. entry_other n marks (get_or path i 0) 1 (S.inner i l).0 v lo (λ e. h i (omega arith) (sym e))
            ∙ D.off v lo (λ k m. h k (omega arith));
      }
    where
      on : (h : ℕ) → h < i + 1 → Dec (get_or path h 0 ≡ get_or path i 0) → at_node n (set marks (get_or path i 0 - n - 1) 1) (get_or path h 0) ≡ 1
      on h m (yes e) =
          ap (at_node n (set marks (get_or path i 0 - n - 1) 1)) e
          ∙ entry-written n marks (get_or path i 0) 1 (S.inner i l).0 (omega (arith, (S.inner i l).1, D.long))
      on h m (no e) =
          entry_other n marks (get_or path i 0) 1 (S.inner i l).0 (get_or path h 0) (S.inner h (omega arith)).0 e ∙ D.on h (earlier h m e)
        where
          earlier : (h : ℕ) → h < i + 1 → get_or path h 0 ≢ get_or path i 0 → h < i
          earlier h m e = go (ℕ_discrete h i)
            where
              go : Dec (h ≡ i) → h < i
              go (yes q) = absurd (e (ap (λ k. get_or path k 0) q))
              go (no q) = omega arith

-- ---- beside the path

-- a mark, by its node's place
pub mark_at : (n : ℕ) (marks : List ℕ) (v : ℕ) → n < v → get_or marks (v - n - 1) 0 ≡ at_node n marks v
mark_at n marks v l = ap (λ k. get_or marks k 0) (omega arith)

module _ (n : ℕ) (tree marks lows highs lengths : List ℕ) (S : Besides n tree lows highs lengths) where
  abbrev Wanted : ℕ → Type 0
  Wanted = BadMarked n tree marks lows highs lengths

  -- a node that is beside, with the entry at its place
  pub bad_marked : (v a : ℕ) → n < v → a ≡ ancestor tree v → Beside n v a marks
      → Bad (get_or lows (v - n - 1) 0) (get_or highs (v - n - 1) 0) (get_or lengths (v - n - 1) 0) → Wanted v
  bad_marked v a lo e h b =
      let place : v - n - 1 ≡ v - suc n = omega arith in
      (subst (λ x. Beside n v x marks) e h, (lo, subst (λ k. Bad (get_or lows k 0) (get_or highs k 0) (get_or lengths k 0)) place b))

  pub not_marked : (v a : ℕ) → n < v → a ≡ ancestor tree v
      → (Bad (get_or lows (v - n - 1) 0) (get_or highs (v - n - 1) 0) (get_or lengths (v - n - 1) 0) → ⊥) → Wanted v → ⊥
  not_marked v a lo e b (h, (l, w)) =
      let place : v - suc n ≡ v - n - 1 = omega arith in
      b (subst (λ k. Bad (get_or lows k 0) (get_or highs k 0) (get_or lengths k 0)) place w)

  pub not_beside : (v a : ℕ) → a ≡ ancestor tree v → (Beside n v a marks → ⊥) → Wanted v → ⊥
  not_beside v a e b (h, w) = b (subst (λ x. Beside n v x marks) (sym e) h)

  pub bad_told : (v a : ℕ) → n < v → a ≡ ancestor tree v → Beside n v a marks → (r : Bool)
      → Tells (Bad (get_or lows (v - n - 1) 0) (get_or highs (v - n - 1) 0) (get_or lengths (v - n - 1) 0)) r → Tells (Wanted v) r
  bad_told v a lo e h true b = bad_marked v a lo e h b
  bad_told v a lo e h false b = not_marked v a lo e b

  -- a search through the interior nodes
  pub beside_first : Never Wanted (n + 1 - 1)
  beside_first v p q (h, (l, w)) = omega arith

  pub beside-more : (v : ℕ) → n < v → Never Wanted (v - 1) → (Wanted v → ⊥) → Never Wanted (v + 1 - 1)
  beside-more v lo N b u p q h = go (ℕ_discrete u v)
    where
      go : Dec (u ≡ v) → ⊥
      go (yes e) = b (subst Wanted e h)
      go (no e) = N u p (omega arith) h

  pub beside-found : (v : ℕ) → n < v → v ≤ 2 * n - 2 → Never Wanted (v - 1) → Wanted v → Lowest Wanted (2 * n - 2) v
  beside-found v lo hi N h = record { some = omega arith; most = hi; holds = h; first = λ u p q. N u p (omega arith) }

  pub beside_nowhere : (v : ℕ) → 2 * n - 2 < v → Never Wanted (v - 1) → Never Wanted (2 * n - 2)
  beside_nowhere v l N u p q = N u p (omega arith)
