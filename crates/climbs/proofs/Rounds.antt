-- Climbs that lead to the root, and climbs that go round for ever. A climb from k marks its way with k: where it comes to its own mark, it
-- has been there before, and will be for ever.
-- Assumes nothing.
use mathlib.Core.Path.{◌≡◌, refl, sym, ◌∙◌, ap, subst}
use mathlib.Core.Logic.{◌≢◌, ◌⊎◌, inl, inr, ⊎_elim}
use mathlib.Core.List.{List, [], ◌∷◌}
use Prim.Native.Nat.{ℕ, zero, suc, ◌+◌, ◌-◌, ◌≤◌, ◌<◌}
use native.Mathlib.Decide.{ℕ_discrete}
use native.Mathlib.Omega.{arith}
use lib.ListN.{length, get_or, set, replicate, length-set, length-replicate}
use lib.Seq.{get_or-set_same, get_or-set_other}
use Rattle.parsimony.specs.Lists.{sum, same}
use Rattle.parsimony.specs.Table.{ancestor, climb}
use Rattle.parsimony.proofs.Sums.{same_self, same-apart, zeros}
use Rattle.parsimony.proofs.Tables.Climbing.{climb-more, climb-add}
use Rattle.refusals.specs.Search.{Lowest}
use Rattle.faults.specs.Faults.{Lost}
use Rattle.climbs.specs.Climbs.{Climbable, Reaches, Marked}

-- ---- how many marks are 0: fewer with each mark that is set

pub blanks : List ℕ → ℕ
blanks marks = sum (same 0) marks

sum-set : (f : ℕ → ℕ) (l : List ℕ) (i a : ℕ) → i < length l → sum f (set l i a) + f (get_or l i 0) ≡ sum f l + f a
sum-set f [] i a h = omega arith
sum-set f (x ∷ xs) zero a h = omega arith
sum-set f (x ∷ xs) (suc i) a h = omega (arith, sum-set f xs i a (omega arith))

pub blanks_fall : (marks : List ℕ) (i a : ℕ) → i < length marks → get_or marks i 0 ≡ 0 → 1 ≤ a → blanks (set marks i a) < blanks marks
unfolding blanks
blanks_fall marks i a h e p =
    omega (arith, sum-set (same 0) marks i a h, ap (same 0) e, same_self 0, same-apart 0 a (λ (q : 0 ≡ a). omega arith))

module _ (ρ : ℕ) (tree : List ℕ) (k : ℕ) (marks₀ : List ℕ) where
  -- the climb from k has come to `at` in some steps, never by ρ, and has marked its way
  pub record OnWay (at : ℕ) (marks : List ℕ) : Type 0 where
    pub steps : ℕ
    pub there : climb tree steps k ≡ at
    pub some : 1 ≤ at
    pub most : at ≤ length tree
    pub long : length marks ≡ 511
    pub passed : (i : ℕ) → i < steps → climb tree i k ≢ ρ
    pub marks_are : (v : ℕ) → (get_or marks v 0 ≡ get_or marks₀ v 0) ⊎ ((get_or marks v 0 ≡ k) × ((i : ℕ) × (i < steps) × (climb tree i k ≡ v)))

  pub way_starts : 1 ≤ k → k ≤ length tree → length marks₀ ≡ 511 → OnWay k marks₀
  way_starts p q l =
      record {
        steps = 0;
        there = refl;
        some = p;
        most = q;
        long = l;
        passed = λ i h. let z : ⊥ = omega arith in absurd z;
        marks_are = λ v. inl refl;
      }

  pub way_goes_on : (at next : ℕ) (marks : List ℕ) → Climbable ρ tree → OnWay at marks → at ≢ ρ → next ≡ ancestor tree at
      → OnWay next (set marks at k)
  way_goes_on at next marks K h r e =
      let (p, q) = K.onward at h.some h.most r in
      record {
        steps = suc h.steps;
        there = climb-more tree h.steps k ∙ ap (ancestor tree) h.there ∙ sym e;
        some = omega arith;
        most = omega arith;
        long = simp length-set h.long;
        passed = λ i l. passed i l (ℕ_discrete i h.steps);
        marks_are = λ v. marks_are v (ℕ_discrete v at);
      }
    where
      passed : (i : ℕ) → i < suc h.steps → Dec (i ≡ h.steps) → climb tree i k ≢ ρ
      passed i l (yes s) t = r (sym h.there ∙ ap (λ j. climb tree j k) (sym s) ∙ t)
      passed i l (no s) t = h.passed i (omega arith) t

      few : at < length marks
      few = omega (arith, h.long, h.most, K.few)

      marks_are : (v : ℕ) → Dec (v ≡ at) → (get_or (set marks at k) v 0 ≡ get_or marks₀ v 0)
          ⊎ ((get_or (set marks at k) v 0 ≡ k) × ((i : ℕ) × (i < suc h.steps) × (climb tree i k ≡ v)))
      marks_are v (yes s) =
          inr (ap (λ j. get_or (set marks at k) j 0) s ∙ get_or-set_same marks at k 0 few, (h.steps, omega arith, h.there ∙ sym s))
      marks_are v (no s) =
          let o = get_or-set_other marks at v k 0 s in
          ⊎_elim (λ e. inl (o ∙ e)) (λ (e, (i, l, q)). inr (o ∙ e, (i, omega arith, q))) (h.marks_are v)

  module _ (M : Marked ρ tree k marks₀) where
    -- on its own mark again: it goes round
    pub goes_round : (at : ℕ) (marks : List ℕ) → k ≤ length tree → OnWay at marks → get_or marks at 0 ≡ k → Lost tree ρ k
    goes_round at marks q h e =
        ⊎_elim (λ (o : get_or marks at 0 ≡ get_or marks₀ at 0). λ s t. M.fresh at k (omega arith) q (sym o ∙ e))
        (λ (_, (i, l, r)). for_ever i l (r ∙ sym h.there)) (h.marks_are at)
      where
        -- whatever is climbed to stands among the first steps
        among : (i : ℕ) → i < h.steps → climb tree i k ≡ climb tree h.steps k → (t : ℕ) → (j : ℕ) × (j < h.steps) ×
            (climb tree t k ≡ climb tree j k)
        among i l r zero = (0, omega arith, refl)
        among i l r (suc t) = onward (among i l r t)
          where
            onward : (j : ℕ) × (j < h.steps) × (climb tree t k ≡ climb tree j k)
                → (j : ℕ) × (j < h.steps) × (climb tree (suc t) k ≡ climb tree j k)
            onward (j, lj, ej) = go (ℕ_discrete (suc j) h.steps)
              where
                next : climb tree (suc t) k ≡ climb tree (suc j) k
                next = climb-more tree t k ∙ ap (ancestor tree) ej ∙ sym (climb-more tree j k)

                go : Dec (suc j ≡ h.steps) → (j : ℕ) × (j < h.steps) × (climb tree (suc t) k ≡ climb tree j k)
                go (yes s) = (i, l, next ∙ ap (λ a. climb tree a k) s ∙ sym r)
                go (no s) = (suc j, omega arith, next)

        for_ever : (i : ℕ) → i < h.steps → climb tree i k ≡ climb tree h.steps k → Lost tree ρ k
        for_ever i l r t e' = let (j, lj, ej) = among i l r t in h.passed j lj (sym ej ∙ e')

    -- on an earlier mark: from there it leads to ρ
    pub earlier_mark : (at : ℕ) (marks : List ℕ) → OnWay at marks → get_or marks at 0 ≢ 0 → get_or marks at 0 ≢ k → Reaches tree ρ at
    earlier_mark at marks h z d =
        ⊎_elim (λ (o : get_or marks at 0 ≡ get_or marks₀ at 0). M.reach at (λ e. z (o ∙ e))) (λ (e, _). absurd (d e)) (h.marks_are at)

    -- the way leads to ρ: so do all nodes on it
    pub leads_out : (at : ℕ) (marks : List ℕ) → OnWay at marks → Reaches tree ρ at → Marked ρ tree (k + 1) marks × Reaches tree ρ k
    leads_out at marks h (r, e) = (
      record { long = h.long; reach = reach; fresh = fresh },
      (h.steps + r, climb-add tree h.steps r k ∙ ap (climb tree r) h.there ∙ e),
    )
      where
        reach : (v : ℕ) → get_or marks v 0 ≢ 0 → Reaches tree ρ v
        reach v z =
            ⊎_elim (λ (o : get_or marks v 0 ≡ get_or marks₀ v 0). M.reach v (λ d. z (o ∙ d))) (λ (_, (i, l, q)). from-way i l q) (h.marks_are v)
          where
            from-way : (i : ℕ) → i < h.steps → climb tree i k ≡ v → Reaches tree ρ v
            from-way i l q =
                let on : climb tree (h.steps - i) v ≡ at =
                ap (climb tree (h.steps - i)) (sym q) ∙ sym (climb-add tree i (h.steps - i) k)
                ∙ ap (λ s. climb tree s k) (rest i h.steps l) ∙ h.there in
                (h.steps - i + r, climb-add tree (h.steps - i) r v ∙ ap (climb tree r) on ∙ e)
              where
                rest : (i s : ℕ) → i < s → i + (s - i) ≡ s
                rest i s l = omega arith

        fresh : (v j : ℕ) → k + 1 ≤ j → j ≤ length tree → get_or marks v 0 ≢ j
        fresh v j p q d =
            ⊎_elim (λ (o : get_or marks v 0 ≡ get_or marks₀ v 0). M.fresh v j (omega arith) q (sym o ∙ d))
            (λ (o, _). let z : k ≡ j = sym o ∙ d in omega arith) (h.marks_are v)

-- ---- all nodes, one after the other

module _ (ρ : ℕ) (tree : List ℕ) where
  pub unmarked : Marked ρ tree 1 (replicate 511 0)
  unmarked =
      record {
        long = length-replicate {A = ℕ} 511 0;
        reach = λ v z. absurd (z (zeros 511 v));
        fresh = λ v j p q e. omega (arith, zeros 511 v);
      }

  -- the first k nodes come to ρ
  abbrev pub Reach : ℕ → Type 0
  Reach k = (j : ℕ) → 1 ≤ j → j ≤ k → Reaches tree ρ j

  pub reach-none : Reach 0
  reach-none j p q = let z : ⊥ = omega arith in absurd z

  pub reach-more : (k : ℕ) → Reach k → Reaches tree ρ (k + 1) → Reach (k + 1)
  reach-more k h r j p q = go (ℕ_discrete j (k + 1))
    where
      go : Dec (j ≡ k + 1) → Reaches tree ρ j
      go (yes e) = subst (Reaches tree ρ) (sym e) r
      go (no e) = h j p (omega arith)

  pub lost_here : (k : ℕ) → k < length tree → Reach k → Lost tree ρ (k + 1) → Lowest (Lost tree ρ) (length tree) (k + 1)
  lost_here k l h x =
      record {
        some = omega arith;
        most = omega arith;
        holds = x;
        first = λ j p q y. let (s, e) = h j p (omega arith) in y s e;
      }
