-- A table of the right size in which none of the faults is there is an accepted one. Its root is found by a look at each entry. That each node comes
-- to the root is known from the faults only as "not lost"; but then it does so in as many steps as there are nodes, and this can be tried.
-- Assumes nothing.
use mathlib.Core.Path.{◌≡◌, refl, sym, ◌∙◌, ap}
use mathlib.Core.Logic.{◌⊎◌, inl, inr}
use mathlib.Core.List.{List}
use Prim.Native.Nat.{ℕ, zero, suc, ◌≤◌}
use native.Mathlib.Decide.{ℕ_discrete, dec_le}
use native.Mathlib.Omega.{arith}
use lib.ListN.{length}
use Rattle.parsimony.specs.Table.{ancestor, climb, Accepted}
use Rattle.parsimony.proofs.Tables.Reaching.{out_by_root}
use Rattle.parsimony.proofs.Tables.Trees.{out}
use Rattle.refusals.specs.Search.{Never}
use Rattle.refusals.specs.Checks.{Passes}
use Rattle.refusals.proofs.Laws.{never_lowest}
use Rattle.roots.specs.Roots.{IsRoot, StrayZero, NoZero}
use Rattle.faults.specs.Faults.{StrayEntry, WrongCount, Lost}
use Rattle.climbs.specs.Climbs.{Reaches}
use Rattle.trees.specs.Answers.{Sized, tree_faults}
use Rattle.trees.proofs.Accepting.{within, named, accepted}

-- ---- the root

-- the first m entries: one of them is 0, or none is
zero_among : (tree : List ℕ) (m : ℕ)
    → Never (λ k. ancestor tree k ≡ 0) m ⊎ ((k : ℕ) × (1 ≤ k) × (k ≤ m) × (ancestor tree k ≡ 0))
zero_among tree zero = inl (λ k p q e. omega arith)
zero_among tree (suc m) = go (ℕ_discrete (ancestor tree (suc m)) 0) (zero_among tree m)
  where
    go : Dec (ancestor tree (suc m) ≡ 0) → Never (λ k. ancestor tree k ≡ 0) m ⊎ ((k : ℕ) × (1 ≤ k) × (k ≤ m) × (ancestor tree k ≡ 0))
        → Never (λ k. ancestor tree k ≡ 0) (suc m) ⊎ ((k : ℕ) × (1 ≤ k) × (k ≤ suc m) × (ancestor tree k ≡ 0))
    go (yes e) d = inr (suc m, omega arith, omega arith, e)
    go (no e) (inr (k, p, q, z)) = inr (k, p, omega arith, z)
    go (no e) (inl h) = inl (λ k p q z. last k p q z (ℕ_discrete k (suc m)))
      where
        last : (k : ℕ) → 1 ≤ k → k ≤ suc m → ancestor tree k ≡ 0 → Dec (k ≡ suc m) → ⊥
        last k p q z (yes r) = e (ap (ancestor tree) (sym r) ∙ z)
        last k p q z (no r) = h k p (omega arith) z

-- a 0 entry is the root's where none is stray
root-at : (n : ℕ) (tree : List ℕ) → Never (StrayZero n tree) (length tree)
    → (ρ : ℕ) → 1 ≤ ρ → ρ ≤ length tree → ancestor tree ρ ≡ 0 → IsRoot n tree ρ
root-at n tree N ρ p q e =
    record { some = p; most = q; taxon = taxon (dec_le ρ n); root = e; sole = λ k a b z. sole k a b z (dec_le k ρ) (dec_le ρ k) }
  where
    taxon : Dec (ρ ≤ n) → ρ ≤ n
    taxon (yes l) = l
    taxon (no l) = absurd (N ρ p q (e, inl (omega arith)))

    sole : (k : ℕ) → 1 ≤ k → k ≤ length tree → ancestor tree k ≡ 0 → Dec (k ≤ ρ) → Dec (ρ ≤ k) → k ≡ ρ
    sole k a b z (yes l) (yes m) = omega arith
    sole k a b z (yes l) (no m) = absurd (N ρ p q (e, inr (k, a, omega arith, z)))
    sole k a b z (no l) d = absurd (N k a b (z, inr (ρ, p, omega arith, e)))

module _ (n : ℕ) (tree : List ℕ) (S : Sized n tree) (P : Passes (tree_faults n tree)) where
  root : (ρ : ℕ) × IsRoot n tree ρ
  root = go (zero_among tree (length tree))
    where
      go : NoZero n tree ⊎ ((k : ℕ) × (1 ≤ k) × (k ≤ length tree) × (ancestor tree k ≡ 0)) → (ρ : ℕ) × IsRoot n tree ρ
      go (inl h) = absurd (P.0 0 (inl (refl, h)))
      go (inr (ρ, p, q, e)) = (ρ, root-at n tree (never_lowest (StrayZero n tree) (length tree) (λ k L. P.0 k (inr L))) ρ p q e)

  -- ---- with this root

  module _ (ρ : ℕ) (R : IsRoot n tree ρ) where
    entries : Never (StrayEntry n tree ρ) (length tree)
    entries = never_lowest (StrayEntry n tree ρ) (length tree) (λ k L. P.1.0 k (ρ, R, L))

    counts : Never (WrongCount n tree ρ) (length tree)
    counts = never_lowest (WrongCount n tree ρ) (length tree) (λ k L. P.1.1.0 k (ρ, R, L))

    not_lost : Never (Lost tree ρ) (length tree)
    not_lost = never_lowest (Lost tree ρ) (length tree) (λ k L. P.1.1.1.0 k (ρ, R, L))

    -- it cannot be that not all of the first m nodes come to the root
    all-reach : (m : ℕ) → m ≤ length tree → (((k : ℕ) → 1 ≤ k → k ≤ m → Reaches tree ρ k) → ⊥) → ⊥
    all-reach zero l f = f (λ k p q. let z : ⊥ = omega arith in absurd z)
    all-reach (suc m) l f =
        all-reach m (omega arith) (λ h. not_lost (suc m) (omega arith) l (λ s e. f (λ k p q. go h s e k p q (ℕ_discrete k (suc m)))))
      where
        go : ((k : ℕ) → 1 ≤ k → k ≤ m → Reaches tree ρ k) → (s : ℕ) → climb tree s (suc m) ≡ ρ
            → (k : ℕ) → 1 ≤ k → k ≤ suc m → Dec (k ≡ suc m) → Reaches tree ρ k
        go h s e k p q (yes r) = (s, ap (climb tree s) r ∙ e)
        go h s e k p q (no r) = h k p (omega arith)

    made : ((k : ℕ) → 1 ≤ k → k ≤ length tree → Reaches tree ρ k) → (δ : ℕ) × Accepted n tree ρ δ
    made reach =
        let (δ, p, q, e) = named n tree ρ S R entries counts in
        (δ, accepted n tree ρ S R entries counts reach δ e)

    -- as many steps as there are nodes lead out of the table
    climbs_out : (k : ℕ) → climb tree (length tree) k ≡ 0
    climbs_out k = go (ℕ_discrete (climb tree (length tree) k) 0)
      where
        go : Dec (climb tree (length tree) k ≡ 0) → climb tree (length tree) k ≡ 0
        go (yes e) = e
        go (no e) =
            absurd (all-reach (length tree) (omega arith)
            (λ h. let (δ, A) = made h in e (out (record { n = n; tree = tree; ρ = ρ; δ = δ; is_tree = A.is_tree }) k)))

  -- A table of the right size without any of the faults 3 to 6 is accepted.
  pub faultless : (ρ : ℕ) × (δ : ℕ) × Accepted n tree ρ δ
  faultless =
      let (ρ, R) = root in
      let (δ, A) = made ρ R (λ k p q. out_by_root tree ρ R.sole (within n tree ρ S R (entries ρ R)) (length tree) k p q (climbs_out ρ R k)) in
      (ρ, δ, A)
