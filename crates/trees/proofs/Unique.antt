-- A tree table has one answer: it is accepted, or it is refused with one number and place.
-- Assumes nothing.
use mathlib.Core.Path.{◌≡◌, sym, ◌∙◌, ap, subst}
use mathlib.Core.Logic.{◌≢◌, inl, inr, ⊎_elim, ◌↔◌}
use mathlib.Core.List.{List, [], ◌∷◌}
use Prim.Native.Nat.{ℕ, ◌-◌, ◌*◌, ◌≤◌, ◌<◌}
use native.Mathlib.Omega.{arith}
use lib.ListN.{length}
use Rattle.std.specs.Prelude.{Result, Ok, Err}
use Rattle.parsimony.specs.Table as table
use Rattle.parsimony.specs.Table.{ancestor, descendants, climb}
use Rattle.parsimony.proofs.Sums.{often, same_self}
use Rattle.parsimony.proofs.Tables.Descendants.{often-descendants}
use Rattle.refusals.specs.declared.Refusal.{Refusal}
use Rattle.refusals.specs.Search.{Lowest, Never}
use Rattle.refusals.specs.Checks.{Clear, Refuses, Passes}
use Rattle.refusals.proofs.Laws.{lowest-one, lowest_never}
use Rattle.refusals.proofs.Order.{Sure, AllSure, sure_at, one-refusal, not_refused, clear_at, clear_slice}
use Rattle.roots.specs.Roots.{IsRoot, StrayZero}
use Rattle.faults.specs.Faults.{StrayEntry, WrongCount, Lost}
use Rattle.trees.specs.declared.Rooted.{Rooted}
use Rattle.trees.specs.Answers.{Sized, TaxaOutside, zeros, rooted, tree_faults, tree_checks, Answers}

-- n is within its limits
pub inside : (n : ℕ) (tree : List ℕ) → 3 ≤ n → n ≤ 256 → TaxaOutside n tree → ⊥
inside n tree p q h = ⊎_elim (λ (l : n < 3). omega arith) (λ (l : 256 < n). omega arith) h

module _ (n : ℕ) (tree : List ℕ) where
  -- ---- one root, and one place for each fault

  one-root : (ρ ρ' : ℕ) → IsRoot n tree ρ → IsRoot n tree ρ' → ρ ≡ ρ'
  one-root ρ ρ' R R' = R'.sole ρ R.some R.most R.root

  -- a fault that speaks of the root is not there if it is not there with this root
  pub clear-rooted : (number ρ : ℕ) (P : (ρ k : ℕ) → Type 0) → IsRoot n tree ρ → Never (P ρ) (length tree) → Clear (rooted n tree number P)
  clear-rooted number ρ P R N k (ρ', R', L) =
      lowest_never (P ρ) (length tree) k (subst (λ r. Lowest (P r) (length tree) k) (one-root ρ' ρ R' R) L) N

  -- no 0 entry is missing or stray where there is a root
  pub clear-zeros : (ρ : ℕ) → IsRoot n tree ρ → Clear (zeros n tree)
  clear-zeros ρ R k (inl (e, h)) = h ρ R.some R.most R.root
  clear-zeros ρ R k (inr L) =
      let (e, s) = L.holds in
      let k_is : k ≡ ρ = R.sole k L.some L.most e in
      ⊎_elim (λ (h : n < k). omega (arith, R.taxon))
      (λ (j, p, q, z). let j_is : j ≡ ρ = R.sole j p (omega (arith, L.most)) z in omega arith) s

  sure_rooted : (number : ℕ) (P : (ρ k : ℕ) → Type 0) → Sure (rooted n tree number P)
  sure_rooted number P k k' (ρ, R, L) (ρ', R', L') =
      lowest-one (P ρ) (length tree) k k' L (subst (λ r. Lowest (P r) (length tree) k') (one-root ρ' ρ R' R) L')

  sure_zeros : Sure (zeros n tree)
  sure_zeros k k' (inl (e, h)) (inl (e', h')) = e ∙ sym e'
  sure_zeros k k' (inl (e, h)) (inr L) = absurd (h k' L.some L.most L.holds.0)
  sure_zeros k k' (inr L) (inl (e, h)) = absurd (h k L.some L.most L.holds.0)
  sure_zeros k k' (inr L) (inr L') = lowest-one (StrayZero n tree) (length tree) k k' L L'

  pub sure_faults : AllSure (tree_faults n tree)
  sure_faults = (
    sure_zeros,
    (sure_rooted 4 (StrayEntry n tree), (sure_rooted 5 (WrongCount n tree), (sure_rooted 6 (Lost tree), tt))),
  )

-- ---- an accepted table has none of the faults

module _ (n : ℕ) (tree : List ℕ) (ρ δ : ℕ) (A : table.Accepted n tree ρ δ) where
  root_of : IsRoot n tree ρ
  root_of =
      record {
        some = A.is_tree.some;
        most = omega (arith, A.is_tree.more, A.is_tree.taxon);
        taxon = A.is_tree.taxon;
        root = A.is_tree.root;
        sole = A.is_tree.sole;
      }

  no_entry : Never (StrayEntry n tree ρ) (length tree)
  no_entry k some most h =
      ⊎_elim (λ (q : length tree < ancestor tree k). omega (arith, A.is_tree.within k))
      (λ (p, q, r). let none : descendants tree (ancestor tree k) ≡ [] = A.is_tree.leaf (ancestor tree k) p q r in
      omega (arith, often-descendants tree (ancestor tree k) k p, ap (λ ks. often ks k) none, same_self (ancestor tree k))) h

  no_count : Never (WrongCount n tree ρ) (length tree)
  no_count k some most h =
      ⊎_elim (λ (e, q). q (ap (λ j. length (descendants tree j)) e ∙ ap length A.is_tree.stem)) (λ (p, q). q (A.two k p most)) h

  no_lost : Never (Lost tree ρ) (length tree)
  no_lost k some most h = let (s, e) = A.is_tree.reach k some most in h s e

  pub accepted-passes : Passes (tree_faults n tree)
  accepted-passes = (
    clear-zeros n tree ρ root_of,
    (
      clear-rooted n tree 4 ρ (StrayEntry n tree) root_of no_entry,
      (clear-rooted n tree 5 ρ (WrongCount n tree) root_of no_count, (clear-rooted n tree 6 ρ (Lost tree) root_of no_lost, tt)),
    ),
  )

  -- it has one root, with one descendant
  pub one-shape : (ρ' δ' : ℕ) → table.Accepted n tree ρ' δ' → (ρ ≡ ρ') × (δ ≡ δ')
  one-shape ρ' δ' A' =
      let r : ρ' ≡ ρ = A.is_tree.sole ρ' A'.is_tree.some (omega (arith, A'.is_tree.taxon, A.is_tree.more)) A'.is_tree.root in
      (sym r, first (sym A.is_tree.stem ∙ ap (descendants tree) (sym r) ∙ A'.is_tree.stem))
    where
      first : {x y : ℕ} → ◌≡◌ {A = List ℕ} (x ∷ []) (y ∷ []) → x ≡ y
      first e = cc

-- ---- one answer

pub sized-passes : (n : ℕ) (tree : List ℕ) (ρ δ : ℕ) → Sized n tree → table.Accepted n tree ρ δ → Passes (tree_checks n tree)
sized-passes n tree ρ δ S A = (
  clear_at 1 0 (TaxaOutside n tree) (inside n tree S.least S.most),
  (clear_slice 1 (length tree) (2 * n - 2) S.nodes, accepted-passes n tree ρ δ A),
)

pub sure_checks : (n : ℕ) (tree : List ℕ) → AllSure (tree_checks n tree)
sure_checks n tree = (sure_at 1 0 (TaxaOutside n tree), (sure_at 2 1 (length tree ≢ 2 * n - 2), sure_faults n tree))

-- From the contract alone, any two answers about a table are equal.
pub one_answer : (n : ℕ) (tree : List ℕ) (r r' : Result Rooted Refusal) → Answers n tree r → Answers n tree r' → r ≡ r'
one_answer n tree (Ok a) (Ok a') (S, h) (S', h') =
    let (p, q) = one-shape n tree a.root a.top h a'.root a'.top h' in
    λ i. Ok (record { root = p i; top = q i })
one_answer n tree (Ok a) (Err r) (S, h) h' = absurd (not_refused (tree_checks n tree) (sized-passes n tree a.root a.top S h) r h')
one_answer n tree (Err r) (Ok a) h (S, h') = absurd (not_refused (tree_checks n tree) (sized-passes n tree a.root a.top S h') r h)
one_answer n tree (Err r) (Err r') h h' = ap Err (one-refusal (tree_checks n tree) (sure_checks n tree) r r' h h')

-- So a table of the right size that is accepted in the sense of the crate `parsimony` is answered so, and no other is.
pub accepted_exactly : (n : ℕ) (tree : List ℕ) (r : Result Rooted Refusal) (ρ δ : ℕ) → Answers n tree r
    → (r ≡ Ok (record { root = ρ; top = δ })) ↔ (Sized n tree × table.Accepted n tree ρ δ)
accepted_exactly n tree r ρ δ h = (
  λ e. subst (Answers n tree) e h,
  λ a. one_answer n tree r (Ok (record { root = ρ; top = δ })) h a,
)

-- And one that has a fault is refused with the first of document 01's numbers that applies, at its place, and no other is.
pub refused_exactly : (n : ℕ) (tree : List ℕ) (r : Result Rooted Refusal) (q : Refusal) → Answers n tree r
    → (r ≡ Err q) ↔ Refuses (tree_checks n tree) q
refused_exactly n tree r q h = (
  λ e. subst (Answers n tree) e h,
  λ a. one_answer n tree r (Err q) h a,
)
