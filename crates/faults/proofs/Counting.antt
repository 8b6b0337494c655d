-- The entries of a table taken one by one: the descendants of the nodes, counted.
-- Assumes nothing.
use mathlib.Core.Path.{◌≡◌, sym, ◌∙◌, ap}
use mathlib.Core.List.{List, [], ◌∷◌}
use Prim.Native.Nat.{ℕ, ◌+◌, ◌≤◌}
use native.Mathlib.Decide.{ℕ_discrete}
use native.Mathlib.Numerals.{add-one}
use native.Mathlib.Omega.{arith}
use lib.ListN.{length, get_or, set, replicate, length-replicate}
use lib.Seq.{get_or-set_same, get_or-set_other}
use Rattle.parsimony.specs.Lists.{sum, from, same}
use Rattle.parsimony.specs.Table.{ancestor, nodes}
use Rattle.parsimony.proofs.Sums.{same_self, same-apart, same-small, zeros, from_more, length_from, sum-append, sum_small, all_from}
use Rattle.parsimony.proofs.Tables.Descendants.{length-having}
use Rattle.faults.specs.Finding.{InTable, Cleared, Counted}
use Rattle.parsimony.proofs.Tables.Descendants.{entry_at}

-- ---- counts

pub entry-small : (tree : List ℕ) → InTable tree → (k entry : ℕ) → entry ≡ get_or tree k 0 → entry ≤ 510
entry-small tree h k entry e = omega (arith, h.few, h.within (k + 1), entry_at tree k)

module _ (tree : List ℕ) where
  -- how many of the first k entries are v
  abbrev pub seen : ℕ → ℕ → ℕ
  seen k v = sum (λ j. same v (ancestor tree j)) (from 1 k)

  pub seen_more : (k v : ℕ) → seen (k + 1) v ≡ seen k v + same v (get_or tree k 0)
  seen_more k v =
      ap (λ j. seen j v) (add-one k)
      ∙ ap (sum (λ j. same v (ancestor tree j))) (from_more 1 k)
      ∙ sum-append (λ j. same v (ancestor tree j)) (from 1 k) ((1 + k) ∷ [])
      ∙ omega (arith, ap (λ j. same v (ancestor tree j)) (one_plus k), ap (same v) (entry_at tree k))
    where
      one_plus : (k : ℕ) → 1 + k ≡ k + 1
      one_plus k = omega arith

  pub seen_few : (k v : ℕ) → seen k v ≤ k
  seen_few k v =
      omega (
        arith,
        sum_small (λ j. same v (ancestor tree j)) (from 1 k)
            (all_from (λ j. same v (ancestor tree j) ≤ 1) 1 k (λ j p q. same-small v (ancestor tree j))),
        length_from 1 k,
      )

  -- the counts after k entries
  abbrev pub CountsTo : ℕ → List ℕ → Type 0
  CountsTo k counts = (v : ℕ) → v ≤ 510 → get_or counts v 0 ≡ seen k v

  pub counts-none : (counts : List ℕ) → Cleared counts → CountsTo 0 counts
  counts-none counts h v l = h.zero v

  pub counts-more : (k entry : ℕ) (counts : List ℕ) → length counts ≡ 511 → entry ≡ get_or tree k 0 → entry ≤ 510 → CountsTo k counts
      → CountsTo (k + 1) (set counts entry (get_or counts entry 0 + 1))
  counts-more k entry counts long e few h v l = go (ℕ_discrete v entry)
    where
      go : Dec (v ≡ entry) → get_or (set counts entry (get_or counts entry 0 + 1)) v 0 ≡ seen (k + 1) v
      go (yes r) =
          ap (λ j. get_or (set counts entry (get_or counts entry 0 + 1)) j 0) r
          ∙ get_or-set_same counts entry (get_or counts entry 0 + 1) 0 (omega arith)
          ∙ omega (arith, h entry few, seen_more k entry, ap (same entry) e, same_self entry)
          ∙ ap (seen (k + 1)) (sym r)
      go (no r) =
          get_or-set_other counts entry v (get_or counts entry 0 + 1) 0 r
          ∙ omega (arith, h v l, seen_more k v, same-apart v (get_or tree k 0) (λ q. r (q ∙ sym e)))

  pub counts_all : (k : ℕ) (counts : List ℕ) → k ≡ length tree → length tree ≤ 510 → CountsTo k counts → Counted tree counts
  counts_all k counts e few h v p q =
      h v (omega arith) ∙ ap (λ j. seen j v) e ∙ sym (length-having tree (nodes tree) v)

-- a list of zeros is cleared
pub cleared : Cleared (replicate 511 0)
cleared = record { long = length-replicate {A = ℕ} 511 0; zero = zeros 511 }
