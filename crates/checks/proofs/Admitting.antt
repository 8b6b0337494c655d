-- What the checks after the slices tell, one after the other.
-- Assumes nothing.
use mathlib.Core.Path.{◌≡◌, refl, subst}
use mathlib.Core.Logic.{inl, inr, ⊎_elim}
use mathlib.Core.List.{List, ◌++◌}
use Prim.Native.Nat.{ℕ, ◌+◌, ◌-◌, ◌*◌, ◌≤◌, ◌<◌}
use native.Mathlib.Omega.{arith}
use native.Mathlib.Nat.{mul-le-mul_right}
use Rattle.std.specs.Prelude.{Option, Some, None}
use Rattle.parsimony.specs.Table as table
use Rattle.refusals.specs.declared.Reason.{Reason}
use Rattle.refusals.specs.declared.Reason.TheVariants.{Length, State, Character}
use Rattle.refusals.specs.declared.Refusal.{Refusal}
use Rattle.refusals.specs.Search.{Lowest, Never}
use Rattle.refusals.specs.Checks.{Check, at, Clear, Refuses, Slice, slices}
use Rattle.refusals.proofs.Order.{refuses_before, refuses_after, clear_at}
use Rattle.cells.specs.Above.{AboveAt, AboveIn}
use Rattle.trees.specs.Answers.{tree_faults}
use Rattle.trees.proofs.Unique.{accepted-passes}
use Rattle.limits.specs.Limits.{Told}
use Rattle.checks.specs.Calls.{NoCharacter, character_cell, cell_checks, all_checks}

abbrev pub refusal : Reason → ℕ → Refusal
refusal reason place = record { reason = reason; place = place }

-- ---- 8, and 7 in a character's cells

module _ (n c j : ℕ) (matrix : List ℕ) where
  pub no_character : NoCharacter c j → Refuses (cell_checks n c j matrix) (refusal Character 0)
  no_character h = inl (refl, (refl, h))

  -- the character is there
  pub clear-character : 1 ≤ j → j ≤ c → Clear (at 8 0 (NoCharacter c j))
  clear-character p q = clear_at 8 0 (NoCharacter c j) (λ h. ⊎_elim (λ (l : j < 1). omega arith) (λ (l : c < j). omega arith) h)

  pub cell-above : 1 ≤ j → j ≤ c → (t : ℕ) → Lowest (AboveIn matrix c j) n t → Refuses (cell_checks n c j matrix) (refusal State ((t - 1) * c + j))
  cell-above p q t L = inr (clear-character p q, inl (refl, (t, refl, L)))

  -- the number of a cell fits 32 bits
  pub cell-small : (t : ℕ) → n ≤ 256 → c ≤ 512 → 1 ≤ t → t ≤ n → j ≤ c → (t - 1) * c + j ≤ 131072
  cell-small t p q r s u = omega (arith, rows, cells)
    where
      rows : (t - 1) * c ≤ 255 * c
      rows = mul-le-mul_right c (omega arith)

      cells : 255 * c ≤ 130560
      cells = omega arith

  pub clear-cell : Never (AboveIn matrix c j) n → Clear (character_cell n c j matrix)
  clear-cell N p (t, e, L) = N t L.some L.most L.holds

-- ---- 7 in all cells

pub all_above : (n c : ℕ) (matrix : List ℕ) (i : ℕ) → Lowest (AboveAt matrix) (n * c) i → Refuses (all_checks n c matrix) (refusal State i)
all_above n c matrix i L = inl (refl, L)

pub all_small : (n c : ℕ) → n ≤ 256 → c ≤ 512 → n * c ≤ 131072
all_small n c p q = omega (arith, rows)
  where
    rows : n * c ≤ 256 * c
    rows = mul-le-mul_right c p

-- ---- the whole order

module _ (n : ℕ) (tree : List ℕ) (cs : List {1} Check) where
  abbrev after : List Slice → List {1} Check
  after ss = slices 1 ss ++ (tree_faults n tree ++ cs)

  -- a wrong slice
  pub by_slices : (p : ℕ) (ss : List Slice) → Told 1 ss (Some p) → Refuses (after ss) (refusal Length p)
  by_slices p ss h = refuses_before (slices 1 ss) (tree_faults n tree ++ cs) (refusal Length p) h

  -- a tree that is refused
  pub by_tree : (r : Refusal) → Refuses (tree_faults n tree) r → (ss : List Slice) → Told 1 ss None → Refuses (after ss) r
  by_tree r h ss t = refuses_after (slices 1 ss) (tree_faults n tree ++ cs) r t (refuses_before (tree_faults n tree) cs r h)

  -- what comes after an accepted tree
  pub by_cells : (ρ δ : ℕ) → table.Accepted n tree ρ δ → (r : Refusal) → Refuses cs r → (ss : List Slice) → Told 1 ss None → Refuses (after ss) r
  by_cells ρ δ A r h ss t =
      refuses_after (slices 1 ss) (tree_faults n tree ++ cs) r t (refuses_after (tree_faults n tree) cs r (accepted-passes n tree ρ δ A) h)

-- ---- the answers

-- a wrong slice, and a refused tree: whatever comes after them
module _ (n : ℕ) (tree : List ℕ) (cs : List {1} Check) (told : Option ℕ) where
  abbrev pub RefusedBy : Refusal → Type 0
  RefusedBy r = (ss : List Slice) → Told 1 ss told → Refuses (slices 1 ss ++ (tree_faults n tree ++ cs)) r

  pub slice_refuses : (p : ℕ) → told ≡ Some p → RefusedBy (refusal Length p)
  slice_refuses p e ss t = by_slices n tree cs p ss (subst (Told 1 ss) e t)

  pub tree_refuses : told ≡ None → (r : Refusal) → Refuses (tree_faults n tree) r → RefusedBy r
  tree_refuses e r h ss t = by_tree n tree cs r h ss (subst (Told 1 ss) e t)

-- cells that are refused, behind an accepted tree
module _ (n : ℕ) (tree : List ℕ) (ρ δ : ℕ) (A : table.Accepted n tree ρ δ) where
  pub cells_refuse : (cs : List {1} Check) (told : Option ℕ) → told ≡ None → (r : Refusal) → Refuses cs r → RefusedBy n tree cs told r
  cells_refuse cs told e r h ss t = by_cells n tree cs ρ δ A r h ss (subst (Told 1 ss) e t)
