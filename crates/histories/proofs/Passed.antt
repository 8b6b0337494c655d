-- What is known once no check of a call applies: the sizes, an accepted tree, and no bad entry; and which numbers a refusal can have.
-- Assumes nothing.
use mathlib.Core.Path.{◌≡◌, refl, sym, subst}
use mathlib.Core.Logic.{◌⊎◌, inl, inr}
use mathlib.Core.List.{List, [], ◌∷◌, ◌++◌}
use Prim.Native.Nat.{ℕ, zero, suc, ◌-◌, ◌*◌, ◌≤◌, ◌<◌}
use native.Mathlib.Decide.{dec_le}
use native.Mathlib.Omega.{arith}
use lib.ListN.{length}
use Rattle.parsimony.specs.Table.{Accepted}
use Rattle.parsimony.specs.Matrix.{cell_number}
use Rattle.refusals.specs.declared.Refusal.{Refusal}
use Rattle.refusals.specs.Reasons.{number}
use Rattle.refusals.specs.Search.{Never}
use Rattle.refusals.specs.Checks.{Check, at, Clear, Refuses, Passes, Slice, slices}
use Rattle.refusals.proofs.Laws.{never_lowest}
use Rattle.refusals.proofs.Order.{not_refused}
use Rattle.cells.specs.Above.{AboveIn}
use Rattle.trees.specs.Answers.{tree_faults}
use Rattle.trees.proofs.Faultless.{faultless}
use Rattle.tables.specs.Tables.{stretch}
use Rattle.limits.specs.Limits.{Outside, lent_slices, InLimits}
use Rattle.limits.proofs.Lending.{exact-clear, in_limits}
use Rattle.checks.specs.Calls.{cell_checks, character_checks, matrix_checks, CellsPass}
use Rattle.entries.specs.Entries.{BadIn, character_entries, all_entries}
use Rattle.histories.specs.Kept.{Table, table_slices, length_checks, kept_slices, kept_checks}

-- ---- lists of checks, in two parts

pub passes_split : (cs ds : List {1} Check) → Passes (cs ++ ds) → Passes cs × Passes ds
passes_split [] ds P = (tt, P)
passes_split (c ∷ cs) ds (h, P) =
    let (p, q) = passes_split cs ds P in
    ((h, p), q)

refuses_split : (cs ds : List {1} Check) (r : Refusal) → Refuses (cs ++ ds) r → Refuses cs r ⊎ (Passes cs × Refuses ds r)
refuses_split [] ds r h = inr (tt, h)
refuses_split (c ∷ cs) ds r (inl h) = inl (inl h)
refuses_split (c ∷ cs) ds r (inr (n, h)) = go (refuses_split cs ds r h)
  where
    go : Refuses cs r ⊎ (Passes cs × Refuses ds r) → Refuses (c ∷ cs) r ⊎ (Passes (c ∷ cs) × Refuses ds r)
    go (inl k) = inl (inr (n, k))
    go (inr (p, k)) = inr ((n, p), k)

-- 10 in the entries of the character j
abbrev pub entries_of : (n j : ℕ) → Table → Check
entries_of n j T = character_entries n (stretch (n - 2) T.lows j) (stretch (n - 2) T.highs j) (stretch (n - 2) T.lengths j)

-- ---- what a call knows

-- the checks after those of the tree are `later`
abbrev pub call : (n c : ℕ) (tree matrix : List ℕ) → List Slice → List {1} Check → List {1} Check
call n c tree matrix rest later = at 1 0 (Outside n c) ∷ slices 1 (lent_slices n c tree matrix rest) ++ (tree_faults n tree ++ later)

pub record Passed (n c : ℕ) (tree matrix : List ℕ) (rest : List Slice) (later : List {1} Check) : Type 0 where
  pub limits : InLimits n c
  pub nodes : length tree ≡ 2 * n - 2
  pub rows : length matrix ≡ n * c
  pub lent : Passes (slices 3 rest)
  pub ρ : ℕ
  pub δ : ℕ
  pub accepted : Accepted n tree ρ δ
  pub cleared : Passes later

pub passed : (n c : ℕ) (tree matrix : List ℕ) (rest : List Slice) (later : List {1} Check) → Passes (call n c tree matrix rest later)
    → Passed n c tree matrix rest later
passed n c tree matrix rest later P =
    let L : InLimits n c = in_limits n c (λ h. P.0 0 (refl, h)) in
    let nodes : length tree ≡ 2 * n - 2 = exact-clear 1 (length tree) (2 * n - 2) P.1.0 in
    let (lent, faults) = passes_split (slices 3 rest) (tree_faults n tree ++ later) P.1.1.1 in
    let (clear, cleared) = passes_split (tree_faults n tree) later faults in
    let (ρ, δ, A) = faultless n tree (record { least = L.least; most = L.most; nodes = nodes }) clear in
    record {
      limits = L;
      nodes = nodes;
      rows = exact-clear 2 (length matrix) (n * c) P.1.1.0;
      lent = lent;
      ρ = ρ;
      δ = δ;
      accepted = A;
      cleared = cleared;
    }

-- there is such a taxon, or character, where it is not so that there is none
pub in_order : (a b : ℕ) → ((a < 1) ⊎ (b < a) → ⊥) → (1 ≤ a) × (a ≤ b)
in_order a b h = (some (dec_le 1 a), most (dec_le a b))
  where
    some : Dec (1 ≤ a) → 1 ≤ a
    some (yes l) = l
    some (no l) = absurd (h (inl (omega arith)))

    most : Dec (a ≤ b) → a ≤ b
    most (yes l) = l
    most (no l) = absurd (h (inr (omega arith)))

-- so the character is one of the c, and none of its states is above 9999
pub cells-pass : (n c j : ℕ) (matrix : List ℕ) → Passes (cell_checks n c j matrix) → CellsPass n c j matrix
cells-pass n c j matrix (here, (small, z)) =
    let (p, q) = in_order j c (λ h. here 0 (refl, h)) in
    record { some = p; most = q; small = never_lowest (AboveIn matrix c j) n (λ t L. small (cell_number c t j) (t, refl, L)) }

-- ---- no bad entry

-- where 10 does not apply to all entries, those of each character are not bad: of the first k, by induction
module _ (n c : ℕ) (T : Table) (clear : Clear (all_entries n c T.lows T.highs T.lengths)) where
  first-sound : (k : ℕ) → k ≤ c → (i : ℕ) → 1 ≤ i → i ≤ k → Never (BadIn n T.lows T.highs T.lengths i) (2 * n - 2)
  first-sound zero l i p q = absurd (omega arith)
  first-sound (suc k) l i p q =
      never_lowest (BadIn n T.lows T.highs T.lengths i) (2 * n - 2)
      (λ v L. clear v (i, (p, omega arith), L, λ h a b. first-sound k (omega arith) h a (omega arith)))

-- no check of the tree's length applies: no entry of the table is bad
pub all_sound : (n c : ℕ) (tree matrix : List ℕ) (T : Table) → Passes (length_checks n c tree matrix T) → (j : ℕ) → 1 ≤ j → j ≤ c
    → Never (BadIn n T.lows T.highs T.lengths j) (2 * n - 2)
all_sound n c tree matrix T P j p q =
    let here = (passes_split (matrix_checks n c tree matrix (table_slices n c T)) (all_entries n c T.lows T.highs T.lengths ∷ []) P).1 in
    first-sound n c T here.0 j q j p (omega arith)

-- none of one kept character's: no entry of the character is
pub one-sound : (n c j : ℕ) (tree matrix : List ℕ) (T : Table) (lows highs : List ℕ) → Passes (kept_checks n c j tree matrix T lows highs)
    → Never (BadIn n T.lows T.highs T.lengths j) (2 * n - 2)
one-sound n c j tree matrix T lows highs P =
    let here = (passes_split (character_checks n c j tree matrix (kept_slices n c T lows highs)) (entries_of n j T ∷ []) P).1 in
    never_lowest (BadIn n T.lows T.highs T.lengths j) (2 * n - 2) here.0

-- ---- numbers

-- each check of a list has a number of which P holds
abbrev Numbered : (ℕ → Type 0) → List {1} Check → Type 0
Numbered P [] = Unit {0}
Numbered P (c ∷ cs) = P c.number × Numbered P cs

-- so has a refusal by one of them
refused-number : (P : ℕ → Type 0) (cs : List {1} Check) → Numbered P cs → (r : Refusal) → Refuses cs r → P (number r)
refused-number P [] _ r x3 = elim x3 [ ]
refused-number P (c ∷ cs) (p, ps) r (inl (e, h)) = subst P (sym e) p
refused-number P (c ∷ cs) (p, ps) r (inr (n, h)) = refused-number P cs ps r h

numbered_append : (P : ℕ → Type 0) (cs ds : List {1} Check) → Numbered P cs → Numbered P ds → Numbered P (cs ++ ds)
numbered_append P [] ds p q = q
numbered_append P (c ∷ cs) ds (p, ps) q = (p, numbered_append P cs ds ps q)

numbered_slices : (P : ℕ → Type 0) → P 2 → (i : ℕ) (ss : List Slice) → Numbered P (slices i ss)
numbered_slices P p i [] = tt
numbered_slices P p i (s ∷ ss) = (p, numbered_slices P p (suc i) ss)

-- a number below 10
abbrev pub Early : ℕ → Type 0
Early k = k < 10

-- A call whose last check is `last`, and whose others have numbers below 10: so has its refusal, if the last does not apply where the others do not.
module _ (n c : ℕ) (tree matrix : List ℕ) (rest : List Slice) (later : List {1} Check) (E : Numbered Early later) where
  early : (r : Refusal) → Refuses (call n c tree matrix rest later) r → Early (number r)
  early =
      refused-number Early (call n c tree matrix rest later) (
        omega arith,
        numbered_append Early (slices 1 (lent_slices n c tree matrix rest)) (tree_faults n tree ++ later)
            (numbered_slices Early (omega arith) 1 (lent_slices n c tree matrix rest))
            (numbered_append Early (tree_faults n tree) later (omega arith, (omega arith, (omega arith, (omega arith, tt)))) E),
      )

  pub not_the_last : (last : Check) → (Passes (call n c tree matrix rest later) → Clear last) → (r : Refusal)
      → Refuses (call n c tree matrix rest later ++ (last ∷ [])) r → Early (number r)
  not_the_last last clear r h = go (refuses_split (call n c tree matrix rest later) (last ∷ []) r h)
    where
      go : Refuses (call n c tree matrix rest later) r ⊎ (Passes (call n c tree matrix rest later) × Refuses (last ∷ []) r) → Early (number r)
      go (inl k) = early r k
      go (inr (P, k)) = absurd (not_refused (last ∷ []) (clear P, tt) r k)
