-- One correction after the other. A correction of a table that stands is accepted if there is such a cell and the state is not above 9999, and is
-- else refused, with 8 or with 9; after either the table stands.
-- Assumes nothing.
use mathlib.Core.Path.{◌≡◌, refl, ◌∙◌, ap, subst}
use mathlib.Core.Logic.{◌≢◌, ◌⊎◌, inl, inr, ⊎_elim}
use mathlib.Core.List.{List, [], ◌∷◌, ◌++◌}
use Prim.Native.Nat.{ℕ, zero, suc, ◌+◌, ◌-◌, ◌*◌, ◌≤◌, ◌<◌}
use native.Mathlib.Decide.{ℕ_discrete, dec_le}
use native.Mathlib.Omega.{arith}
use lib.ListN.{length, get_or, set, length-set}
use lib.Seq.{get_or-set_same, get_or-set_other}
use Rattle.std.specs.Prelude.{None, Result, Ok, Err}
use Rattle.parsimony.specs.Lists.{choose}
use Rattle.parsimony.specs.Matrix.{cell_number, state_of}
use Rattle.parsimony.specs.Character.{FirstMeans}
use Rattle.parsimony.proofs.Matrices.{cell_in, state-other}
use Rattle.refusals.specs.declared.Reason.TheVariants as reason
use Rattle.refusals.specs.declared.Refusal.{Refusal}
use Rattle.refusals.specs.Search.{Never}
use Rattle.refusals.specs.Checks.{Check, at, Clear, Refuses, Passes}
use Rattle.refusals.proofs.Order.{not_refused, clear_at}
use Rattle.cells.specs.Above.{AboveAt}
use Rattle.cells.proofs.Reading.{none_above}
use Rattle.limits.specs.Limits.{Outside, lent_slices}
use Rattle.limits.proofs.Lending.{not_outside}
use Rattle.checks.specs.Calls.{NoCharacter, character_cell}
use Rattle.checks.proofs.Admitting.{refusal, by_cells, clear-cell}
use Rattle.checks.proofs.Orders.{passes-call}
use Rattle.tables.specs.Tables.{stretch}
use Rattle.mending.proofs.Means.{mended-means}
use Rattle.repairs.specs.Repairs.{with_cell}
use Rattle.histories.specs.Kept.{Table, table_slices, Means, NoTaxon, correction_checks, correct_checks, Corrected, Corrects}
use Rattle.histories.specs.Histories.{Correction, Kept, After, with_one, with_all}
use Rattle.histories.proofs.Passed.{passed, in_order}
use Rattle.histories.proofs.Unique.{correct_outcome}
use Rattle.histories.proofs.Sound.{Stands, exact-slices, clear-path}

-- there is such a cell
pub record HasCell (n c t j : ℕ) : Type 0 where
  pub taxon : (1 ≤ t) × (t ≤ n)
  pub character : (1 ≤ j) × (j ≤ c)

-- ---- the matrix with one cell written

module _ (n c t j s : ℕ) (matrix : List ℕ) (H : HasCell n c t j) where
  -- the place of the cell, by its row and its column
  place : (t - 1) * c + (j - 1) ≡ cell_number c t j - 1
  place = omega (arith, H.character)

  -- the state of another taxon, or in another character, is as it was
  pub other-state : (i k : ℕ) → 1 ≤ i → i ≤ c → 1 ≤ k → (k ≢ t) ⊎ (i ≢ j) → state_of (with_cell c t j s matrix) c i k ≡ state_of matrix c i k
  other-state i k p q r d =
      subst (λ x. state_of (set matrix x s) c i k ≡ state_of matrix c i k) place
      (state-other matrix c t (j - 1) s (omega (arith, H.character)) k i H.taxon.0 r p q
      (⊎_elim (λ e. inl e) (λ e. inr (λ z. e (z ∙ next))) d))
    where
      next : j - 1 + 1 ≡ j
      next = omega (arith, H.character)

  -- so all states of another character are
  pub other-character : (i : ℕ) → 1 ≤ i → i ≤ c → i ≢ j → state_of (with_cell c t j s matrix) c i ≡ state_of matrix c i
  other-character i p q d = λ x k. at k x
    where
      at : (k : ℕ) → state_of (with_cell c t j s matrix) c i k ≡ state_of matrix c i k
      at zero = other-state i 1 p q (omega arith) (inr d)
      at (suc k) = other-state i (suc k) p q (omega arith) (inr d)

  -- no cell is above 9999, if none was and the state is not
  pub still_small : length matrix ≡ n * c → s ≤ 9999 → Never (AboveAt matrix) (n * c) → Never (AboveAt (with_cell c t j s matrix)) (n * c)
  still_small rows l N i p q h = go (ℕ_discrete (i - 1) (cell_number c t j - 1))
    where
      inside : cell_number c t j - 1 < length matrix
      inside = omega (arith, place, cell_in n c (t - 1) (j - 1) (omega (arith, H.taxon)) (omega (arith, H.character)), rows)

      go : Dec (i - 1 ≡ cell_number c t j - 1) → ⊥
      go (yes e) =
          omega (
            arith,
            ap (λ x. get_or (with_cell c t j s matrix) x 0) e,
            get_or-set_same matrix (cell_number c t j - 1) s 0 inside,
          )
      go (no e) = N i p q (subst (λ x. 9999 < x) (get_or-set_other matrix (cell_number c t j - 1) (i - 1) s 0 e) h)

-- ---- an accepted correction

module _ (n c t j s : ℕ) (tree matrix : List ℕ) (T : Table) (matrix' : List ℕ) (T' : Table) (k : ℕ)
    (C : Corrected n c t j s tree matrix T matrix' T' k) where
  -- there is the cell
  pub corrected_cell : HasCell n c t j
  corrected_cell =
      let clear = (passed n c tree matrix (table_slices n c T) (correction_checks n c t j s tree matrix T) C.passes).cleared.0 in
      record { taxon = in_order t n (λ h. clear 0 (refl, inl h)); character = in_order j c (λ h. clear 0 (refl, inr h)) }

  -- and the table has its meaning for the corrected matrix, if it had it before
  pub means-on : Means n c tree matrix T → Means n c tree matrix' T'
  means-on M = record { long = C.long; means = λ i p q. at i p q (ℕ_discrete i j) }
    where
      at : (i : ℕ) → 1 ≤ i → i ≤ c → Dec (i ≡ j)
          → FirstMeans n (state_of matrix' c i) tree (stretch (n - 2) T'.lows i) (stretch (n - 2) T'.highs i) (stretch (n - 2) T'.lengths i)
      at i p q (yes e) =
          let Q = passed n c tree matrix (table_slices n c T) (correction_checks n c t j s tree matrix T) C.passes in
          let (some, most) = corrected_cell.character in
          rw e (mended-means n c j t tree Q.ρ Q.δ Q.accepted matrix matrix' _ _ _ _ _ _
          (λ u a b d. rw C.cell (other-state n c t j s matrix corrected_cell j u some most a (inl d))) (M.means j some most) C.path)
      at i p q (no e) =
          let (a, b, d) = C.others i p q e in
          rw C.cell (rw (other-character n c t j s matrix corrected_cell i p q e) (rw (a, b, d) (M.means i p q)))

-- ---- a correction of a table that stands

module _ (n c t j s : ℕ) (tree matrix : List ℕ) (T : Table) (B : Stands n c tree matrix T) where
  abbrev checks : List {1} Check
  checks = correction_checks n c t j s tree matrix T

  -- 1 to 6 do not apply
  refuses_later : (r : Refusal) → Refuses checks r → Refuses (correct_checks n c t j s tree matrix T) r
  refuses_later r h =
      inr (
        clear_at 1 0 (Outside n c) (not_outside n c B.limits),
        by_cells n tree checks B.ρ B.δ B.accepted r h (lent_slices n c tree matrix (table_slices n c T))
            (exact-slices n c tree matrix T B T B.means.long),
      )

  -- 8, where there is no such cell
  pub refuses_8 : NoTaxon n t ⊎ NoCharacter c j → Refuses (correct_checks n c t j s tree matrix T) (refusal reason.Character 0)
  refuses_8 h = refuses_later (refusal reason.Character 0) (inl (refl, (refl, h)))

  module _ (H : HasCell n c t j) where
    clear_8 : Clear (at 8 0 (NoTaxon n t ⊎ NoCharacter c j))
    clear_8 = clear_at 8 0 (NoTaxon n t ⊎ NoCharacter c j) (λ h. ⊎_elim (λ h₁. outside t n H.taxon h₁) (λ h₁. outside j c H.character h₁) h)
      where
        outside : (a b : ℕ) → (1 ≤ a) × (a ≤ b) → (a < 1) ⊎ (b < a) → ⊥
        outside a b (p, q) h = ⊎_elim (λ (l : a < 1). omega arith) (λ (l : b < a). omega arith) h

    clear_7 : Clear (character_cell n c j matrix)
    clear_7 = clear-cell n c j matrix (none_above n c j matrix H.character.0 H.character.1 B.small)

    -- 9, where the state is above 9999
    pub refuses_9 : 9999 < s → Refuses (correct_checks n c t j s tree matrix T) (refusal reason.Correction 0)
    refuses_9 h = refuses_later (refusal reason.Correction 0) (inr (clear_8, inr (clear_7, inl (refl, (refl, h)))))

    -- and none, where it is not
    pub correct_passes : s ≤ 9999 → Passes (correct_checks n c t j s tree matrix T)
    correct_passes l =
        let clear-10 = clear-path n c tree matrix T B j H.character.0 H.character.1 t in
        passes-call n c tree matrix (table_slices n c T) B.limits None (exact-slices n c tree matrix T B T B.means.long) checks refl
        B.ρ B.δ B.accepted (clear_8, (clear_7, (clear_at 9 0 (9999 < s) (λ h. omega arith), (clear-10, tt))))

  module _ (matrix' : List ℕ) (T' : Table) where
    -- the corrected table stands
    pub stands_on : s ≤ 9999 → (k : ℕ) → Corrected n c t j s tree matrix T matrix' T' k → Stands n c tree matrix' T'
    stands_on l k C =
        record {
          limits = B.limits;
          nodes = B.nodes;
          rows = ap length C.cell ∙ length-set matrix (cell_number c t j - 1) s ∙ B.rows;
          ρ = B.ρ;
          δ = B.δ;
          accepted = B.accepted;
          small = rw C.cell (still_small n c t j s matrix (corrected_cell n c t j s tree matrix T matrix' T' k C) B.rows l B.small);
          means = means-on n c t j s tree matrix T matrix' T' k C B.means;
        }

    module _ (r : Result ℕ Refusal) (D : Corrects n c t j s tree matrix T matrix' T' r) where
      -- a correction that some check refuses is refused so, and changes nothing
      pub refused_so : (q : Refusal) → Refuses (correct_checks n c t j s tree matrix T) q → (r ≡ Err q) × (matrix' ≡ matrix) × (T' ≡ T)
      refused_so q h = correct_outcome n c t j s tree matrix T matrix' matrix T' T r (Err q) D (h, refl, refl)

      -- any other is accepted
      pub accepted_so : HasCell n c t j → s ≤ 9999 → (k : ℕ) × (r ≡ Ok k) × Corrected n c t j s tree matrix T matrix' T' k
      accepted_so H l = go r D
        where
          go : (r : Result ℕ Refusal) → Corrects n c t j s tree matrix T matrix' T' r
              → (k : ℕ) × (r ≡ Ok k) × Corrected n c t j s tree matrix T matrix' T' k
          go (Ok k) C = (k, refl, C)
          go (Err q) C = absurd (not_refused (correct_checks n c t j s tree matrix T) (correct_passes H l) q C.0)

      -- either way the matrix is as it should be, and the table stands
      pub step : (matrix' ≡ with_one n c (record { taxon = t; character = j; state = s }) matrix) × Stands n c tree matrix' T'
      step = go (dec_le 1 t) (dec_le t n) (dec_le 1 j) (dec_le j c) (dec_le s 9999)
        where
          refused : (q : Refusal) → Refuses (correct_checks n c t j s tree matrix T) q → (matrix' ≡ matrix) × Stands n c tree matrix' T'
          refused q h =
              let (e, m, u) = refused_so q h in
              (m, rw (m, u) B)

          go : (a : Dec (1 ≤ t)) (b : Dec (t ≤ n)) (d : Dec (1 ≤ j)) (e : Dec (j ≤ c)) (f : Dec (s ≤ 9999))
              → (matrix' ≡ choose a (choose b (choose d (choose e (choose f (with_cell c t j s matrix) matrix) matrix) matrix) matrix) matrix)
              × Stands n c tree matrix' T'
          go (no a) b d e f = refused (refusal reason.Character 0) (refuses_8 (inl (inl (omega arith))))
          go (yes a) (no b) d e f = refused (refusal reason.Character 0) (refuses_8 (inl (inr (omega arith))))
          go (yes a) (yes b) (no d) e f = refused (refusal reason.Character 0) (refuses_8 (inr (inl (omega arith))))
          go (yes a) (yes b) (yes d) (no e) f = refused (refusal reason.Character 0) (refuses_8 (inr (inr (omega arith))))
          go (yes a) (yes b) (yes d) (yes e) (no f) =
              refused (refusal reason.Correction 0) (refuses_9 (record { taxon = (a, b); character = (d, e) }) (omega arith))
          go (yes a) (yes b) (yes d) (yes e) (yes f) =
              let (k, _, C) = accepted_so (record { taxon = (a, b); character = (d, e) }) f in
              (C.cell, stands_on f k C)

-- ---- any list of them

pub steps : (n c : ℕ) (tree : List ℕ) (xs : List Correction) (K L : Kept) → Stands n c tree K.matrix K.table → After n c tree xs K L
    → (L.matrix ≡ with_all n c xs K.matrix) × Stands n c tree L.matrix L.table
steps n c tree [] K L B e = (ap (λ (k : Kept). k.matrix) e, rw e B)
steps n c tree (x ∷ xs) K L B (r, next, D, rest) =
    let (e, S) = step n c x.taxon x.character x.state tree K.matrix K.table B next.matrix next.table r D in
    let (f, Z) = steps n c tree xs next L S rest in
    (f ∙ ap (with_all n c xs) e, Z)

-- what the first corrections leave is what the others are asked of
pub after_first : (n c : ℕ) (tree : List ℕ) (xs ys : List Correction) (K L : Kept) → After n c tree (xs ++ ys) K L
    → (M : Kept) × After n c tree xs K M × After n c tree ys M L
after_first n c tree [] ys K L h = (K, refl, h)
after_first n c tree (x ∷ xs) ys K L (r, next, D, rest) =
    let (M, first, others) = after_first n c tree xs ys next L rest in
    (M, (r, next, D, first), others)
