-- Each call of the kept table has one outcome: from the contract alone, any two answers are equal, and so is what the lent slices hold afterwards.
-- Assumes nothing.
use mathlib.Core.Path.{◌≡◌, refl, sym, ◌∙◌, ap}
use mathlib.Core.List.{List, [], ◌∷◌}
use Prim.Native.Nat.{ℕ, ◌-◌, ◌*◌, ◌≤◌, ◌<◌}
use native.Mathlib.Decide.{ℕ_discrete, dec_le}
use native.Mathlib.Omega.{arith}
use lib.ListN.{length}
use Rattle.std.specs.Prelude.{Result, Ok, Err}
use Rattle.parsimony.specs.Matrix.{state_of}
use Rattle.parsimony.specs.Character.{at_node, cells}
use Rattle.parsimony.proofs.Characters.{same_entries}
use Rattle.parsimony.proofs.Uniqueness.{one-ordered-entry}
use Rattle.refusals.specs.declared.Refusal.{Refusal}
use Rattle.refusals.proofs.Laws.{lowest-one, lowest_never}
use Rattle.refusals.proofs.Order.{Sure, AllSure, sure_at, sure_lowest, sure_append, one-refusal, not_refused}
use Rattle.trees.proofs.Unique.{one-shape}
use Rattle.limits.proofs.Lending.{exact-clear}
use Rattle.checks.specs.Calls.{character_checks, matrix_checks, all_checks}
use Rattle.checks.proofs.Orders.{sure_character, sure_matrix, sure_call, sure_cell}
use Rattle.tables.specs.Tables.{stretch, TableLong}
use Rattle.tables.proofs.Stretches.{stretch_in, stretch-long, same_stretches}
use Rattle.entries.specs.Entries.{BadIn, all_entries}
use Rattle.descents.proofs.Unique.{one-finals}
use Rattle.mending.proofs.Unique.{one-mended}
use Rattle.histories.specs.Kept.{
  Table,
  table_slices,
  Means,
  build_checks,
  Builds,
  correction_checks,
  correct_checks,
  Corrected,
  Corrects,
  length_checks,
  HasLength,
  HasLengths,
  kept_slices,
  kept_checks,
  HasFinals,
  AnswersKept,
}
use Rattle.histories.proofs.Passed.{entries_of, Passed, passed}

-- ---- tables

-- the entries of the character i are the same in two tables
abbrev Alike : (n : ℕ) (T T' : Table) (i : ℕ) → Type 0
Alike n T T' i =
    (stretch (n - 2) T.lows i ≡ stretch (n - 2) T'.lows i) × (stretch (n - 2) T.highs i ≡ stretch (n - 2) T'.highs i)
    × (stretch (n - 2) T.lengths i ≡ stretch (n - 2) T'.lengths i)

-- two tables are the same if those of each character are
same_tables : (n c : ℕ) (T T' : Table) → TableLong n c T.lows T.highs T.lengths → TableLong n c T'.lows T'.highs T'.lengths
    → ((i : ℕ) → 1 ≤ i → i ≤ c → Alike n T T' i) → T ≡ T'
same_tables n c T T' L L' h =
    made (same_stretches (n - 2) c T.lows T'.lows L.low_long L'.low_long (λ i p q. (h i p q).0))
    (same_stretches (n - 2) c T.highs T'.highs L.high_long L'.high_long (λ i p q. (h i p q).1))
    (same_stretches (n - 2) c T.lengths T'.lengths L.length_long L'.length_long (λ i p q. (h i p q).2))
  where
    made : {a a' b b' d d' : List ℕ} → a ≡ a' → b ≡ b' → d ≡ d'
        → ◌≡◌ {A = Table} (record { lows = a; highs = b; lengths = d }) (record { lows = a'; highs = b'; lengths = d' })
    made p q r = cc

module _ (n c : ℕ) (tree matrix : List ℕ) (nodes : length tree ≡ 2 * n - 2) (T T' : Table) (M : Means n c tree matrix T)
    (M' : Means n c tree matrix T') where
  module _ (i : ℕ) (p : 1 ≤ i) (q : i ≤ c) where
    entry : (v : ℕ) → n < v → v ≤ length tree
        → (at_node n (stretch (n - 2) T.lows i) v ≡ at_node n (stretch (n - 2) T'.lows i) v)
        × (at_node n (stretch (n - 2) T.highs i) v ≡ at_node n (stretch (n - 2) T'.highs i) v)
        × (at_node n (stretch (n - 2) T.lengths i) v ≡ at_node n (stretch (n - 2) T'.lengths i) v)
    entry v lo hi =
        one-ordered-entry n (cells n (state_of matrix c i)) tree v _ _ _ _ _ _ ((M.means i p q).fits v lo hi) ((M'.means i p q).fits v lo hi)
        ((M.means i p q).means v lo hi) ((M'.means i p q).means v lo hi)

    long : (entries : List ℕ) → length entries ≡ (n - 2) * c → length (stretch (n - 2) entries i) ≡ n - 2
    long entries e = stretch-long (n - 2) entries i (omega (arith, stretch_in (n - 2) c i p q))

    alike : Alike n T T' i
    alike = (
      same_entries n tree _ _ nodes (long T.lows M.long.low_long) (long T'.lows M'.long.low_long) (λ v lo hi. (entry v lo hi).0),
      same_entries n tree _ _ nodes (long T.highs M.long.high_long) (long T'.highs M'.long.high_long) (λ v lo hi. (entry v lo hi).1),
      same_entries n tree _ _ nodes (long T.lengths M.long.length_long) (long T'.lengths M'.long.length_long)
          (λ v lo hi. (entry v lo hi).2),
    )

  -- Two tables that both have their meaning are the same.
  pub one_meaning : T ≡ T'
  one_meaning = same_tables n c T T' M.long M'.long alike

-- ---- build

-- The table is built: any two outcomes are equal, the answer and the three slices.
module _ (n c : ℕ) (tree matrix : List ℕ) (before : Table) where
  pub build_outcome : (after after' : Table) (r r' : Result (Unit {0}) Refusal) → Builds n c tree matrix before after r
      → Builds n c tree matrix before after' r' → (r ≡ r') × (after ≡ after')
  build_outcome after after' (Ok _) (Ok _) (P, M) (P', M') = (
    refl,
    one_meaning n c tree matrix (passed n c tree matrix (table_slices n c before) (all_checks n c matrix) P).nodes after after' M M',
  )
  build_outcome after after' (Ok _) (Err q) h h' = absurd (not_refused (build_checks n c tree matrix before) h.0 q h'.0)
  build_outcome after after' (Err q) (Ok _) h h' = absurd (not_refused (build_checks n c tree matrix before) h'.0 q h.0)
  build_outcome after after' (Err q) (Err q') h h' = (
    ap Err
        (one-refusal (build_checks n c tree matrix before) (sure_matrix n c tree matrix (table_slices n c before)) q q' h.0 h'.0),
    h.1 ∙ sym h'.1,
  )

-- ---- correct one cell

-- A cell is corrected: any two outcomes are equal, the answer, the matrix and the three slices.
module _ (n c t j s : ℕ) (tree matrix : List ℕ) (T : Table) where
  sure_correct : AllSure (correct_checks n c t j s tree matrix T)
  sure_correct =
      sure_call n c tree matrix (table_slices n c T) (correction_checks n c t j s tree matrix T) (
        sure_at 8 0 _,
        (
          sure_cell n c j matrix,
          (sure_at 9 0 (9999 < s), (sure_lowest 10 _ (2 * n - 2), tt)),
        ),
      )

  module _ (matrix' matrix'' : List ℕ) (T' T'' : Table) (k k' : ℕ) (C : Corrected n c t j s tree matrix T matrix' T' k)
      (C' : Corrected n c t j s tree matrix T matrix'' T'' k') where
    same-matrix : matrix' ≡ matrix''
    same-matrix = C.cell ∙ sym C'.cell

    corrected_table : T' ≡ T''
    corrected_table = same_tables n c T' T'' C.long C'.long (λ i p q. at i p q (ℕ_discrete i j))
      where
        known : Passed n c tree matrix (table_slices n c T) (correction_checks n c t j s tree matrix T)
        known = passed n c tree matrix (table_slices n c T) (correction_checks n c t j s tree matrix T) C.passes

        at : (i : ℕ) → 1 ≤ i → i ≤ c → Dec (i ≡ j) → Alike n T' T'' i
        at i p q (yes e) =
            rw e (one-mended n c j t tree known.ρ known.δ known.accepted known.nodes matrix' _ _ _ _ _ _ _ _ _ C.path
            (rw same-matrix C'.path))
        at i p q (no e) =
            let (a, b, d) = C.others i p q e in
            let (a', b', d') = C'.others i p q e in
            (a ∙ sym a', b ∙ sym b', d ∙ sym d')

  pub correct_outcome : (matrix' matrix'' : List ℕ) (T' T'' : Table) (r r' : Result ℕ Refusal) → Corrects n c t j s tree matrix T matrix' T' r
      → Corrects n c t j s tree matrix T matrix'' T'' r' → (r ≡ r') × (matrix' ≡ matrix'') × (T' ≡ T'')
  correct_outcome matrix' matrix'' T' T'' (Ok k) (Ok k') C C' = (
    ap Ok (C.count ∙ sym C'.count),
    same-matrix matrix' matrix'' T' T'' k k' C C',
    corrected_table matrix' matrix'' T' T'' k k' C C',
  )
  correct_outcome matrix' matrix'' T' T'' (Ok k) (Err q) C C' =
      absurd (not_refused (correct_checks n c t j s tree matrix T) C.passes q C'.0)
  correct_outcome matrix' matrix'' T' T'' (Err q) (Ok k) C C' =
      absurd (not_refused (correct_checks n c t j s tree matrix T) C'.passes q C.0)
  correct_outcome matrix' matrix'' T' T'' (Err q) (Err q') C C' = (
    ap Err (one-refusal (correct_checks n c t j s tree matrix T) sure_correct q q' C.0 C'.0),
    C.1 ∙ sym C'.1,
    C.2 ∙ sym C'.2,
  )

-- ---- the kept tree length

-- the lowest bad entry of the lowest character that has one is one
sure_entries : (n c : ℕ) (lows highs lengths : List ℕ) → Sure (all_entries n c lows highs lengths)
sure_entries n c lows highs lengths p p' (j, (a, b), L, N) (j', (a', b'), L', N') = go (dec_le j j') (dec_le j' j)
  where
    go : Dec (j ≤ j') → Dec (j' ≤ j) → p ≡ p'
    go (yes u) (yes w) =
        let e : j' ≡ j = omega arith in
        lowest-one (BadIn n lows highs lengths j) (2 * n - 2) p p' L (rw e at L')
    go (yes u) (no w) = absurd (lowest_never (BadIn n lows highs lengths j) (2 * n - 2) p L (N' j a (omega arith)))
    go (no u) d = absurd (lowest_never (BadIn n lows highs lengths j') (2 * n - 2) p' L' (N j' a' (omega arith)))

-- The tree's length is asked for: any two answers are equal.
module _ (n c : ℕ) (tree matrix : List ℕ) (T : Table) where
  sure_length : AllSure (length_checks n c tree matrix T)
  sure_length =
      sure_append (matrix_checks n c tree matrix (table_slices n c T)) (all_entries n c T.lows T.highs T.lengths ∷ [])
      (sure_matrix n c tree matrix (table_slices n c T)) (sure_entries n c T.lows T.highs T.lengths, tt)

  one-length : (l l' : ℕ) → HasLength n c tree matrix T l → HasLength n c tree matrix T l' → l ≡ l'
  one-length l l' H H' =
      let (p, q) = one-shape n tree H.ρ H.δ H.accepted H'.ρ H'.δ H'.accepted in
      H.total ∙ rw (p, q) (sym H'.total)

  pub kept-length-answer : (r r' : Result ℕ Refusal) → HasLengths n c tree matrix T r → HasLengths n c tree matrix T r' → r ≡ r'
  kept-length-answer (Ok l) (Ok l') h h' = ap Ok (one-length l l' h h')
  kept-length-answer (Ok l) (Err q) h h' = absurd (not_refused (length_checks n c tree matrix T) h.passes q h')
  kept-length-answer (Err q) (Ok l) h h' = absurd (not_refused (length_checks n c tree matrix T) h'.passes q h)
  kept-length-answer (Err q) (Err q') h h' =
      ap Err (one-refusal (length_checks n c tree matrix T) sure_length q q' h h')

-- ---- one kept character

-- One kept character is asked for: any two outcomes are equal, the answer and the two slices.
module _ (n c j : ℕ) (tree matrix : List ℕ) (T : Table) (lows highs : List ℕ) where
  sure_kept : AllSure (kept_checks n c j tree matrix T lows highs)
  sure_kept =
      sure_append (character_checks n c j tree matrix (kept_slices n c T lows highs)) (entries_of n j T ∷ [])
      (sure_character n c tree matrix (kept_slices n c T lows highs) j) (sure_lowest 10 _ (2 * n - 2), tt)

  both-finals : (lows' highs' lows'' highs'' : List ℕ) (l l' : ℕ) → HasFinals n c j tree matrix T lows highs lows' highs' l
      → HasFinals n c j tree matrix T lows highs lows'' highs'' l' → (l ≡ l') × (lows' ≡ lows'') × (highs' ≡ highs'')
  both-finals lows' highs' lows'' highs'' l l' H H' =
      let (p, q) = one-shape n tree H.ρ H.δ H.accepted H'.ρ H'.δ H'.accepted in
      let nodes : length tree ≡ 2 * n - 2 = exact-clear 1 (length tree) (2 * n - 2) H.passes.1.0 in
      let (e, d) = one-finals n c j tree H.ρ H.δ H.accepted nodes matrix _ _ lows' highs' lows'' highs'' H.finals
      (rw (p, q) H'.finals) in
      (H.length ∙ rw (p, q) (sym H'.length), e, d)

  -- by the cases of two answers, as for a correction, which leaves a matrix and a table beside
  pub kept_character_outcome : (lows' highs' lows'' highs'' : List ℕ) (r r' : Result ℕ Refusal)
      → AnswersKept n c j tree matrix T lows highs lows' highs' r → AnswersKept n c j tree matrix T lows highs lows'' highs'' r'
      → (r ≡ r') × (lows' ≡ lows'') × (highs' ≡ highs'')
  kept_character_outcome lows' highs' lows'' highs'' (Ok l) (Ok l') h h' =
      let (e, a, b) = both-finals lows' highs' lows'' highs'' l l' h h' in
      (ap Ok e, a, b)
  kept_character_outcome lows' highs' lows'' highs'' (Ok l) (Err q) h h' =
      absurd (not_refused (kept_checks n c j tree matrix T lows highs) h.passes q h'.0)
  kept_character_outcome lows' highs' lows'' highs'' (Err q) (Ok l) h h' =
      absurd (not_refused (kept_checks n c j tree matrix T lows highs) h'.passes q h.0)
  kept_character_outcome lows' highs' lows'' highs'' (Err q) (Err q') h h' = (
    ap Err (one-refusal (kept_checks n c j tree matrix T lows highs) sure_kept q q' h.0 h'.0),
    h.1 ∙ sym h'.1,
    h.2 ∙ sym h'.2,
  )
