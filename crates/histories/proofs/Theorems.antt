-- Demand 3, "start from an accepted tree and matrix and the table built from them", and what the kept table answers: each result, stated in full.
-- "The table T was built" is `Builds n c tree matrix T₀ T (Ok tt)`: T₀ is what its three slices held before, which does not matter.
-- Not here: that each call has one outcome (Unique.antt), and that the code meets the contracts (the functions' own proofs).
-- Assumes nothing.
use mathlib.Core.Path.{◌≡◌, refl, ◌∙◌, ap}
use mathlib.Core.Logic.{◌≢◌, ◌⊎◌, ⊎_elim}
use mathlib.Core.List.{List, [], ◌∷◌, ◌++◌}
use Prim.Native.Nat.{ℕ, ◌-◌, ◌*◌, ◌≤◌, ◌<◌}
use native.Mathlib.Decide.{ℕ_discrete}
use native.Mathlib.Omega.{arith}
use lib.ListN.{length, length-set}
use lib.Seq.{get_or-set_other}
use Rattle.std.specs.Prelude.{None, Result, Ok, Err}
use Rattle.parsimony.specs.Table.{below, between, Accepted}
use Rattle.parsimony.specs.Ordered.{ordered}
use Rattle.parsimony.specs.Meaning.{LengthMeans}
use Rattle.parsimony.specs.Matrix.{cell_number, cell_at, state_of}
use Rattle.parsimony.specs.Character.{at_node, cells, ranges, sizes, FirstMeans, FinalsMean}
use Rattle.parsimony.proofs.Characters.{finals_mean}
use Rattle.parsimony.proofs.Theorems.{equation_16, ordered_keeps_laws}
use Rattle.parsimony.proofs.Tables.Meant.{meant_settled}
use Rattle.refusals.specs.declared.Reason.TheVariants as reason
use Rattle.refusals.specs.declared.Refusal.{Refusal}
use Rattle.refusals.specs.Reasons.{number}
use Rattle.refusals.specs.Checks.{Clear, Passes, slices}
use Rattle.refusals.proofs.Order.{not_refused, passes_append, clear_slice}
use Rattle.cells.proofs.Reading.{none_above}
use Rattle.limits.specs.Limits.{lent_slices}
use Rattle.checks.specs.Calls.{NoCharacter, character_checks, matrix_checks, cell_checks, all_checks}
use Rattle.checks.proofs.Admitting.{refusal}
use Rattle.checks.proofs.Orders.{character-passes}
use Rattle.tables.specs.Tables.{stretch, TableLong}
use Rattle.entries.specs.Entries.{BadIn, all_entries}
use Rattle.mending.specs.Mending.{SameAt}
use Rattle.totals.specs.Totals as totals
use Rattle.tallies.specs.Tallies.{length_here, length_in}
use Rattle.histories.specs.Kept.{
  Table,
  table_slices,
  Means,
  build_checks,
  Builds,
  NoTaxon,
  Corrected,
  Corrects,
  length_checks,
  HasLengths,
  kept_slices,
  kept_checks,
  AnswersKept,
}
use Rattle.histories.specs.Histories.{Correction, Kept, After, with_all}
use Rattle.histories.proofs.Passed.{passes_split, entries_of, passed, cells-pass, all_sound, one-sound, not_the_last}
use Rattle.histories.proofs.Unique.{one_meaning, build_outcome}
use Rattle.histories.proofs.Sound.{clear-character, Stands, passes_stands, exact-slices, build-passes, clear-one, clear-all}
use Rattle.histories.proofs.Lists.{corrected_cell, means-on, refuses_8, refuses_9, refused_so, accepted_so, steps, after_first}

-- ---- corrections

-- One accepted correction: a table that has its meaning for the matrix has it afterwards for the corrected matrix.
pub corrected_means : (n c t j s : ℕ) (tree matrix : List ℕ) (T : Table) (matrix' : List ℕ) (T' : Table) (k : ℕ)
    → Means n c tree matrix T → Corrected n c t j s tree matrix T matrix' T' k → Means n c tree matrix' T'
corrected_means n c t j s tree matrix T matrix' T' k M C = means-on n c t j s tree matrix T matrix' T' k C M

-- the entry of the node v for the character i is the same in two tables
abbrev pub SameEntry : (n : ℕ) (T T' : Table) (i v : ℕ) → Type 0
SameEntry n T T' i v =
    SameAt n (stretch (n - 2) T.lows i) (stretch (n - 2) T.highs i) (stretch (n - 2) T.lengths i) (stretch (n - 2) T'.lows i)
    (stretch (n - 2) T'.highs i) (stretch (n - 2) T'.lengths i) v

-- It writes its cell alone and, for its character, entries of interior nodes between the taxon and the root: every other cell is as it was, and so
-- is the entry of any node for another character, and for this one of a node that the taxon is not below.
pub writes_only : (n c t j s : ℕ) (tree matrix : List ℕ) (T : Table) (matrix' : List ℕ) (T' : Table) (k : ℕ)
    → Corrected n c t j s tree matrix T matrix' T' k
    → (length matrix' ≡ length matrix)
    × ((i : ℕ) → 1 ≤ i → i ≢ cell_number c t j → cell_at matrix' i ≡ cell_at matrix i)
    × ((i v : ℕ) → 1 ≤ i → i ≤ c → n < v → v ≤ length tree → (i ≢ j) ⊎ (below tree v t ≡ 0) → SameEntry n T T' i v)
writes_only n c t j s tree matrix T matrix' T' k C = (
  ap length C.cell ∙ length-set matrix (cell_number c t j - 1) s,
  λ i p d. ap (λ m. cell_at m i) C.cell ∙ get_or-set_other matrix (cell_number c t j - 1) (i - 1) s 0 (λ e. d (place i p e)),
  λ i v p q lo hi h. entry i v p q lo hi h (ℕ_discrete i j),
)
  where
    place : (i : ℕ) → 1 ≤ i → i - 1 ≡ cell_number c t j - 1 → i ≡ cell_number c t j
    place i p e = omega (arith, (corrected_cell n c t j s tree matrix T matrix' T' k C).character)

    entry : (i v : ℕ) → 1 ≤ i → i ≤ c → n < v → v ≤ length tree → (i ≢ j) ⊎ (below tree v t ≡ 0) → Dec (i ≡ j)
        → SameEntry n T T' i v
    entry i v p q lo hi h (yes e) = rw e (C.path.off v lo hi (⊎_elim (λ d. absurd (d e)) (λ z. z) h))
    entry i v p q lo hi h (no e) =
        let (a, b, d) = C.others i p q e in
        (ap (λ xs. at_node n xs v) a, ap (λ xs. at_node n xs v) b, ap (λ xs. at_node n xs v) d)

-- the table T was built
module _ (n c : ℕ) (tree matrix : List ℕ) (T₀ T : Table) (B : Builds n c tree matrix T₀ T (Ok tt)) where
  stands : Stands n c tree matrix T
  stands = passes_stands n c tree matrix T₀ T B.0 B.1

  -- When a correction is accepted, and how it is refused: it is accepted exactly if there is the taxon and the character and the state is not above
  -- 9999, and the answer is the number of interior nodes between the taxon and the root. If there is no such taxon or character, the refusal is 8,
  -- and else 9, with the place 0. No other refusal is given.
  pub accepted_exactly : (t j s : ℕ) (matrix' : List ℕ) (T' : Table) (r : Result ℕ Refusal) → Corrects n c t j s tree matrix T matrix' T' r
      → ((1 ≤ t) × (t ≤ n) → (1 ≤ j) × (j ≤ c) → s ≤ 9999 → r ≡ Ok (between n tree t))
      × (NoTaxon n t ⊎ NoCharacter c j → r ≡ Err (refusal reason.Character 0))
      × ((1 ≤ t) × (t ≤ n) → (1 ≤ j) × (j ≤ c) → 9999 < s → r ≡ Err (refusal reason.Correction 0))
  accepted_exactly t j s matrix' T' r D = (
    λ a b l. let (k, e, C) = accepted_so n c t j s tree matrix T stands matrix' T' r D (record { taxon = a; character = b }) l in
        e ∙ ap Ok C.count,
    λ h. (refused_so n c t j s tree matrix T stands matrix' T' r D (refusal reason.Character 0) (refuses_8 n c t j s tree matrix T stands h)).0,
    λ a b l. (refused_so n c t j s tree matrix T stands matrix' T' r D (refusal reason.Correction 0)
        (refuses_9 n c t j s tree matrix T stands (record { taxon = a; character = b }) l)).0,
  )

  -- any list of corrections, refused ones among them, one after the other
  module _ (xs : List Correction) (K : Kept) (after : After n c tree xs (record { matrix = matrix; table = T }) K) where
    left : (K.matrix ≡ with_all n c xs matrix) × Stands n c tree K.matrix K.table
    left = steps n c tree xs (record { matrix = matrix; table = T }) K stands after

    -- a build from what they leave is not refused
    passes_again : (T₁ : Table) → TableLong n c T₁.lows T₁.highs T₁.lengths → Passes (build_checks n c tree K.matrix T₁)
    passes_again = build-passes n c tree K.matrix K.table left.1

    -- The matrix holds exactly the accepted corrections, and the table has its meaning for it.
    pub corrections_hold : (K.matrix ≡ with_all n c xs matrix) × Means n c tree K.matrix K.table
    corrections_hold = (left.0, left.1.means)

    -- The table is one that was built from this matrix, so that all theorems of a table that was built hold of it.
    pub still_built : Builds n c tree K.matrix K.table K.table (Ok tt)
    still_built = (passes_again K.table left.1.means.long, left.1.means)

    -- It equals a table that is built afresh from this matrix.
    pub equals_fresh : (T₁ T₂ : Table) → Builds n c tree K.matrix T₁ T₂ (Ok tt) → K.table ≡ T₂
    equals_fresh T₁ T₂ F = one_meaning n c tree K.matrix stands.nodes K.table T₂ left.1.means F.1

    -- Such a build into three slices of the right lengths is not refused.
    pub fresh_not_refused : (T₁ T₂ : Table) → TableLong n c T₁.lows T₁.highs T₁.lengths → (r : Result (Unit {0}) Refusal)
        → Builds n c tree K.matrix T₁ T₂ r → r ≡ Ok tt
    fresh_not_refused T₁ T₂ L r F =
        (build_outcome n c tree K.matrix T₁ T₂ K.table r (Ok tt) F (passes_again T₁ L, left.1.means)).0

  -- This is so after each of the corrections, not at the end alone: of a list xs that others, ys, follow, the same holds in between.
  pub after-each : (xs ys : List Correction) (L : Kept) → After n c tree (xs ++ ys) (record { matrix = matrix; table = T }) L
      → (K : Kept) × After n c tree xs (record { matrix = matrix; table = T }) K × After n c tree ys K L
      × (K.matrix ≡ with_all n c xs matrix) × Builds n c tree K.matrix K.table K.table (Ok tt)
  after-each xs ys L h =
      let (K, first, others) = after_first n c tree xs ys (record { matrix = matrix; table = T }) L h in
      (K, first, others, (corrections_hold xs K first).0, still_built xs K first)

-- ---- what a table that has its meaning answers

-- a character's length, by entries that have their meaning, is its least length
length_is : (n c j : ℕ) (tree matrix : List ℕ) (ρ δ : ℕ) → Accepted n tree ρ δ → (lows highs lengths : List ℕ)
    → FirstMeans n (state_of matrix c j) tree lows highs lengths
    → LengthMeans ordered n (cells n (state_of matrix c j)) tree (length_here n c j ρ δ tree matrix lows highs lengths)
length_is n c j tree matrix ρ δ A lows highs lengths M =
    equation_16 ordered ordered_keeps_laws n (cells n (state_of matrix c j)) tree ρ δ A.is_tree (ranges n (state_of matrix c j) lows highs)
    (sizes n (state_of matrix c j) lengths) (meant_settled n (state_of matrix c j) tree ρ δ A.is_tree lows highs lengths M)

-- The kept tree length is the sum of the least lengths of the characters.
pub kept-length-means : (n c : ℕ) (tree matrix : List ℕ) (T : Table) (l : ℕ) → Means n c tree matrix T
    → HasLengths n c tree matrix T (Ok l) → totals.HasLength n c tree matrix l
kept-length-means n c tree matrix T l M H =
    record {
      lengths = length_in n c H.ρ H.δ tree matrix T.lows T.highs T.lengths;
      least = λ j p q. length_is n c j tree matrix H.ρ H.δ H.accepted _ _ _ (M.means j p q);
      total = H.total;
    }

-- The length of one kept character is its least length, and the final ranges are what final ranges mean.
pub kept-character-means : (n c j : ℕ) (tree matrix : List ℕ) (T : Table) (lows highs lows' highs' : List ℕ) (l : ℕ) → Means n c tree matrix T
    → AnswersKept n c j tree matrix T lows highs lows' highs' (Ok l)
    → LengthMeans ordered n (cells n (state_of matrix c j)) tree l × FinalsMean n (state_of matrix c j) tree lows' highs'
kept-character-means n c j tree matrix T lows highs lows' highs' l M H =
    let P = (passes_split (character_checks n c j tree matrix (kept_slices n c T lows highs)) (entries_of n j T ∷ []) H.passes).0 in
    let J = cells-pass n c j matrix (passed n c tree matrix (kept_slices n c T lows highs) (cell_checks n c j matrix) P).cleared in
    let F = M.means j J.some J.most in (
      rw H.length (length_is n c j tree matrix H.ρ H.δ H.accepted _ _ _ F),
      finals_mean (record { n = n; tree = tree; ρ = H.ρ; δ = H.δ; is_tree = H.accepted.is_tree }) (state_of matrix c j)
          (stretch (n - 2) T.lows j) (stretch (n - 2) T.highs j) (stretch (n - 2) T.lengths j)
          (meant_settled n (state_of matrix c j) tree H.ρ H.δ H.accepted.is_tree _ _ _ F) H.finals.above H.finals.second lows' highs'
          H.finals.fits H.finals.finals,
    )

-- ---- 10 is for tables that have lost their meaning

-- The kept tree length is never refused with 10 where the table has its meaning.
pub length_never_refused_10 : (n c : ℕ) (tree matrix : List ℕ) (T : Table) (r : Refusal) → Means n c tree matrix T
    → HasLengths n c tree matrix T (Err r) → number r ≢ 10
length_never_refused_10 n c tree matrix T r M H e =
    omega (
      arith,
      not_the_last n c tree matrix (table_slices n c T) (all_checks n c matrix) (omega arith, tt) (all_entries n c T.lows T.highs T.lengths)
          (λ P. clear-all n c tree matrix T (passes_stands n c tree matrix T T P M)) r H,
    )

-- Nor is one kept character.
pub character_never_refused_10 : (n c j : ℕ) (tree matrix : List ℕ) (T : Table) (lows highs lows' highs' : List ℕ) (r : Refusal)
    → Means n c tree matrix T → AnswersKept n c j tree matrix T lows highs lows' highs' (Err r) → number r ≢ 10
character_never_refused_10 n c j tree matrix T lows highs lows' highs' r M H e =
    omega (
      arith,
      not_the_last n c tree matrix (kept_slices n c T lows highs) (cell_checks n c j matrix) (omega arith, (omega arith, tt)) (entries_of n j T) clear r
          H.0,
    )
  where
    clear : Passes (character_checks n c j tree matrix (kept_slices n c T lows highs)) → Clear (entries_of n j T)
    clear P =
        let Q = passed n c tree matrix (kept_slices n c T lows highs) (cell_checks n c j matrix) P in
        let J = cells-pass n c j matrix Q.cleared in
        clear-character n c j tree matrix Q.ρ Q.δ Q.accepted (record { least = Q.limits.least; most = Q.limits.most; nodes = Q.nodes })
        J.small _ _ _ (M.means j J.some J.most)

-- And it is for all of them: where an entry is bad, the tree's length is not answered.
pub bad_has_no_length : (n c : ℕ) (tree matrix : List ℕ) (T : Table) (j v l : ℕ) → 1 ≤ j → j ≤ c → 1 ≤ v → v ≤ 2 * n - 2
    → BadIn n T.lows T.highs T.lengths j v → HasLengths n c tree matrix T (Ok l) → ⊥
bad_has_no_length n c tree matrix T j v l a b p q bad H = all_sound n c tree matrix T H.passes j a b v p q bad

-- Nor is a character that has a bad entry.
pub bad_has_no_finals : (n c j : ℕ) (tree matrix : List ℕ) (T : Table) (lows highs lows' highs' : List ℕ) (v l : ℕ) → 1 ≤ v → v ≤ 2 * n - 2
    → BadIn n T.lows T.highs T.lengths j v → AnswersKept n c j tree matrix T lows highs lows' highs' (Ok l) → ⊥
bad_has_no_finals n c j tree matrix T lows highs lows' highs' v l p q bad H = one-sound n c j tree matrix T lows highs H.passes v p q bad

-- ---- a table that was built is answered for

-- So a table that was built, and one that was corrected since (`still_built`), is never refused by the two calls that read it, if they are asked
-- for a character of the matrix and lent slices of the right lengths.
module _ (n c : ℕ) (tree matrix : List ℕ) (T₀ T : Table) (B : Builds n c tree matrix T₀ T (Ok tt)) where
  sound : Stands n c tree matrix T
  sound = stands n c tree matrix T₀ T B

  pub kept_length_answered : (r : Result ℕ Refusal) → HasLengths n c tree matrix T r → (l : ℕ) × (r ≡ Ok l) × totals.HasLength n c tree matrix l
  kept_length_answered (Ok l) H = (l, refl, kept-length-means n c tree matrix T l B.1 H)
  kept_length_answered (Err q) H = absurd (not_refused (length_checks n c tree matrix T) passes q H)
    where
      passes : Passes (length_checks n c tree matrix T)
      passes =
          passes_append (matrix_checks n c tree matrix (table_slices n c T)) (all_entries n c T.lows T.highs T.lengths ∷ [])
          (build-passes n c tree matrix T sound T B.1.long) (clear-all n c tree matrix T sound, tt)

  pub kept_character_answered : (j : ℕ) → 1 ≤ j → j ≤ c → (lows highs lows' highs' : List ℕ) → length lows ≡ n - 2 → length highs ≡ n - 2
      → (r : Result ℕ Refusal) → AnswersKept n c j tree matrix T lows highs lows' highs' r
      → (l : ℕ) × (r ≡ Ok l) × LengthMeans ordered n (cells n (state_of matrix c j)) tree l
      × FinalsMean n (state_of matrix c j) tree lows' highs'
  kept_character_answered j p q lows highs lows' highs' a b (Ok l) H =
      let (e, f) = kept-character-means n c j tree matrix T lows highs lows' highs' l B.1 H in
      (l, refl, e, f)
  kept_character_answered j p q lows highs lows' highs' a b (Err r) H =
      absurd (not_refused (kept_checks n c j tree matrix T lows highs) passes r H.0)
    where
      exact : Passes (slices 1 (lent_slices n c tree matrix (kept_slices n c T lows highs)))
      exact =
          let (s₁, (s₂, (s₃, (s₄, (s₅, z))))) = exact-slices n c tree matrix T sound T B.1.long in
          (s₁, (s₂, (s₃, (s₄, (s₅, (clear_slice 6 (length lows) (n - 2) a, (clear_slice 7 (length highs) (n - 2) b, tt)))))))

      passes : Passes (kept_checks n c j tree matrix T lows highs)
      passes =
          passes_append (character_checks n c j tree matrix (kept_slices n c T lows highs)) (entries_of n j T ∷ [])
          (character-passes n c tree matrix (kept_slices n c T lows highs) sound.limits None exact j refl sound.ρ sound.δ sound.accepted
          (record { some = p; most = q; small = none_above n c j matrix p q sound.small }))
          (clear-one n c tree matrix T sound j p q, tt)
