-- From the checks to the steps: what a call of the kept table knows once none of its checks applies, and how it is refused.
-- Assumes nothing.
use mathlib.Core.Path.{◌≡◌, refl, subst}
use mathlib.Core.Logic.{◌⊎◌, inl, inr}
use mathlib.Core.List.{List, [], ◌∷◌, ◌++◌}
use Prim.Native.Nat.{ℕ, ◌-◌, ◌*◌, ◌≤◌}
use native.Mathlib.Decide.{dec_le}
use native.Mathlib.Nat.{mul-le-mul_right}
use native.Mathlib.Omega.{arith}
use lib.ListN.{length}
use Rattle.std.specs.Prelude.{Option, None, Result, Ok, Err}
use Rattle.parsimony.specs.Table.{Accepted}
use Rattle.parsimony.specs.Matrix.{state_of}
use Rattle.parsimony.proofs.Tables.Trees.{Tree, δ-most}
use Rattle.parsimony.proofs.Tables.Whole.{δ-inner}
use Rattle.refusals.specs.declared.Refusal.{Refusal}
use Rattle.refusals.specs.Checks.{Check, at, Clear, Refuses, Passes, Slice, slices}
use Rattle.refusals.proofs.Order.{clear_at, refuses_before, refuses_after, passes_append}
use Rattle.trees.specs.declared.Rooted.{Rooted}
use Rattle.trees.specs.Answers.{tree_faults}
use Rattle.trees.proofs.Unique.{accepted-passes}
use Rattle.limits.specs.Limits.{Outside, lent_slices, Told, InLimits}
use Rattle.limits.proofs.Lending.{exact-clear, not_outside}
use Rattle.checks.specs.Calls.{NoCharacter, character_cell, cell_checks, matrix_checks, AdmitsCharacter, AdmitsMatrix}
use Rattle.checks.proofs.Admitting.{clear-cell}
use Rattle.checks.proofs.Orders.{admissible, rest-passes, passes-call, matrix-passes, matrix-inside, sized}
use Rattle.cells.proofs.Reading.{states-small}
use Rattle.characters.proofs.Calling.{given-all}
use Rattle.tables.specs.Tables.{TableLong}
use Rattle.entries.specs.Entries.{all_entries}
use Rattle.table_corrections.specs.TableCorrections.{CorrectableIn, CorrectsIn}
use Rattle.tallies.specs.Tallies.{Totals, SumsOr}
use Rattle.histories.specs.Kept.{Table, three, table_slices, NoTaxon, correction_checks, correct_checks, Corrects, length_checks, HasLengths}
use Rattle.kept.specs.Steps.{AdmitsTable, Wanted}

-- ---- the slices

-- slices of the table that are not refused are exact
pub table-long : (n c : ℕ) (T : Table) (ss : List Slice) → Passes (slices 3 (table_slices n c T ++ ss))
    → TableLong n c T.lows T.highs T.lengths × Passes (slices 6 ss)
table-long n c T ss (a, (b, (d, r))) = (
  record {
    low_long = exact-clear 3 (length T.lows) ((n - 2) * c) a;
    high_long = exact-clear 4 (length T.highs) ((n - 2) * c) b;
    length_long = exact-clear 5 (length T.lengths) ((n - 2) * c) d;
  },
  r,
)

pub entries_small : (n c : ℕ) → n ≤ 256 → c ≤ 512 → (n - 2) * c ≤ 131072
entries_small n c p q = omega (arith, rows)
  where
    rows : (n - 2) * c ≤ 254 * c
    rows = mul-le-mul_right c (omega arith)

-- ---- lists of checks

-- a check is reached where those before it pass; and what is refused stays so, whatever follows
refuses_over : (cs ds es : List {1} Check) (r : Refusal) → (Refuses ds r → Refuses es r) → Refuses (cs ++ ds) r → Refuses (cs ++ es) r
refuses_over [] ds es r f h = f h
refuses_over (c ∷ cs) ds es r f (inl h) = inl h
refuses_over (c ∷ cs) ds es r f (inr (k, h)) = inr (k, refuses_over cs ds es r f h)

refuses_past : (cs ds es : List {1} Check) (r : Refusal) → Refuses es r → Passes (cs ++ ds) → Refuses (cs ++ es) r
refuses_past [] ds es r h p = h
refuses_past (c ∷ cs) ds es r h (k, p) = inr (k, refuses_past cs ds es r h p)

-- ---- calls about all characters

-- what is told of the slices, and then by the checks, is what is told of the call
pub table-admits : (n c : ℕ) (tree matrix : List ℕ) (a b d : ℕ) → InLimits n c → (told : Option ℕ)
    → Told 1 (lent_slices n c tree matrix (three n c a b d)) told → (r : Result Rooted Refusal) → AdmitsMatrix n c tree matrix told r
    → AdmitsTable n c tree matrix a b d r
table-admits n c tree matrix a b d L told t (Ok q) A = (L, subst (Told 1 (lent_slices n c tree matrix (three n c a b d))) A.0 t, (refl, A.1, A.2))
table-admits n c tree matrix a b d L told t (Err r) h =
    matrix-inside n c tree matrix (three n c a b d) L r (h (lent_slices n c tree matrix (three n c a b d)) t)

module _ (n c : ℕ) (tree matrix : List ℕ) (T : Table) (q : Rooted)
    (A : AdmitsTable n c tree matrix (length T.lows) (length T.highs) (length T.lengths) (Ok q)) where
  pub long-all : TableLong n c T.lows T.highs T.lengths
  long-all = (table-long n c T [] (rest-passes n c tree matrix (table_slices n c T) A.0 None A.1 refl)).0

  pub passes-all : Passes (matrix_checks n c tree matrix (table_slices n c T))
  passes-all = matrix-passes n c tree matrix (table_slices n c T) A.0 None A.1 refl q.root q.top A.2.1 A.2.2

  -- the root and its descendant, under other names
  module _ (ρ δ : ℕ) (e : ρ ≡ q.root) (d : δ ≡ q.top) where
    accepted' : Accepted n tree ρ δ
    accepted' = rw e (rw d A.2.1)

    pub totals : Totals n c ρ δ matrix T.lows T.highs T.lengths
    totals =
        record {
          lists = record { least = A.0.least; most = A.0.most; few = A.0.few; long = long-all };
          root = (accepted'.is_tree.some, accepted'.is_tree.taxon);
          inner = δ-inner whole;
          last = omega (arith, δ-most whole, (sized n c tree matrix (table_slices n c T) A.0 None A.1 refl).nodes);
          rows = ((admissible n c tree matrix (table_slices n c T) A.0 None A.1).exact refl).1;
          states = λ j a b. (given-all n c tree matrix (table_slices n c T) A.0 None A.1 q A.2).cells.small j ρ a b accepted'.is_tree.some
              accepted'.is_tree.taxon;
        }
      where
        whole : Tree
        whole = record { n = n; tree = tree; ρ = ρ; δ = δ; is_tree = accepted'.is_tree }

    pub has-lengths : (r : Result ℕ Refusal) → SumsOr n c ρ δ matrix T.lows T.highs T.lengths r → HasLengths n c tree matrix T r
    has-lengths (Ok l) (P, I) =
        record {
          passes = passes_append (matrix_checks n c tree matrix (table_slices n c T)) (all_entries n c T.lows T.highs T.lengths ∷ []) passes-all P;
          ρ = ρ;
          δ = δ;
          accepted = accepted';
          total = I tree;
        }
    has-lengths (Err r) h =
        refuses_after (matrix_checks n c tree matrix (table_slices n c T)) (all_entries n c T.lows T.highs T.lengths ∷ []) r passes-all h

pub length-refused : (n c : ℕ) (tree matrix : List ℕ) (T : Table) (r : Refusal) → Refuses (matrix_checks n c tree matrix (table_slices n c T)) r
    → Refuses (length_checks n c tree matrix T) r
length-refused n c tree matrix T r h =
    refuses_before (matrix_checks n c tree matrix (table_slices n c T)) (all_entries n c T.lows T.highs T.lengths ∷ []) r h

-- ---- a correction

module _ (n c t j s : ℕ) (tree matrix : List ℕ) (T : Table) (L : InLimits n c) (told : Option ℕ)
    (m : Told 1 (lent_slices n c tree matrix (table_slices n c T)) told) (w : ℕ) (W : Wanted n t j w) where
  pub correct_refused : (r : Refusal) → AdmitsCharacter n c w tree matrix told (Err r) → Refuses (correct_checks n c t j s tree matrix T) r
  correct_refused r h =
      inr (
        clear_at 1 0 (Outside n c) (not_outside n c L),
        refuses_over (slices 1 (lent_slices n c tree matrix (table_slices n c T))) (tree_faults n tree ++ cell_checks n c w matrix)
            (tree_faults n tree ++ correction_checks n c t j s tree matrix T) r
            (refuses_over (tree_faults n tree) (cell_checks n c w matrix) (correction_checks n c t j s tree matrix T) r
            (cells-refused (dec_le 1 t) (dec_le t n)))
            (h (lent_slices n c tree matrix (table_slices n c T)) m),
      )
    where
      -- there is no such taxon
      no_taxon : NoTaxon n t → Refuses (cell_checks n c w matrix) r → Refuses (correction_checks n c t j s tree matrix T) r
      no_taxon z (inl (e, (p, b))) = inl (e, (p, inl z))
      no_taxon z (inr (k, g)) = absurd (k 0 (refl, inl (omega (arith, W.none z))))

      -- or there is
      none : 1 ≤ t → t ≤ n → (NoCharacter c j → ⊥) → NoTaxon n t ⊎ NoCharacter c j → ⊥
      none p q f (inl (inl z)) = omega arith
      none p q f (inl (inr z)) = omega arith
      none p q f (inr z) = f z

      in_cells : w ≡ j → 1 ≤ t → t ≤ n → Refuses (cell_checks n c j matrix) r → Refuses (correction_checks n c t j s tree matrix T) r
      in_cells e p q (inl (d, (z, b))) = inl (d, (z, inr b))
      in_cells e p q (inr (k, inl g)) = inr (clear_at 8 0 (NoTaxon n t ⊎ NoCharacter c j) (none p q (λ b. k 0 (refl, b))), inl g)
      in_cells e p q (inr (k, inr (z, g))) = absurd g

      cells-refused : Dec (1 ≤ t) → Dec (t ≤ n) → Refuses (cell_checks n c w matrix) r → Refuses (correction_checks n c t j s tree matrix T) r
      cells-refused (no p) d h = no_taxon (inl (omega arith)) h
      cells-refused (yes p) (no q) h = no_taxon (inr (omega arith)) h
      cells-refused (yes p) (yes q) h =
          in_cells (W.same p q) p q (subst (λ x. Refuses (cell_checks n c x matrix) r) (W.same p q) h)

  module _ (q : Rooted) (A : AdmitsCharacter n c w tree matrix told (Ok q)) where
    -- a character is looked at, so there is the taxon
    taxon : (1 ≤ t) × (t ≤ n)
    taxon = go (dec_le 1 t) (dec_le t n)
      where
        go : Dec (1 ≤ t) → Dec (t ≤ n) → (1 ≤ t) × (t ≤ n)
        go (yes p) (yes l) = (p, l)
        go (no p) d = absurd (omega (arith, W.none (inl (omega arith)), A.2.some))
        go (yes p) (no l) = absurd (omega (arith, W.none (inr (omega arith)), A.2.some))

    this : w ≡ j
    this = W.same taxon.0 taxon.1

    character : (1 ≤ j) × (j ≤ c)
    character = (omega (arith, this, A.2.some), omega (arith, this, A.2.most))

    pub correctable_in : CorrectableIn n c t j tree matrix T.lows T.highs T.lengths
    correctable_in =
        record {
          cell =
              record {
                ρ = q.root;
                δ = q.top;
                sized = sized n c tree matrix (table_slices n c T) L told m A.0;
                accepted = A.1;
                taxon = taxon;
                character = character;
                few = L.few;
                rows = ((admissible n c tree matrix (table_slices n c T) L told m).exact A.0).1;
                small = subst (λ x. (k : ℕ) → 1 ≤ k → k ≤ n → state_of matrix c x k ≤ 9999) this (states-small n c w matrix A.2.small);
              };
          long = (table-long n c T [] (rest-passes n c tree matrix (table_slices n c T) L told m A.0)).0;
        }

    -- a check behind those that passed
    late : (es : List {1} Check) (r : Refusal) → Refuses es r
        → Refuses (at 1 0 (Outside n c) ∷ slices 1 (lent_slices n c tree matrix (table_slices n c T)) ++ (tree_faults n tree ++ es)) r
    late es r h =
        let (k, P) = passes-call n c tree matrix (table_slices n c T) L told m [] A.0 q.root q.top A.1 tt in
        inr (
          k,
          refuses_past (slices 1 (lent_slices n c tree matrix (table_slices n c T))) (tree_faults n tree ++ []) (tree_faults n tree ++ es) r
              (refuses_after (tree_faults n tree) es r (accepted-passes n tree q.root q.top A.1) h) P,
        )

    -- 8 and 7 do not apply
    clear_8 : Clear (at 8 0 (NoTaxon n t ⊎ NoCharacter c j))
    clear_8 = clear_at 8 0 (NoTaxon n t ⊎ NoCharacter c j) none
      where
        none : NoTaxon n t ⊎ NoCharacter c j → ⊥
        none (inl (inl z)) = omega (arith, taxon)
        none (inl (inr z)) = omega (arith, taxon)
        none (inr (inl z)) = omega (arith, character)
        none (inr (inr z)) = omega (arith, character)

    clear_7 : Clear (character_cell n c j matrix)
    clear_7 = subst (λ x. Clear (character_cell n c x matrix)) this (clear-cell n c w matrix A.2.small)

    same-table : (T' : Table) → T'.lows ≡ T.lows → T'.highs ≡ T.highs → T'.lengths ≡ T.lengths → T' ≡ T
    same-table T' = made
      where
        made : {x y z x' y' z' : List ℕ} → x' ≡ x → y' ≡ y → z' ≡ z
            → ◌≡◌ {A = Table} (record { lows = x'; highs = y'; lengths = z' }) (record { lows = x; highs = y; lengths = z })
        made a b d = cc

    pub corrects : (matrix' : List ℕ) (T' : Table) (r : Result ℕ Refusal)
        → CorrectsIn n c t j s tree matrix T.lows T.highs T.lengths matrix' T'.lows T'.highs T'.lengths r
        → Corrects n c t j s tree matrix T matrix' T' r
    corrects matrix' T' (Ok k) C =
        record {
          passes = passes-call n c tree matrix (table_slices n c T) L told m (correction_checks n c t j s tree matrix T) A.0 q.root q.top A.1
              (clear_8, (clear_7, C.here.passes));
          cell = C.here.mended.cell;
          count = C.here.count;
          long = C.long;
          others = C.others;
          path = C.here.mended.path;
        }
    corrects matrix' T' (Err r) (h, e, a, b, d) =
        (late (correction_checks n c t j s tree matrix T) r (inr (clear_8, inr (clear_7, h))), e, same-table T' a b d)
