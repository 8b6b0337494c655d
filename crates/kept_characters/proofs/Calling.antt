-- From the checks to the steps: what the call about one kept character knows once none of its checks applies, and how it is refused.
-- Assumes nothing.
use mathlib.Core.Path.{◌≡◌, sym, subst}
use mathlib.Core.List.{List, [], ◌∷◌}
use Prim.Native.Nat.{ℕ, ◌+◌, ◌-◌, ◌*◌, ◌≤◌, ◌<◌}
use native.Mathlib.Omega.{arith}
use lib.ListN.{length, take, drop}
use Rattle.std.specs.Prelude.{Option, Result, Ok, Err}
use Rattle.refusals.specs.declared.Refusal.{Refusal}
use Rattle.refusals.specs.Checks.{Check, Refuses, Passes, slices}
use Rattle.refusals.proofs.Order.{refuses_before, refuses_after, passes_append}
use Rattle.limits.specs.Limits.{node_slice, lent_slices, Told, InLimits}
use Rattle.limits.proofs.Lending.{exact-clear}
use Rattle.checks.specs.Calls.{character_checks, AdmitsCharacter}
use Rattle.checks.proofs.Orders.{admissible, rest-passes, character-passes, character-inside, sized}
use Rattle.cells.proofs.Reading.{states-small}
use Rattle.tables.specs.Tables.{stretch, TableLong}
use Rattle.entries.specs.Entries.{AllCharacters, character_entries}
use Rattle.entries.proofs.Searching as searching
use Rattle.readings.specs.Readings.{Readable, ReadsOr}
use Rattle.histories.specs.Kept.{Table, kept_slices, kept_checks, AnswersKept}
use Rattle.kept.proofs.Calling.{table-long}

module _ (n c j : ℕ) (tree matrix : List ℕ) (T : Table) (lows highs : List ℕ) (L : InLimits n c) (told : Option ℕ)
    (m : Told 1 (lent_slices n c tree matrix (kept_slices n c T lows highs)) told) where
  abbrev entry : Check
  entry = character_entries n (stretch (n - 2) T.lows j) (stretch (n - 2) T.highs j) (stretch (n - 2) T.lengths j)

  pub kept-refused : (r : Refusal) → AdmitsCharacter n c j tree matrix told (Err r) → Refuses (kept_checks n c j tree matrix T lows highs) r
  kept-refused r h =
      refuses_before (character_checks n c j tree matrix (kept_slices n c T lows highs)) (entry ∷ []) r
      (character-inside n c tree matrix (kept_slices n c T lows highs) j L r (h (lent_slices n c tree matrix (kept_slices n c T lows highs)) m))

  module _ (ρ δ : ℕ) (A : AdmitsCharacter n c j tree matrix told (Ok (record { root = ρ; top = δ }))) where
    longs : TableLong n c T.lows T.highs T.lengths × Passes (slices 6 (node_slice n (length lows) ∷ node_slice n (length highs) ∷ []))
    longs = table-long n c T (node_slice n (length lows) ∷ node_slice n (length highs) ∷ [])
        (rest-passes n c tree matrix (kept_slices n c T lows highs) L told m A.0)

    all : AllCharacters n c T.lows T.highs T.lengths
    all = record { least = L.least; most = L.most; few = L.few; long = longs.0 }

    last : j - 1 < c
    last = omega (arith, A.2.some, A.2.most)

    -- where the stretch begins
    abbrev start : ℕ
    start = (j - 1) * (n - 2)

    pub kept-ends : (start + (n - 2) ≤ length T.lows) × (start + (n - 2) ≤ length T.highs) × (start + (n - 2) ≤ length T.lengths)
    kept-ends = searching.ends_in n c T.lows T.highs T.lengths all (j - 1) last

    pub kept_small : start + (n - 2) ≤ 131072
    kept_small = searching.places_small n c T.lows T.highs T.lengths all (j - 1) last

    -- the stretch, by its two ends; q is how far they are apart
    pub readable : (q : ℕ) → q ≡ n - 2
        → Readable n c j ρ δ tree matrix (take q (drop start T.lows)) (take q (drop start T.highs)) (take q (drop start T.lengths)) lows highs
    readable q e =
        let (low, (high, z)) = longs.1 in
        record {
          sized = sized n c tree matrix (kept_slices n c T lows highs) L told m A.0;
          accepted = A.1;
          character = (A.2.some, A.2.most);
          rows = ((admissible n c tree matrix (kept_slices n c T lows highs) L told m).exact A.0).1;
          small = states-small n c j matrix A.2.small;
          lists = searching.one-character n c T.lows T.highs T.lengths all (j - 1) last q e;
          low_room = exact-clear 6 (length lows) (n - 2) low;
          high_room = exact-clear 7 (length highs) (n - 2) high;
        }

    passes_front : Passes (character_checks n c j tree matrix (kept_slices n c T lows highs))
    passes_front = character-passes n c tree matrix (kept_slices n c T lows highs) L told m j A.0 ρ δ A.1 A.2

    answers-here : (lows' highs' : List ℕ) (r : Result ℕ Refusal)
        → ReadsOr n c j ρ δ tree matrix (stretch (n - 2) T.lows j) (stretch (n - 2) T.highs j) (stretch (n - 2) T.lengths j)
        lows highs lows' highs' r → AnswersKept n c j tree matrix T lows highs lows' highs' r
    answers-here lows' highs' (Ok l) (P, I) =
        record {
          passes = passes_append (character_checks n c j tree matrix (kept_slices n c T lows highs)) (entry ∷ []) passes_front P;
          ρ = ρ;
          δ = δ;
          accepted = A.1;
          length = I.length;
          finals = I.finals;
        }
    answers-here lows' highs' (Err r) (h, a, b) =
        (refuses_after (character_checks n c j tree matrix (kept_slices n c T lows highs)) (entry ∷ []) r passes_front h, a, b)

    pub answers : (q : ℕ) → q ≡ n - 2 → (lows' highs' : List ℕ) (r : Result ℕ Refusal)
        → ReadsOr n c j ρ δ tree matrix (take q (drop start T.lows)) (take q (drop start T.highs)) (take q (drop start T.lengths))
        lows highs lows' highs' r → AnswersKept n c j tree matrix T lows highs lows' highs' r
    answers q e lows' highs' r =
        subst (λ x. ReadsOr n c j ρ δ tree matrix (take x (drop start T.lows)) (take x (drop start T.highs)) (take x (drop start T.lengths))
        lows highs lows' highs' r → AnswersKept n c j tree matrix T lows highs lows' highs' r)
        (sym e) (answers-here lows' highs' r)
