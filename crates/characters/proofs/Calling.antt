-- From the checks to the scores: what a call knows once none of its checks applies.
-- Assumes nothing.
use mathlib.Core.List.{List, []}
use Prim.Native.Nat.{ℕ, ◌-◌, ◌*◌}
use native.Mathlib.Omega.{arith}
use lib.ListN.{length}
use Rattle.std.specs.Prelude.{Option, Ok, Err}
use Rattle.parsimony.specs.Matrix.{state_of}
use Rattle.refusals.specs.declared.Refusal.{Refusal}
use Rattle.refusals.specs.Search.{Never}
use Rattle.refusals.specs.Checks.{Refuses, Passes, slices, Slice}
use Rattle.cells.specs.Above.{AboveAt}
use Rattle.cells.proofs.Reading.{none_above, states-small}
use Rattle.extents.specs.Extents.{Small}
use Rattle.totals.specs.Totals.{Given}
use Rattle.trees.specs.declared.Rooted.{Rooted}
use Rattle.limits.specs.Limits.{lent_slices, Told, InLimits}
use Rattle.limits.proofs.Lending.{exact-clear}
use Rattle.checks.specs.Calls.{character_checks, matrix_checks, AdmitsCharacter, AdmitsMatrix}
use Rattle.checks.proofs.Orders.{admissible, rest-passes, character-passes, matrix-passes, character-inside, matrix-inside, sized}
use Rattle.choices.specs.declared.Resolve.{Resolve}
use Rattle.scores.specs.declared.Scores.{Scores}
use Rattle.scores.specs.Scores.{TreeScores, Results, AllLong, CharacterMeans}
use Rattle.character_scores.specs.CharacterScores.{GivenOne}
use Rattle.characters.specs.Afresh.{result_slices, OneScored, AllScored}

-- slices that are not refused are exact
results-long : (n : ℕ) (r : Results) → Passes (slices 3 (result_slices n r)) → AllLong n r
results-long n r (a, (b, (d, (e, (f, (g, z)))))) =
    record {
      first_lows = exact-clear 3 (length r.first_lows) (n - 2) a;
      first_highs = exact-clear 4 (length r.first_highs) (n - 2) b;
      subtree = exact-clear 5 (length r.subtree) (n - 2) d;
      final_lows = exact-clear 6 (length r.final_lows) (n - 2) e;
      final_highs = exact-clear 7 (length r.final_highs) (n - 2) f;
      states = exact-clear 8 (length r.states) (n - 2) g;
    }

module _ (n c j : ℕ) (tree matrix : List ℕ) (before : Results) (L : InLimits n c) (told : Option ℕ)
    (t : Told 1 (lent_slices n c tree matrix (result_slices n before)) told) where
  pub one-refused : (r : Refusal) → AdmitsCharacter n c j tree matrix told (Err r)
      → Refuses (character_checks n c j tree matrix (result_slices n before)) r
  one-refused r h = character-inside n c tree matrix (result_slices n before) j L r (h (lent_slices n c tree matrix (result_slices n before)) t)

  module _ (w : Rooted) (A : AdmitsCharacter n c j tree matrix told (Ok w)) where
    pub given-one : GivenOne n c j w.root w.top tree matrix before
    given-one =
        record {
          sized = sized n c tree matrix (result_slices n before) L told t A.0;
          accepted = A.1;
          some = A.2.some;
          most = A.2.most;
          rows = ((admissible n c tree matrix (result_slices n before) L told t).exact A.0).1;
          small = states-small n c j matrix A.2.small;
          long = results-long n before (rest-passes n c tree matrix (result_slices n before) L told t A.0);
        }

    pub one-scored : (resolve : Resolve) (after : Results) (s : Scores) → CharacterMeans n (state_of matrix c j) tree w.root resolve after s
        → OneScored n c j resolve tree matrix before after s
    one-scored resolve after s M =
        record {
          passes = character-passes n c tree matrix (result_slices n before) L told t j A.0 w.root w.top A.1 A.2;
          ρ = w.root;
          δ = w.top;
          accepted = A.1;
          means = M;
        }

-- ---- all characters

-- no state of any character is above 9999
all_small : (n : ℕ) (matrix : List ℕ) (c : ℕ) → Never (AboveAt matrix) (n * c) → Small n c matrix
all_small n matrix c N j k a b = states-small n c j matrix (none_above n c j matrix a b N) k

-- an accepted tree and its matrix, whatever other slices there are
pub given-all : (n c : ℕ) (tree matrix : List ℕ) (rest : List Slice) (L : InLimits n c) (told : Option ℕ)
    → Told 1 (lent_slices n c tree matrix rest) told → (w : Rooted) → AdmitsMatrix n c tree matrix told (Ok w) → Given n c w.root w.top tree matrix
given-all n c tree matrix rest L told t w A =
    record {
      sized = sized n c tree matrix rest L told t A.0;
      accepted = A.1;
      cells =
          record {
            least = omega (arith, L.least);
            most = L.most;
            few = L.few;
            rows = ((admissible n c tree matrix rest L told t).exact A.0).1;
            small = all_small n matrix c A.2;
          };
    }

module _ (n c : ℕ) (tree matrix : List ℕ) (L : InLimits n c) (told : Option ℕ) (t : Told 1 (lent_slices n c tree matrix []) told) where
  pub all-refused : (r : Refusal) → AdmitsMatrix n c tree matrix told (Err r) → Refuses (matrix_checks n c tree matrix []) r
  all-refused r h = matrix-inside n c tree matrix [] L r (h (lent_slices n c tree matrix []) t)

  module _ (w : Rooted) (A : AdmitsMatrix n c tree matrix told (Ok w)) where
    pub all-scored : (s : Scores) → TreeScores n c matrix tree w.root s → AllScored n c tree matrix s
    all-scored s M =
        record {
          passes = matrix-passes n c tree matrix [] L told t A.0 w.root w.top A.1 A.2;
          ρ = w.root;
          δ = w.top;
          accepted = A.1;
          means = M;
        }
