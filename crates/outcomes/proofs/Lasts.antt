-- The result slice is the last of the slices: what the checks are with it, from what they are without it; and the outcomes that come of it.
-- Assumes nothing.
use mathlib.Core.Path.{◌≡◌, refl, subst}
use mathlib.Core.Logic.{◌≢◌, inl, inr}
use mathlib.Core.List.{List, [], ◌∷◌, ◌++◌}
use Prim.Native.Nat.{ℕ, suc, ◌+◌, ◌<◌}
use native.Mathlib.Omega.{arith}
use lib.ListN.{length}
use Rattle.std.specs.Prelude.{Option, Some, None, Result, Ok, Err}
use Rattle.refusals.specs.declared.Reason.TheVariants.{Length}
use Rattle.refusals.specs.declared.Refusal.{Refusal}
use Rattle.refusals.specs.Checks.{Check, Refuses, Passes, Slice, slices}
use Rattle.refusals.proofs.Order.{refuses_before, clear_slice}
use Rattle.trees.specs.Answers.{tree_faults}
use Rattle.choices.specs.declared.Resolve.{Resolve}
use Rattle.limits.specs.Limits.{Told, lent_slices}
use Rattle.checks.specs.Calls.{cell_checks, all_checks, character_checks, matrix_checks}
use Rattle.scores.specs.declared.Scores.{Scores}
use Rattle.scores.specs.Scores.{Results}
use Rattle.characters.specs.Afresh.{result_slices, OneAnswers, AllAnswers}
use Rattle.answers.specs.Coded.{limit, code, Gives, resolve_of}
use Rattle.outcomes.specs.Outcomes.{seven_slice, last_wrong, size_checks, lent, TreeAnswers, TreeOutcome, CharacterAnswers, CharacterOutcome}

-- ---- the last is wrong

module _ (t : Slice) (wrong : t.has ≢ t.asked) where
  -- the others are exact
  last-wrong : (i : ℕ) (ss : List Slice) (p : ℕ) → p ≡ i + length ss → Passes (slices i ss)
      → Refuses (slices i (ss ++ (t ∷ []))) (record { reason = Length; place = p })
  last-wrong i [] p e P = inl (refl, (omega (arith, e), wrong))
  last-wrong i (s ∷ ss) p e (n, P) = inr (n, last-wrong (suc i) ss p (omega (arith, e)) P)

  -- one before it is wrong
  earlier_wrong : (i : ℕ) (ss : List Slice) (q : Refusal) → Refuses (slices i ss) q → Refuses (slices i (ss ++ (t ∷ []))) q
  earlier_wrong i [] q x' = elim x' [ ]
  earlier_wrong i (s ∷ ss) q (inl h) = inl h
  earlier_wrong i (s ∷ ss) q (inr (n, h)) = inr (n, earlier_wrong (suc i) ss q h)

  pub told-last : (ss : List Slice) (told : Option ℕ) (p : ℕ) → p ≡ 1 + length ss → Told 1 ss told
      → Refuses (slices 1 (ss ++ (t ∷ []))) (last_wrong told p)
  told-last ss None p e h = last-wrong 1 ss p e h
  told-last ss (Some k) p e h = earlier_wrong 1 ss (record { reason = Length; place = k }) h

-- ---- the last is exact

module _ (t : Slice) (exact : t.has ≡ t.asked) (cs : List {1} Check) where
  pub refuses_still : (i : ℕ) (ss : List Slice) (q : Refusal) → Refuses (slices i ss ++ cs) q → Refuses (slices i (ss ++ (t ∷ [])) ++ cs) q
  refuses_still i [] q h = inr (clear_slice i t.has t.asked exact, h)
  refuses_still i (s ∷ ss) q (inl h) = inl h
  refuses_still i (s ∷ ss) q (inr (n, h)) = inr (n, refuses_still (suc i) ss q h)

  pub passes_still : (i : ℕ) (ss : List Slice) → Passes (slices i ss ++ cs) → Passes (slices i (ss ++ (t ∷ [])) ++ cs)
  passes_still i [] P = (clear_slice i t.has t.asked exact, P)
  passes_still i (s ∷ ss) (n, P) = (n, passes_still (suc i) ss P)

-- ---- an answer of the call behind, with an exact result slice

module _ (n c : ℕ) (tree matrix result : List ℕ) (exact : length result ≡ 7) where
  pub tree-passes : Passes (matrix_checks n c tree matrix []) → Passes (matrix_checks n c tree matrix (seven_slice (length result) ∷ []))
  tree-passes (k, P) =
      (k, passes_still (seven_slice (length result)) exact (tree_faults n tree ++ all_checks n c matrix) 1 (lent_slices n c tree matrix []) P)

  pub tree-answers : (a : Result Scores Refusal) → AllAnswers n c tree matrix a → TreeAnswers n c tree matrix result a
  tree-answers (Ok s) h = (exact, h)
  tree-answers (Err q) (inl h) = inl h
  tree-answers (Err q) (inr (k, h)) =
      inr (k, refuses_still (seven_slice (length result)) exact (tree_faults n tree ++ all_checks n c matrix) 1 (lent_slices n c tree matrix []) q h)

  module _ (j : ℕ) (resolve : Resolve) (before : Results) where
    pub character-passes : Passes (character_checks n c j tree matrix (result_slices n before))
        → Passes (character_checks n c j tree matrix (result_slices n before ++ (seven_slice (length result) ∷ [])))
    character-passes (k, P) = (
      k,
      passes_still (seven_slice (length result)) exact (tree_faults n tree ++ cell_checks n c j matrix) 1
          (lent_slices n c tree matrix (result_slices n before)) P,
    )

    pub character-answers : (after : Results) (a : Result Scores Refusal) → OneAnswers n c j resolve tree matrix before after a
        → CharacterAnswers n c j resolve tree matrix before after result a
    character-answers after (Ok s) h = (exact, h)
    character-answers after (Err q) (inl h, e) = (inl h, e)
    character-answers after (Err q) (inr (k, h), e) = (
      inr (
        k,
        refuses_still (seven_slice (length result)) exact (tree_faults n tree ++ cell_checks n c j matrix) 1
            (lent_slices n c tree matrix (result_slices n before)) q h,
      ),
      e,
    )

-- ---- outcomes

-- refused by its sizes, the result slice among them
module _ (n c : ℕ) (tree matrix result : List ℕ) (q : Refusal) (r : ℕ) (coded : (r ≡ code q) × (q.place < limit)) where
  refused : Gives (Err q) result result r
  refused = record { fits = coded.1; value = coded.0; results = refl }

  pub tree-refusal : Refuses (size_checks n c (lent n c (length tree) (length matrix) (seven_slice (length result) ∷ []))) q
      → TreeOutcome n c tree matrix result result r
  tree-refusal h =
      record {
        answer = Err q;
        answers =
            refuses_before (size_checks n c (lent n c (length tree) (length matrix) (seven_slice (length result) ∷ [])))
            (tree_faults n tree ++ all_checks n c matrix) q h;
        gives = refused;
      }

  pub character-refusal : (j resolve : ℕ) (before : Results)
      → Refuses (size_checks n c (lent n c (length tree) (length matrix) (result_slices n before ++ (seven_slice (length result) ∷ [])))) q
      → CharacterOutcome n c j resolve tree matrix before before result result r
  character-refusal j resolve before h =
      record {
        answer = Err q;
        answers = (
          refuses_before (size_checks n c (lent n c (length tree) (length matrix) (result_slices n before ++ (seven_slice (length result) ∷ []))))
              (tree_faults n tree ++ cell_checks n c j matrix) q h,
          refl,
        );
        gives = refused;
      }

-- what the call behind answers, with an exact result slice
module _ (n c : ℕ) (tree matrix result : List ℕ) (exact : length result ≡ 7) (a : Result Scores Refusal) (after : List ℕ) (r : ℕ)
    (gives : Gives a result after r) where
  pub tree-given : AllAnswers n c tree matrix a → TreeOutcome n c tree matrix result after r
  tree-given h = record { answer = a; answers = tree-answers n c tree matrix result exact a h; gives = gives }

  pub character-given : (j number : ℕ) (resolve : Resolve) → resolve ≡ resolve_of number → (before found : Results)
      → OneAnswers n c j resolve tree matrix before found a → CharacterOutcome n c j number tree matrix before found result after r
  character-given j number resolve e before found h =
      record {
        answer = a;
        answers =
            character-answers n c tree matrix result exact j (resolve_of number) before found a
            (subst (λ k. OneAnswers n c j k tree matrix before found a) e h);
        gives = gives;
      }
