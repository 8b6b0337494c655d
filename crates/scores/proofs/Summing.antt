-- What the sums over all characters leave has its meaning.
-- Assumes nothing.
use mathlib.Core.Path.{◌≡◌, ◌∙◌}
use mathlib.Core.List.{List, [], ◌∷◌}
use Prim.Native.Nat.{ℕ, ◌≤◌}
use native.Mathlib.Omega.{arith}
use Rattle.parsimony.specs.Lists.{sum, from}
use Rattle.parsimony.specs.Matrix.{state_of}
use Rattle.parsimony.specs.Index as index
use Rattle.indices.proofs.Most.{m-most}
use Rattle.totals.specs.Totals.{HasLength}
use Rattle.scores.specs.declared.Scores.{Scores}
use Rattle.scores.specs.Scores.{TreeScores}
use Rattle.scores.specs.Steps.{HasScores}

-- the scores of the tree, from the three sums
pub tree-scores : (n c ρ : ℕ) (tree matrix : List ℕ) (l a b : ℕ) → HasLength n c tree matrix l
    → a ≡ sum (λ j. index.m n (state_of matrix c j)) (from 1 c) → b ≡ sum (λ j. index.g n (state_of matrix c j) ρ) (from 1 c)
    → (s : Scores) → HasScores l a b s → TreeScores n c matrix tree ρ s
tree-scores n c ρ tree matrix l a b H ea eb s S =
    record {
      lengths = H.lengths;
      least = H.least;
      total = S.length ∙ H.total;
      m = S.m ∙ ea;
      g = S.g ∙ eb;
      indices = S.indices;
    }

-- no sum of m's is above that of the g's
pub sums_ordered : (n c ρ : ℕ) (matrix : List ℕ)
    → sum (λ j. index.m n (state_of matrix c j)) (from 1 c) ≤ sum (λ j. index.g n (state_of matrix c j) ρ) (from 1 c)
sums_ordered n c ρ matrix = go (from 1 c)
  where
    go : (js : List ℕ) → sum (λ j. index.m n (state_of matrix c j)) js ≤ sum (λ j. index.g n (state_of matrix c j) ρ) js
    go [] = omega arith
    go (j ∷ js) = omega (arith, m-most n (state_of matrix c j) ρ, go js)
