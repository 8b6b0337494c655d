-- What a character scores, what a tree scores, and what else is found of a character: every number and every entry has its meaning.
-- Assumes nothing.
use Rattle.std.specs.Prelude.{◌≡◌, List, ℕ, ◌-◌, ◌≤◌, length}
use Rattle.parsimony.specs.Lists.{sum, from}
use Rattle.parsimony.specs.Ordered as ordered
use Rattle.parsimony.specs.Ordered.{ordered}
use Rattle.parsimony.specs.Way.{length_of}
use Rattle.parsimony.specs.Meaning.{LengthMeans, Reconstructs}
use Rattle.parsimony.specs.Steps.{Chosen}
use Rattle.parsimony.specs.Matrix.{state_of}
use Rattle.parsimony.specs.Character.{cells, ranges, way_of, FirstMeans, FinalsMean}
use Rattle.parsimony.specs.Index as index
use Rattle.indices.specs.Indices.{index_of}
use Rattle.choices.specs.declared.Resolve.{Resolve}
use Rattle.choices.specs.declared.Resolve.TheVariants.{Acctran, Deltran}
use Rattle.scores.specs.declared.Scores.{Scores}

-- ---- scores

-- the indices are those of the length, m and g
pub record HasIndices (s : Scores) : Type 0 where
  pub ci : index_of s.ci ≡ index.ci s.m s.length
  pub ri : index_of s.ri ≡ index.ri s.m s.length s.g

-- the scores of a character whose taxa have these states, on a tree whose root is ρ
pub record CharacterScores (n : ℕ) (state : ℕ → ℕ) (tree : List ℕ) (ρ : ℕ) (s : Scores) : Type 0 where
  pub least : LengthMeans ordered n (cells n state) tree s.length
  pub m : s.m ≡ index.m n state
  pub g : s.g ≡ index.g n state ρ
  pub indices : HasIndices s

-- the scores of a tree: length, m and g are sums over the c characters
pub record TreeScores (n c : ℕ) (matrix tree : List ℕ) (ρ : ℕ) (s : Scores) : Type 0 where
  pub lengths : ℕ → ℕ
  pub least : (j : ℕ) → 1 ≤ j → j ≤ c → LengthMeans ordered n (cells n (state_of matrix c j)) tree (lengths j)
  pub total : s.length ≡ sum lengths (from 1 c)
  pub m : s.m ≡ sum (λ j. index.m n (state_of matrix c j)) (from 1 c)
  pub g : s.g ≡ sum (λ j. index.g n (state_of matrix c j) ρ) (from 1 c)
  pub indices : HasIndices s

-- ---- what is found of one character

-- the six slices that receive what is found
pub record Results : Type 0 where
  pub first_lows : List ℕ
  pub first_highs : List ℕ
  pub subtree : List ℕ
  pub final_lows : List ℕ
  pub final_highs : List ℕ
  pub states : List ℕ

-- each has an entry for each interior node, and no more
pub record AllLong (n : ℕ) (r : Results) : Type 0 where
  pub first_lows : length r.first_lows ≡ n - 2
  pub first_highs : length r.first_highs ≡ n - 2
  pub subtree : length r.subtree ≡ n - 2
  pub final_lows : length r.final_lows ≡ n - 2
  pub final_highs : length r.final_highs ≡ n - 2
  pub states : length r.states ≡ n - 2

-- ACCTRAN chooses from the first-pass ranges, DELTRAN from the final ranges
abbrev pub ranges_of : Resolve → (n : ℕ) (state : ℕ → ℕ) → Results → ℕ → ordered.Range
ranges_of Acctran n state r = ranges n state r.first_lows r.first_highs
ranges_of Deltran n state r = ranges n state r.final_lows r.final_highs

-- all that is found of one character: every entry has its meaning
pub record CharacterMeans (n : ℕ) (state : ℕ → ℕ) (tree : List ℕ) (ρ : ℕ) (resolve : Resolve) (r : Results) (s : Scores) : Type 0 where
  pub scores : CharacterScores n state tree ρ s
  pub long : AllLong n r
  pub first : FirstMeans n state tree r.first_lows r.first_highs r.subtree
  pub finals : FinalsMean n state tree r.final_lows r.final_highs
  pub way : Reconstructs ordered n (cells n state) tree (way_of n state r.states)
  pub as_long : length_of ordered tree (way_of n state r.states) ≡ s.length
  pub chosen : Chosen ordered n (cells n state) tree ρ (ranges_of resolve n state r) (way_of n state r.states)
