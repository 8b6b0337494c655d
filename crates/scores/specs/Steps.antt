-- The scores from three numbers.
-- Assumes nothing.
use Rattle.std.specs.Prelude.{◌≡◌, ℕ}
use Rattle.scores.specs.declared.Scores.{Scores}
use Rattle.scores.specs.Scores.{HasIndices}

-- the scores from three numbers: a length, m and g
pub record HasScores (l a b : ℕ) (s : Scores) : Type 0 where
  pub length : s.length ≡ l
  pub m : s.m ≡ a
  pub g : s.g ≡ b
  pub indices : HasIndices s
