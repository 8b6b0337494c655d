-- What is read of one kept character: its final ranges and its length, by the paper's steps over its entries as they stand.
-- Assumes nothing.
use Rattle.std.specs.Prelude.{◌≡◌, List, [], ◌∷◌, ℕ, ◌-◌, ◌*◌, ◌≤◌, length, Result, Ok, Err}
use Rattle.parsimony.specs.Table.{Accepted}
use Rattle.parsimony.specs.Matrix.{state_of}
use Rattle.refusals.specs.declared.Refusal.{Refusal}
use Rattle.refusals.specs.Search.{Never}
use Rattle.refusals.specs.Checks.{Refuses, Passes}
use Rattle.trees.specs.Answers.{Sized}
use Rattle.descents.specs.Descents.{Finals}
use Rattle.entries.specs.Entries.{BadAt, character_entries, OneCharacter}
use Rattle.tallies.specs.Tallies.{length_here}

-- the final ranges and the length
pub record IsRead (n c j ρ δ : ℕ) (tree matrix lows highs lengths lows' highs' : List ℕ) (l : ℕ) : Type 0 where
  pub length : l ≡ length_here n c j ρ δ tree matrix lows highs lengths
  pub finals : Finals n c j ρ δ tree matrix lows highs lows' highs'

-- no entry is bad, and they are told; or 10 is, and nothing is changed
abbrev pub ReadsOr : (n c j ρ δ : ℕ) (tree matrix lows highs lengths lows₀ highs₀ lows' highs' : List ℕ) → Result ℕ Refusal → Type 0
ReadsOr n c j ρ δ tree matrix lows highs lengths lows₀ highs₀ lows' highs' (Ok l) =
    Passes (character_entries n lows highs lengths ∷ []) × IsRead n c j ρ δ tree matrix lows highs lengths lows' highs' l
ReadsOr n c j ρ δ tree matrix lows highs lengths lows₀ highs₀ lows' highs' (Err r) =
    Refuses (character_entries n lows highs lengths ∷ []) r × (lows' ≡ lows₀) × (highs' ≡ highs₀)

-- ---- what is given

-- an accepted tree, a character of the matrix without a state above 9999, its entries, and room for the final ranges
pub record Readable (n c j ρ δ : ℕ) (tree matrix lows highs lengths final_lows final_highs : List ℕ) : Type 0 where
  pub sized : Sized n tree
  pub accepted : Accepted n tree ρ δ
  pub character : (1 ≤ j) × (j ≤ c)
  pub rows : length matrix ≡ n * c
  pub small : (k : ℕ) → 1 ≤ k → k ≤ n → state_of matrix c j k ≤ 9999
  pub lists : OneCharacter n lows highs lengths
  pub low_room : length final_lows ≡ n - 2
  pub high_room : length final_highs ≡ n - 2

-- and no entry is bad
pub record Clean (n c j ρ δ : ℕ) (tree matrix lows highs lengths final_lows final_highs : List ℕ) : Type 0 where
  pub given : Readable n c j ρ δ tree matrix lows highs lengths final_lows final_highs
  pub sound : Never (BadAt n lows highs lengths) (2 * n - 2)
