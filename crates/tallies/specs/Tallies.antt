-- Lengths from kept entries as they stand: the paper's step at the root, over the entries of a character.
-- Assumes nothing.
use Rattle.std.specs.Prelude.{◌≡◌, List, [], ◌∷◌, ℕ, ◌-◌, ◌*◌, ◌≤◌, ◌<◌, length, Result, Ok, Err}
use Rattle.parsimony.specs.Lists.{sum, from}
use Rattle.parsimony.specs.Ordered.{ordered}
use Rattle.parsimony.specs.Steps.{length_by}
use Rattle.parsimony.specs.Matrix.{state_of}
use Rattle.parsimony.specs.Character.{cells, ranges, sizes}
use Rattle.refusals.specs.declared.Refusal.{Refusal}
use Rattle.refusals.specs.Search.{Never}
use Rattle.refusals.specs.Checks.{Refuses, Passes}
use Rattle.tables.specs.Tables.{stretch}
use Rattle.entries.specs.Entries.{BadAt, BadIn, all_entries, OneCharacter, AllCharacters}

-- the length of the character j, by three lists with an entry for each interior node
abbrev pub length_here : (n c j ρ δ : ℕ) (tree matrix lows highs lengths : List ℕ) → ℕ
length_here n c j ρ δ tree matrix lows highs lengths =
    length_by ordered n (cells n (state_of matrix c j)) tree ρ δ (ranges n (state_of matrix c j) lows highs) (sizes n (state_of matrix c j) lengths)

-- and by its stretch of a kept table
abbrev pub length_in : (n c ρ δ : ℕ) (tree matrix lows highs lengths : List ℕ) (j : ℕ) → ℕ
length_in n c ρ δ tree matrix lows highs lengths j =
    length_here n c j ρ δ tree matrix (stretch (n - 2) lows j) (stretch (n - 2) highs j) (stretch (n - 2) lengths j)

-- r is that length (it asks for the root and its descendant, and for nothing else of the tree)
abbrev pub IsLength : (n c j ρ δ : ℕ) (matrix lows highs lengths : List ℕ) (r : ℕ) → Type 0
IsLength n c j ρ δ matrix lows highs lengths r = (tree : List ℕ) → r ≡ length_here n c j ρ δ tree matrix lows highs lengths

-- r is the sum over all characters
abbrev pub IsTotal : (n c ρ δ : ℕ) (matrix lows highs lengths : List ℕ) (r : ℕ) → Type 0
IsTotal n c ρ δ matrix lows highs lengths r = (tree : List ℕ) → r ≡ sum (length_in n c ρ δ tree matrix lows highs lengths) (from 1 c)

-- no entry is bad, and the sum is told; or 10 is
abbrev pub SumsOr : (n c ρ δ : ℕ) (matrix lows highs lengths : List ℕ) → Result ℕ Refusal → Type 0
SumsOr n c ρ δ matrix lows highs lengths (Ok l) =
    Passes (all_entries n c lows highs lengths ∷ []) × IsTotal n c ρ δ matrix lows highs lengths l
SumsOr n c ρ δ matrix lows highs lengths (Err r) = Refuses (all_entries n c lows highs lengths ∷ []) r

-- ---- the steps

-- the root is a taxon with a state up to 9999, and its descendant an interior node with an entry that a pass can leave
pub record HasTop (n c j ρ δ : ℕ) (matrix lows highs lengths : List ℕ) : Type 0 where
  pub lists : OneCharacter n lows highs lengths
  pub root : (1 ≤ ρ) × (ρ ≤ n)
  pub inner : n < δ
  pub last : δ ≤ 2 * n - 2
  pub character : (1 ≤ j) × (j ≤ c)
  pub rows : length matrix ≡ n * c
  pub state : state_of matrix c j ρ ≤ 9999
  pub sound : BadAt n lows highs lengths δ → ⊥

-- the root, its descendant, and the entries of all characters
pub record Totals (n c ρ δ : ℕ) (matrix lows highs lengths : List ℕ) : Type 0 where
  pub lists : AllCharacters n c lows highs lengths
  pub root : (1 ≤ ρ) × (ρ ≤ n)
  pub inner : n < δ
  pub last : δ ≤ 2 * n - 2
  pub rows : length matrix ≡ n * c
  pub states : (j : ℕ) → 1 ≤ j → j ≤ c → state_of matrix c j ρ ≤ 9999

-- none of which is bad
pub record AllSound (n c ρ δ : ℕ) (matrix lows highs lengths : List ℕ) : Type 0 where
  pub given : Totals n c ρ δ matrix lows highs lengths
  pub sound : (j : ℕ) → 1 ≤ j → j ≤ c → Never (BadIn n lows highs lengths j) (2 * n - 2)
