-- The limits of n and c, and the lengths of the slices lent to a call: when 1 and 2 apply, and what is told of the slices.
-- Assumes nothing.
use Rattle.std.specs.Prelude.{◌⊎◌, List, ◌∷◌, ℕ, suc, ◌-◌, ◌*◌, ◌≤◌, ◌<◌, length, Option, Some, None}
use Rattle.refusals.specs.declared.Reason.TheVariants.{Length}
use Rattle.refusals.specs.Checks.{Refuses, Passes, Slice, slices}
use Rattle.trees.specs.Answers.{tree_slice}

-- ---- the limits

-- 1: n or c is outside its limits
abbrev pub Outside : (n c : ℕ) → Type 0
Outside n c = (n < 3) ⊎ ((256 < n) ⊎ ((c < 1) ⊎ (512 < c)))

-- n and c are in their limits
pub record InLimits (n c : ℕ) : Type 0 where
  pub least : 3 ≤ n
  pub most : n ≤ 256
  pub some : 1 ≤ c
  pub few : c ≤ 512

-- ---- the slices

-- the matrix, as a lent slice
abbrev pub matrix_slice : (n c : ℕ) (matrix : List ℕ) → Slice
matrix_slice n c matrix = record { has = length matrix; asked = n * c }

-- a slice with an entry for each interior node
abbrev pub node_slice : (n has : ℕ) → Slice
node_slice n has = record { has = has; asked = n - 2 }

-- the tree and the matrix, and the rest
abbrev pub lent_slices : (n c : ℕ) (tree matrix : List ℕ) → List Slice → List Slice
lent_slices n c tree matrix rest = tree_slice n tree ∷ matrix_slice n c matrix ∷ rest

-- ---- what is told of the slices

-- of the slices from the number i on: the first that has not its length, or none
abbrev pub Told : ℕ → List Slice → Option ℕ → Type 0
Told i ss None = Passes (slices i ss)
Told i ss (Some p) = Refuses (slices i ss) (record { reason = Length; place = p })

-- of one more, before the others
abbrev pub LentTo : (i has asked : ℕ) (others told : Option ℕ) → Type 0
LentTo i has asked others told = (ss : List Slice) → Told (suc i) ss others → Told i (record { has = has; asked = asked } ∷ ss) told
