-- A list of corrections, made one after the other: what each does is what the call promises (`Corrects`), and nothing else happens between them.
-- Assumes nothing.
use Rattle.std.specs.Prelude.{◌≡◌, List, [], ◌∷◌, ℕ, Result}
use Rattle.std.proofs.Math.Decide.{dec_le}
use Rattle.parsimony.specs.Lists.{choose}
use Rattle.refusals.specs.declared.Refusal.{Refusal}
use Rattle.repairs.specs.Repairs.{with_cell}
use Rattle.histories.specs.Kept.{Table, Corrects}

-- a taxon, a character, and the state that its cell is to have
pub record Correction : Type 0 where
  pub taxon : ℕ
  pub character : ℕ
  pub state : ℕ

-- a matrix and its table
pub record Kept : Type 0 where
  pub matrix : List ℕ
  pub table : Table

-- one after the other: each is asked of what the one before it left, whether it was refused or not
abbrev pub After : (n c : ℕ) (tree : List ℕ) → List Correction → Kept → Kept → Type 0
After n c tree [] before after = after ≡ before
After n c tree (x ∷ xs) before after =
    (answer : Result ℕ Refusal) × (next : Kept)
    × Corrects n c x.taxon x.character x.state tree before.matrix before.table next.matrix next.table answer
    × After n c tree xs next after

-- the matrix with one correction, if there is such a cell and the state is not above 9999, and else as it was
abbrev pub with_one : (n c : ℕ) → Correction → List ℕ → List ℕ
with_one n c x matrix =
    choose (dec_le 1 x.taxon) (choose (dec_le x.taxon n) (choose (dec_le 1 x.character) (choose (dec_le x.character c)
    (choose (dec_le x.state 9999) (with_cell c x.taxon x.character x.state matrix) matrix) matrix) matrix) matrix) matrix

-- with all of a list, the first first
abbrev pub with_all : (n c : ℕ) → List Correction → List ℕ → List ℕ
with_all n c [] matrix = matrix
with_all n c (x ∷ xs) matrix = with_all n c xs (with_one n c x matrix)
