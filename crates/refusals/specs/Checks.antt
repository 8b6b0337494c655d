-- The checks of a call. Each call of the library has a list of them, in the order of document 01; the first that applies is given.
-- Assumes nothing.
use Rattle.std.specs.Prelude.{◌≡◌, ◌≢◌, ◌⊎◌, List, [], ◌∷◌, ℕ, suc}
use Rattle.refusals.specs.declared.Refusal.{Refusal}
use Rattle.refusals.specs.Reasons.{number}
use Rattle.refusals.specs.Search.{Lowest}

-- A check has the number of its refusal, and says at which place it applies.
pub record Check : Type 1 where
  pub number : ℕ
  pub At : ℕ → Type 0

-- a check with one place
abbrev pub at : (number place : ℕ) → Type 0 → Check
at number place P = record { number = number; At = λ p. (p ≡ place) × P }

-- a check whose place is the lowest from 1 to m of which P holds
abbrev pub lowest : (number : ℕ) → (ℕ → Type 0) → ℕ → Check
lowest number P m = record { number = number; At = Lowest P m }

-- it applies nowhere
abbrev pub Clear : Check → Type 0
Clear c = (p : ℕ) → c.At p → ⊥

-- a call is refused: by the first of its checks that applies
abbrev pub Refuses : List {1} Check → Refusal → Type 0
Refuses [] r = ⊥
Refuses (c ∷ cs) r = ((number r ≡ c.number) × c.At r.place) ⊎ (Clear c × Refuses cs r)

-- a call is not refused: none of its checks applies
abbrev pub Passes : List {1} Check → Type 0
Passes [] = Unit {0}
Passes (c ∷ cs) = Clear c × Passes cs

-- A slice that is lent to a call: how long it is, and how long it has to be.
pub record Slice : Type 0 where
  pub has : ℕ
  pub asked : ℕ

-- 2: a slice's length is not exact. The place is the number of the slice; the first of the list has the number i.
abbrev pub slices : ℕ → List Slice → List {1} Check
slices i [] = []
slices i (s ∷ ss) = at 2 i (s.has ≢ s.asked) ∷ slices (suc i) ss
