-- How numbers are written: in decimal, with no leading zero; and several of them with commas between.
-- Assumes nothing.
use Rattle.std.specs.Prelude.{List, [], ◌∷◌, ◌++◌, cond, ℕ, zero, suc, ◌+◌, ◌/◌, ◌%◌, ltb}

-- the decimal digits of n, of which there are no more than most + 1
unfoldable pub decimal_of : ℕ → ℕ → List ℕ
decimal_of zero n = (48 + n) ∷ []
decimal_of (suc most) n = cond (ltb n 10) ((48 + n) ∷ []) (decimal_of most (n / 10) ++ ((48 + n % 10) ∷ []))

-- a number in decimal: n has no more than n + 1 digits
abbrev pub decimal : ℕ → List ℕ
decimal n = decimal_of n n

-- numbers, each after a comma
unfoldable pub continued : List ℕ → List ℕ
continued [] = []
continued (v ∷ vs) = 44 ∷ (decimal v ++ continued vs)

-- numbers with commas between
unfoldable pub commas : List ℕ → List ℕ
commas [] = []
commas (v ∷ vs) = decimal v ++ continued vs
