-- The lines of a report in print: a key, a value, LF; and an index as a value.
-- Assumes nothing.
use Rattle.std.specs.Prelude.{List, [], ◌∷◌, ◌++◌, ℕ, ◌+◌, ◌*◌, ◌/◌, Option, Some, None}
use Rattle.numbers.specs.Printed.{decimal}
use Rattle.indices.specs.declared.Fraction.{Fraction}

-- a text of one byte
abbrev pub byte : ℕ → List ℕ
byte b = b ∷ []

-- a line: its key, equals sign included, its value, LF
abbrev pub field : (key value : List ℕ) → List ℕ
field key value = key ++ (value ++ byte 10)

-- ---- an index

-- a fraction in thousandths, halves up: 1000 over / under + 1/2, rounded down
abbrev pub thousandths : (over under : ℕ) → ℕ
thousandths over under = (2000 * over + under) / (2 * under)

-- over/under,thousandths
abbrev pub fraction : (over under : ℕ) → List ℕ
fraction over under = decimal over ++ (byte 47 ++ (decimal under ++ (byte 44 ++ decimal (thousandths over under))))

-- that, or none
abbrev pub index : Option Fraction → List ℕ
index (Some f) = fraction f.over f.under
index None = 110 ∷ 111 ∷ 110 ∷ 101 ∷ []
