-- Numbers read out of a text one after the other. One byte stands behind each, whatever it is. What is no number counts as 0, and ends the text.
-- Assumes nothing.
use Rattle.std.specs.Prelude.{List, ℕ, zero, suc, ◌+◌, cond, ltb, length, Option, Some, None}
use Rattle.numbers.specs.Numbers.{number_at}
use Rattle.numbers.specs.declared.Parsed.{Parsed}

-- the value of what was read
abbrev pub value_of : Option Parsed → ℕ
value_of (Some number) = number.value
value_of None = 0

-- the position of what is read next: past the byte behind the number
abbrev pub next_of : List ℕ → Option Parsed → ℕ
next_of text (Some number) = cond (ltb number.next (length text)) (number.next + 1) number.next
next_of text None = length text

-- the number that is read at a position
abbrev pub value_at : List ℕ → ℕ → ℕ
value_at text at = value_of (number_at text at)

-- the position of what is read after it
abbrev pub after : List ℕ → ℕ → ℕ
after text at = next_of text (number_at text at)

-- the position of a number, when those of which there are `count` before it are read one after the other from a position on
abbrev pub place : List ℕ → ℕ → ℕ → ℕ
place text at zero = at
place text at (suc count) = after text (place text at count)
