-- Numbers and keys in a text. A text is a list of bytes, and a position counts its bytes from 0; a byte past the end counts as 0.
-- How a number is written is in Printed.antt, and that reading and writing undo each other in proofs/Round.antt.
-- Assumes nothing.
use Rattle.std.specs.Prelude.{List, [], ◌∷◌, Bool, true, cond, ◌&&◌, ℕ, ◌+◌, ◌-◌, ◌*◌, eqb, ltb, get_or, drop, Option, Some, None, option_and_then}
use Rattle.std.specs.Option.{option_map_or}
use Rattle.numbers.specs.declared.Parsed.{Parsed}

-- the value of a digit; none for another byte
unfoldable pub digit_of : ℕ → Option ℕ
digit_of b = cond (ltb b 48) None (cond (ltb 57 b) None (Some (b - 48)))

-- the number v, and i the position after it
abbrev pub parsed : ℕ → ℕ → Option Parsed
parsed v i = Some (record { value = v; next = i })

-- the digits of the list are read on after the value v, up to the first byte that is no digit; i is the position of the list
unfoldable pub digits_from : ℕ → ℕ → List ℕ → Option Parsed
digits_from v i [] = parsed v i
digits_from v i (b ∷ bs) =
    option_map_or (λ d. cond (ltb 65535 (v * 10 + d)) None (digits_from (v * 10 + d) (i + 1) bs)) (digit_of b) (parsed v i)

-- a number: 0 alone, or digits of which the first is not 0
unfoldable pub number_from : ℕ → List ℕ → Option Parsed
number_from i [] = None
number_from i (b ∷ bs) = option_and_then (λ d. cond (eqb d 0) (parsed 0 (i + 1)) (digits_from d (i + 1) bs)) (digit_of b)

-- a number at a position
abbrev pub number_at : List ℕ → ℕ → Option Parsed
number_at text i = number_from i (drop i text)

-- the byte `end` has to follow
unfoldable pub ended : List ℕ → ℕ → Option Parsed → Option Parsed
ended text end got = option_and_then (λ p. cond (eqb (get_or text p.next 0) end) (parsed p.value (p.next + 1)) None) got

-- a number at a position, with the byte `end` after it
abbrev pub item_at : List ℕ → ℕ → ℕ → Option Parsed
item_at text end i = ended text end (number_at text i)

-- the bytes of a key stand at a position
unfoldable pub starts_at : List ℕ → ℕ → List ℕ → Bool
starts_at text i [] = true
starts_at text i (k ∷ ks) = eqb (get_or text i 0) k && starts_at text (i + 1) ks
