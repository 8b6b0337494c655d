-- Numbers in print, byte by byte: the ends of what a sheet can hold, and the ancestors of document 01's sheet.
-- Assumes nothing.
use mathlib.Core.Path.{◌≡◌, refl}
use mathlib.Core.List.{[], ◌∷◌}
use Rattle.numbers.specs.Printed.{decimal_of, decimal, continued, commas}

-- 0
pub zero_printed : decimal 0 ≡ 48 ∷ []
unfolding decimal_of
zero_printed = refl

-- 10
pub ten_printed : decimal 10 ≡ 49 ∷ 48 ∷ []
unfolding decimal_of
ten_printed = refl

-- 0,5,6,6,1,5
pub ancestors_printed :
    commas (0 ∷ 5 ∷ 6 ∷ 6 ∷ 1 ∷ 5 ∷ []) ≡ 48 ∷ 44 ∷ 53 ∷ 44 ∷ 54 ∷ 44 ∷ 54 ∷ 44 ∷ 49 ∷ 44 ∷ 53 ∷ []
unfolding decimal_of continued commas
ancestors_printed = refl
