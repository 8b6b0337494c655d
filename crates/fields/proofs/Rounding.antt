-- Thousandths: rounded to the nearest, halves up, and at most 1000 where the fraction is at most 1.
-- Assumes nothing.
use mathlib.Core.Path.{◌≡◌, refl}
use Prim.Native.Nat.{ℕ, ◌+◌, ◌*◌, ◌≤◌, ◌<◌}
use native.Mathlib.Nat.{mul-div-le, lt-mul-div-succ, div-lt_iff_lt-mul}
use native.Mathlib.Omega.{arith}
use Rattle.fields.specs.Fields.{thousandths}
use Rattle.fields.specs.Proper.{AtMost}

-- 1/16 is 62 thousandths and a half; document 01's 6/9 is 666 and two thirds, and its 5/7 is 714 and two sevenths
pub a_half_up : thousandths 1 16 ≡ 63
a_half_up = refl

pub more_than_half_up : thousandths 6 9 ≡ 667
more_than_half_up = refl

pub less_than_half_down : thousandths 5 7 ≡ 714
less_than_half_down = refl

-- "from 0 to 1000"
pub thousandths-most : (over under : ℕ) → AtMost over under → thousandths over under ≤ 1000
thousandths-most over under h =
    let room : 2000 * over + under < 1001 * (2 * under) = omega (arith, h.most, h.some) in
    let less : thousandths over under < 1001 = (div-lt_iff_lt-mul {k = 2 * under} {x = 2000 * over + under} {y = 1001} (omega (arith, h.some))).1 room
    in
    omega arith

-- "halves up": t thousandths are at most half a thousandth above the fraction, and t + 1 are more than that
pub halves_up : (over under : ℕ) → 1 ≤ under
    → (2 * under * thousandths over under ≤ 2000 * over + under) × (2000 * over + under < 2 * under * (thousandths over under + 1))
halves_up over under h = (mul-div-le (2000 * over + under) (2 * under), lt-mul-div-succ (2000 * over + under) (omega arith))
