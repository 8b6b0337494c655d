-- A text of several pieces, written one after another: the room for each.
-- Assumes nothing.
use mathlib.Core.Path.{◌≡◌, refl, sym, ap, ◌∙◌}
use mathlib.Core.List.{List, [], ◌++◌}
use Prim.Native.Nat.{ℕ, ◌+◌, ◌≤◌}
use native.Mathlib.Omega.{arith}
use lib.ListN.{length, length-append}
use lib.Seq.{sets, length-sets}
use Rattle.numbers.proofs.Lists.{sets_append}
use Rattle.printing.specs.Writing.{Written}

-- a piece written leaves the list as long as it was
pub written-size : {before mid : List ℕ} {at next : ℕ} {a : List ℕ} → Written before mid at next a → length mid ≡ length before
written-size {before} {at = at} {a = a} w = ap length w.list ∙ length-sets before at a

-- the first piece has room where both have
pub room-first : (at : ℕ) (a b : List ℕ) (size : ℕ) → at + length (a ++ b) ≤ size → at + length a ≤ size
room-first at a b size h = omega (arith, length-append a b)

-- and behind it there is room for the rest
pub room-rest : (before mid : List ℕ) (at next : ℕ) (a b : List ℕ) → Written before mid at next a → at + length (a ++ b) ≤ length before
    → next + length b ≤ length mid
room-rest before mid at next a b w h =
    omega (arith, length-append a b, w.next_is, written-size w)

-- nothing written is written
pub written_none : (out : List ℕ) (at : ℕ) → Written out out at at []
written_none out at = record { list = refl; next_is = omega arith }

-- once a piece is written, what is still to be written is the rest
pub still : (before mid : List ℕ) (at next : ℕ) (a b : List ℕ) → Written before mid at next a → sets before at (a ++ b) ≡ sets mid next b
still before mid at next a b w =
    sets_append a before at b ∙ ap (λ (l : List ℕ). sets l (at + length a) b) (sym w.list) ∙ ap (λ (j : ℕ). sets mid j b) (sym w.next_is)
