-- A list stored in two parts.
-- Assumes nothing.
use mathlib.Core.Path.{◌≡◌, ap, ◌∙◌}
use mathlib.Core.List.{List, [], ◌∷◌, ◌++◌}
use Prim.Native.Nat.{ℕ, suc, ◌+◌}
use native.Mathlib.Omega.{arith}
use native.Mathlib.Nat.{add-zero}
use lib.ListN.{length, set}
use lib.Seq.{sets}

pub sets_append : (vs : List ℕ) (out : List ℕ) (put : ℕ) (ws : List ℕ) → sets out put (vs ++ ws) ≡ sets (sets out put vs) (put + length vs) ws
sets_append [] out put ws = rw add-zero
sets_append (v ∷ vs) out put ws =
    sets_append vs (set out put v) (suc put) ws ∙ ap (λ (m : ℕ). sets (sets (set out put v) (suc put) vs) m ws) (omega arith)
