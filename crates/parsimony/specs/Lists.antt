-- Sums over lists, runs of numbers, and a test for equal numbers. Nothing here speaks of trees.
-- Assumes nothing.
use Rattle.std.specs.Prelude.{List, [], ◌∷◌, ℕ, zero, suc, ◌+◌}
use Rattle.std.proofs.Math.Decide.{ℕ_discrete}

-- the sum of g over a list
abbrev pub sum : {A : Type 0} → (A → ℕ) → List A → ℕ
sum g [] = 0
sum g (x ∷ xs) = g x + sum g xs

-- m numbers, from a up
abbrev pub from : ℕ → ℕ → List ℕ
from a zero = []
from a (suc m) = a ∷ from (suc a) m

-- x where the test says yes, and y where it says no
abbrev pub choose : {A B : Type 0} → Dec A → B → B → B
choose (yes e) x y = x
choose (no e) x y = y

-- 1 where two numbers are equal, and 0 elsewhere
unfoldable pub same : ℕ → ℕ → ℕ
same n m = choose (ℕ_discrete n m) 1 0

-- a list without one number
unfoldable pub without : ℕ → List ℕ → List ℕ
without v [] = []
without v (k ∷ ks) =
    let rest = without v ks in
    choose (ℕ_discrete k v) rest (k ∷ rest)
