-- Rose trees: a tip is a taxon, and a node has one branch or more. Each tip and each node has a number.
-- Assumes nothing.
use Prim.Native.Nat.{ℕ, ◌+◌, ◌≤◌}
use native.Mathlib.Omega.{arith}
use Rattle.parsimony.specs.Lists.{same}
use Rattle.parsimony.proofs.Sums.{same_self}

mutual
  pub data Rose : Type 0 where
    tip : ℕ → Rose
    node : ℕ → Roses → Rose

  pub data Roses : Type 0 where
    one : Rose → Roses
    more : Rose → Roses → Roses

-- the number on top
abbrev pub top : Rose → ℕ
top (tip k) = k
top (node k f) = k

-- how often a number stands in a tree
abbrev mutual
  pub count : Rose → ℕ → ℕ
  count (tip k) m = same k m
  count (node k f) m = same k m + counts f m

  pub counts : Roses → ℕ → ℕ
  counts (one t) m = count t m
  counts (more t f) m = count t m + counts f m

-- no number stands in it twice
abbrev pub Distinct : Rose → Type 0
Distinct t = (m : ℕ) → count t m ≤ 1

pub count-top : (t : Rose) → 1 ≤ count t (top t)
count-top (tip k) = omega (arith, same_self k)
count-top (node k f) = omega (arith, same_self k)
