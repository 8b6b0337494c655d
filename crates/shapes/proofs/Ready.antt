-- An accepted table is what `descendants` asks for.
-- Assumes nothing.
use mathlib.Core.List.{List}
use Prim.Native.Nat.{ℕ}
use Rattle.parsimony.specs.Table.{Accepted}
use Rattle.trees.specs.Answers.{Sized}
use Rattle.shapes.specs.Filling.{Fillable}

pub ready : {n : ℕ} {tree : List ℕ} {ρ δ : ℕ} → Sized n tree → Accepted n tree ρ δ → Fillable n tree
ready S A = record { sized = S; within = A.is_tree.within; two = A.two }
