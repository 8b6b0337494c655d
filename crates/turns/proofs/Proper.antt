-- The indices of a character and of a tree are at most 1: m is at most the length, and an index has a fraction only where there is one.
-- Assumes nothing.
use mathlib.Core.Path.{◌≡◌}
use mathlib.Core.List.{List}
use Prim.Native.Nat.{ℕ, ◌-◌, ◌≤◌}
use native.Mathlib.Decide.{ℕ_discrete, dec_le}
use native.Mathlib.Omega.{arith}
use borrow.Author.Tests.{eq-eqb, ne_eqb, lt-ltb, le-ltb}
use Rattle.parsimony.specs.Table.{IsTree}
use Rattle.parsimony.specs.Matrix.{state_of}
use Rattle.parsimony.specs.Index as index
use Rattle.parsimony.proofs.Extent.{m_shortest, sum_below}
use Rattle.std.specs.Prelude.{Option, Some, None}
use Rattle.indices.specs.declared.Fraction.{Fraction}
use Rattle.indices.specs.Indices.{index_of}
use Rattle.scores.specs.declared.Scores.{Scores}
use Rattle.scores.specs.Scores.{HasIndices, CharacterScores, TreeScores}
use Rattle.fields.specs.Proper.{AtMost, Proper}
use Rattle.summaries.specs.Rooms.{Indexed}

-- a fraction is not none, and is known by its numbers
no_fraction : (a b : ℕ) → index.fraction a b ≡ index.none → ⊥
no_fraction a b e = let z : ◌≡◌ {A = ℕ} 0 1 = cc in omega arith

over-same : (a b p q : ℕ) → index.fraction a b ≡ index.fraction p q → a ≡ p
over-same a b p q e = cc

under_same : (a b p q : ℕ) → index.fraction a b ≡ index.fraction p q → b ≡ q
under_same a b p q e = cc

at_most : (a b p q : ℕ) → index.fraction a b ≡ index.fraction p q → p ≤ q → 1 ≤ q → AtMost a b
at_most a b p q e h g = record { most = omega (arith, over-same a b p q e, under_same a b p q e); some = omega (arith, under_same a b p q e) }

proper_ci : (i : Option Fraction) (m s : ℕ) → m ≤ s → index_of i ≡ index.ci m s → Proper i
proper_ci None m s h e = tt
proper_ci (Some f) m s h e = go (ℕ_discrete s 0)
  where
    go : Dec (s ≡ 0) → AtMost f.over f.under
    go (yes z) = absurd (no_fraction f.over f.under (rw (eq-eqb s 0 z) at e))
    go (no z) = at_most f.over f.under m s (rw (ne_eqb s 0 z) at e) h (omega arith)

proper_ri : (i : Option Fraction) (m s g : ℕ) → m ≤ s → index_of i ≡ index.ri m s g → Proper i
proper_ri None m s g h e = tt
proper_ri (Some f) m s g h e = go (ℕ_discrete g m) (dec_le s g)
  where
    go : Dec (g ≡ m) → Dec (s ≤ g) → AtMost f.over f.under
    go (yes z) d = absurd (no_fraction f.over f.under (rw (eq-eqb g m z) at e))
    go (no z) (no l) = absurd (no_fraction f.over f.under (rw (ne_eqb g m z, lt-ltb g s (omega arith)) at e))
    go (no z) (yes l) = at_most f.over f.under (g - s) (g - m) (rw (ne_eqb g m z, le-ltb g s l) at e) (omega arith) (omega arith)

indexed : (s : Scores) → s.m ≤ s.length → HasIndices s → Indexed s
indexed s h I =
    record {
      ci = proper_ci s.ci s.m s.length h I.ci;
      ri = proper_ri s.ri s.m s.length s.g h I.ri;
    }

pub indexed_character : (n : ℕ) (state : ℕ → ℕ) (tree : List ℕ) (ρ δ : ℕ) → IsTree n tree ρ δ → (s : Scores) → CharacterScores n state tree ρ s
    → Indexed s
indexed_character n state tree ρ δ I s C =
    indexed s (omega (arith, m_shortest n state tree ρ δ s.length I C.least, C.m)) C.indices

pub indexed_tree : (n c : ℕ) (matrix tree : List ℕ) (ρ δ : ℕ) → IsTree n tree ρ δ → (s : Scores) → TreeScores n c matrix tree ρ s → Indexed s
indexed_tree n c matrix tree ρ δ I s C =
    indexed s
    (omega (
      arith,
      C.m,
      C.total,
      sum_below (λ j. index.m n (state_of matrix c j)) C.lengths c
          (λ j p q. m_shortest n (state_of matrix c j) tree ρ δ (C.lengths j) I (C.least j p q)),
    ))
    C.indices
