-- The cell, and what the path is settled from.
-- Assumes nothing.
use mathlib.Core.Path.{◌≡◌, sym, ◌∙◌, ap, ap₂}
use mathlib.Core.Logic.{inl}
use mathlib.Core.List.{List}
use Prim.Native.Nat.{ℕ, ◌+◌, ◌-◌, ◌*◌, ◌≤◌, ◌<◌}
use native.Mathlib.Nat.{mul-le-mul_right}
use native.Mathlib.Decide.{ℕ_discrete}
use native.Mathlib.Omega.{arith}
use lib.ListN.{length, set, length-set}
use Rattle.parsimony.specs.Matrix.{state_of}
use Rattle.parsimony.specs.Character.{at_node}
use Rattle.parsimony.proofs.Matrices.{cell_in, state-written, state-other}
use Rattle.shapes.specs.Shape.{Filled}
use Rattle.entries.specs.Entries.{Bad}
use Rattle.entries.proofs.Searching.{clean}
use Rattle.mending.specs.Mending.{Sound, MendsPath}
use Rattle.mending.specs.Mending as mending
use Rattle.repairs.specs.Repairs.{Mended, Mends}

-- an entry that is not bad is sound
sound : (low high l : ℕ) → (Bad low high l → ⊥) → Sound low high l
sound low high l h =
    let (f, s, t) = clean low high l h in
    record { fits = f; small = s; short = t }

module _ (n c t j s count : ℕ) (tree path matrix lows highs lengths : List ℕ)
    (S : Mends n c t j s count tree path matrix lows highs lengths) where
  -- the place of the cell
  pub cell_place : (t - 1) * c + (j - 1) < length matrix
  cell_place =
      let h = cell_in n c (t - 1) (j - 1) (omega (arith, S.given.cell.taxon)) (omega (arith, S.given.cell.character)) in
      omega (arith, S.given.cell.rows)

  pub cell-small : (t - 1) * c + (j - 1) < 131072
  cell-small = omega (arith, cell_place, S.given.cell.rows, rows, S.given.cell.few)
    where
      rows : n * c ≤ 256 * c
      rows = mul-le-mul_right c S.given.cell.sized.most

  -- the matrix afterwards
  abbrev after : List ℕ
  after = set matrix ((t - 1) * c + (j - 1)) s

  states : (k : ℕ) → 1 ≤ k → k ≤ n → state_of after c j k ≤ 9999
  states k p q = go (ℕ_discrete k t)
    where
      this : j - 1 + 1 ≡ j
      this = omega (arith, S.given.cell.character)

      go : Dec (k ≡ t) → state_of after c j k ≤ 9999
      go (yes e) =
          let h = state-written matrix c t (j - 1) s (omega (arith, S.given.cell.character)) cell_place in
          let same : state_of after c j k ≡ state_of after c (j - 1 + 1) t = ap₂ (λ i u. state_of after c i u) (sym this) e in
          omega (arith, S.small)
      go (no e) =
          let h = state-other matrix c t (j - 1) s (omega (arith, S.given.cell.character)) k j S.given.cell.taxon.0 p S.given.cell.character.0
          S.given.cell.character.1 (inl e) in
          omega (arith, S.given.cell.small k p q)

  pub mends_path : (left right : List ℕ) → Filled n tree left right → MendsPath n c j t count tree after left right path lows highs lengths
  mends_path left right F =
      record {
        ρ = S.given.cell.ρ;
        δ = S.given.cell.δ;
        sized = S.given.cell.sized;
        accepted = S.given.cell.accepted;
        shape = F;
        some = S.given.cell.character.0;
        most = S.given.cell.character.1;
        rows = length-set matrix ((t - 1) * c + (j - 1)) s ∙ S.given.cell.rows;
        states = states;
        taxon = S.given.cell.taxon;
        counts = S.listed.counts;
        lists = S.listed.nodes;
        low_long = S.given.lists.low_long;
        high_long = S.given.lists.high_long;
        length_long = S.given.lists.length_long;
        beside = λ u lo hi up on off. sound (at_node n lows u) (at_node n highs u) (at_node n lengths u)
            (λ b. S.clear u (omega arith) (omega (arith, S.given.cell.sized.nodes)) (up, on, off, (lo, b)));
      }

  pub mended : (lows' highs' lengths' : List ℕ) → mending.Mended n c j t tree after lows highs lengths lows' highs' lengths'
      → Mended n c t j s tree matrix lows highs lengths after lows' highs' lengths'
  mended lows' highs' lengths' M = record { cell = ap (λ i. set matrix i s) (omega (arith, S.given.cell.character)); path = M }
