-- The copies out of the list of a scan into the lent slices, and the answer that they make.
-- Assumes nothing.
use mathlib.Core.Path.{◌≡◌, sym, ap, ◌∙◌}
use mathlib.Core.List.{List, [], ◌∷◌, ◌++◌, flatten}
use Prim.Native.Nat.{ℕ, ◌+◌, ◌-◌, ◌*◌, ◌≤◌}
use native.Mathlib.Omega.{arith}
use native.Mathlib.Nat.{suc-mul, zero-mul}
use lib.ListN.{length, take, drop, length-append}
use lib.Seq.{take_at, drop_at}
use Rattle.choices.specs.declared.Resolve.{Resolve}
use Rattle.lines.specs.Printed.{FitRows}
use Rattle.bodies.specs.Scanned.{Holds}
use Rattle.sheets.specs.Answers.{Reads}

-- ---- how long the parts are

-- all rows have as many numbers as characters
pub cells_count : (c : ℕ) (rs : List (List ℕ)) → FitRows c rs → length (flatten rs) ≡ length rs * c
unfolding flatten FitRows
cells_count c [] h = omega (arith, zero-mul c)
cells_count c (r ∷ rs) (size, fit, h) = length-append r (flatten rs) ∙ omega (arith, size, cells_count c rs h, suc-mul (length rs) c)

module _ (text : List ℕ) (n c : ℕ) (r : Resolve) (out : List ℕ) (H : Holds text n c r out) where
  pub held_nodes : length H.sheet.ancestors ≡ 2 * n - 2
  held_nodes = H.is_sheet.sized.nodes ∙ ap (λ m. 2 * m - 2) H.taxa_is

  pub held_cells : length (flatten H.sheet.rows) ≡ n * c
  held_cells =
      cells_count H.sheet.characters H.sheet.rows H.is_sheet.sized.rows_fit
      ∙ ap (λ m. m * H.sheet.characters) (H.is_sheet.sized.each_taxon ∙ H.taxa_is)
      ∙ ap (λ m. n * m) H.characters_is

  pub held_room : 2 * n - 2 + n * c ≤ 16384
  held_room =
      omega (
        arith,
        held_nodes,
        held_cells,
        H.long,
        ap length H.list,
        length-append H.sheet.ancestors (flatten H.sheet.rows ++ H.rest),
        length-append (flatten H.sheet.rows) H.rest,
      )

  -- the two copies: the front of the list over the front of the tree, and what stands behind it over the front of the matrix
  pub copied : (tree matrix front back : List ℕ) (nodes cells : ℕ) → length tree ≡ 510 → length matrix ≡ 16384 → nodes ≡ 2 * n - 2 → cells ≡ n * c
      → front ≡ take nodes out → back ≡ take (nodes + cells - nodes) (drop nodes out)
      → Reads text tree matrix n c r (front ++ drop nodes tree) (back ++ drop cells matrix)
  copied tree matrix front back nodes cells a b k l e f =
      let s = H.sheet in
      let first : front ≡ s.ancestors = e ∙ ap (take nodes) H.list ∙ take_at s.ancestors _ nodes (held_nodes ∙ sym k) in
      let second : back ≡ flatten s.rows =
      f
      ∙ ap (λ (m : ℕ). take m (drop nodes out)) (omega arith)
      ∙ ap (λ (q : List ℕ). take cells (drop nodes q)) H.list
      ∙ ap (take cells) (drop_at s.ancestors _ nodes (held_nodes ∙ sym k))
      ∙ take_at (flatten s.rows) _ cells (held_cells ∙ sym l) in
      record {
        sheet = s;
        is_sheet = H.is_sheet;
        taxa_is = H.taxa_is;
        characters_is = H.characters_is;
        choice_is = H.choice_is;
        tree_exact = a;
        matrix_exact = b;
        tree_after = ap (λ (q : List ℕ). q ++ drop nodes tree) first ∙ ap (λ (m : ℕ). s.ancestors ++ drop m tree) (k ∙ sym held_nodes);
        matrix_after = ap (λ (q : List ℕ). q ++ drop cells matrix) second ∙ ap (λ (m : ℕ). flatten s.rows ++ drop m matrix) (l ∙ sym held_cells);
      }
