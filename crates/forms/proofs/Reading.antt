-- From what the lines gave to what the text is.
-- Assumes nothing.
use mathlib.Core.Path.{◌≡◌, refl, sym, ap, ◌∙◌}
use mathlib.Core.List.{List, [], ◌∷◌, ◌++◌, flatten, append-nil}
use mathlib.Core.Bool.{true}
use Prim.Native.Nat.{ℕ, ◌+◌, ◌-◌, ◌*◌, ◌≤◌, ◌<◌}
use native.Mathlib.Omega.{arith}
use lib.ListN.{length, drop}
use Rattle.choices.specs.declared.Resolve.{Resolve}
use Rattle.numbers.specs.Numbers.{parsed}
use Rattle.numbers.proofs.Round.{positive}
use Rattle.lines.specs.Printed.{line}
use Rattle.lines.specs.Lines.{head_at, line_at, all, rows_at, whole}
use Rattle.lines.proofs.Reach.{head_reach, line-reach, rows-reach}
use Rattle.lines.proofs.Round.{head_back, line_back, rows_back, RowsBack}
use Rattle.forms.specs.Sheets.{unsaid, said, resolve_line, Within, IsSheet, taxa_key, characters_key, ancestors_key}
use Rattle.forms.specs.Parts.{Heads}
use Rattle.forms.proofs.Forms.{Third, sheet_read, whole-sheet}

-- ---- the first two lines

taxa-positive : positive taxa_key ≡ true
unfolding positive
taxa-positive = refl

characters-positive : positive characters_key ≡ true
unfolding positive
characters-positive = refl

ancestors-positive : positive ancestors_key ≡ true
unfolding positive
ancestors-positive = refl

pub first_read : (text : List ℕ) (n a : ℕ) → head_at text taxa_key 0 ≡ parsed n a → (n ≤ 65535) × (text ≡ line taxa_key (n ∷ []) ++ drop a text)
first_read text n a e = head_back text taxa_key 0 n a taxa-positive e

pub heads_read : (text : List ℕ) (n a c b : ℕ) → head_at text taxa_key 0 ≡ parsed n a → head_at text characters_key a ≡ parsed c b → Heads text n c b
heads_read text n a c b e f =
    let (hn, first) = first_read text n a e in
    let (hc, second) = head_back text characters_key a c b characters-positive f in
    record {
      taxa_fit = hn;
      characters_fit = hc;
      text_is = first ∙ ap (λ (l : List ℕ). line taxa_key (n ∷ []) ++ l) second;
      inside = head_reach text characters_key a c b f;
    }

-- ---- the third

module _ (text : List ℕ) (n c i : ℕ) (H : Heads text n c i) (W : Within n c) where
  some-nodes : 0 < 2 * n - 2
  some-nodes = omega (arith, W.least_taxa)

  pub third_read : (tree : List ℕ) (j : ℕ) → line_at text ancestors_key (2 * n - 2) i ≡ all tree j → Third text n c tree i j
  third_read tree j e =
      let (nodes, fit, print) = line_back text ancestors_key (2 * n - 2) i tree j some-nodes ancestors-positive e in
      record { heads = H; within = W; nodes = nodes; fit = fit; text_is = print }

  pub third_reach : (tree : List ℕ) (j : ℕ) → line_at text ancestors_key (2 * n - 2) i ≡ all tree j → (i + 2 * (2 * n - 2) ≤ j) × (j ≤ length text)
  third_reach tree j e = let (size, far, inside) = line-reach text ancestors_key (2 * n - 2) i some-nodes tree j e in (far, inside)

  -- ---- the rows, and what follows them

  module _ (tree : List ℕ) (j : ℕ) (e : line_at text ancestors_key (2 * n - 2) i ≡ all tree j)
      (rs : List (List ℕ)) (next : ℕ) (f : rows_at text c n 4 j ≡ whole rs next) where
    pub rows_are : RowsBack text c n j rs next
    rows_are = rows_back text c W.least_characters n 4 j rs next f

    pub rows_inside : next ≤ length text
    rows_inside = (rows-reach text c W.least_characters n 4 j (third_reach tree j e).1 rs next f).2

    module _ (short : length text ≤ 32768) where
      -- each number took two bytes, so there are no more than 16,384
      pub rows-room : length tree + length (flatten rs) ≤ 16384
      rows-room =
          let T = third_read tree j e in
          let (cells, far, inside) = rows-reach text c W.least_characters n 4 j (third_reach tree j e).1 rs next f in
          omega (arith, cells, far, inside, third_reach tree j e, T.nodes)

      -- nothing follows, or the resolve line: then the text is a sheet
      pub sheet_nothing : drop next text ≡ [] → IsSheet text (sheet_read text n c tree i j (third_read tree j e) rs next rows_are unsaid)
      unfolding flatten
      sheet_nothing d = whole-sheet text n c tree i j (third_read tree j e) rs next rows_are unsaid d short

      pub sheet-choice : (r : Resolve) → drop next text ≡ resolve_line r
          → IsSheet text (sheet_read text n c tree i j (third_read tree j e) rs next rows_are (said r))
      unfolding flatten
      sheet-choice r d =
          whole-sheet text n c tree i j (third_read tree j e) rs next rows_are (said r) (d ∙ sym (append-nil (resolve_line r))) short
