-- The whole report, on a tree and a matrix and on a text; and what the lent slice holds afterwards.
-- Assumes nothing.
use mathlib.Core.Path.{◌≡◌, sym, ◌∙◌, ap}
use mathlib.Core.Logic.{⊎_elim}
use mathlib.Core.List.{List, [], ◌++◌, flatten}
use Prim.Native.Nat.{ℕ, ◌+◌, ◌-◌, ◌*◌, ◌≤◌}
use native.Mathlib.Omega.{arith}
use lib.ListN.{length, take, drop}
use lib.Seq.{sets-eq, take_at}
use Rattle.refusals.specs.declared.Refusal.{Refusal}
use Rattle.refusals.specs.Reasons.{number}
use Rattle.refusals.specs.Checks.{Refuses}
use Rattle.choices.specs.declared.Resolve.{Resolve}
use Rattle.forms.specs.Sheets.{choice}
use Rattle.forms.proofs.Unique.{sheet-room}
use Rattle.sheets.specs.Answers.{sheet_checks, Reads}
use Rattle.sheets.proofs.Copying.{cells_count}
use Rattle.checks.specs.Calls.{matrix_checks}
use Rattle.scores.specs.declared.Scores.{Scores}
use Rattle.characters.specs.Afresh.{AllScored}
use Rattle.fields.specs.Fitting.{Fitting}
use Rattle.fields.proofs.Room.{looser, fitting-both}
use Rattle.summaries.specs.Report.{tree_lines, refused_line}
use Rattle.summaries.specs.Rooms.{tree_room, refused_room}
use Rattle.layouts.specs.Rooms.{character_room}
use Rattle.reports.specs.Says.{report_text, Scored, report, refusal, Says, sheet, none, Prints}
use Rattle.reports.specs.Steps.{Sized, Whole, Told}
use Rattle.turns.specs.Lines.{lines_to, Some}
use Rattle.turns.proofs.Writing.{characters-room}

-- ---- a tree and a matrix

module _ {n c : ℕ} {r : Resolve} {tree matrix before after : List ℕ} {size : ℕ} where
  pub whole-report : {s : Scores} {mid : List ℕ} {next : ℕ} → Sized n c tree matrix → AllScored n c tree matrix s
      → Fitting before mid 0 next (tree_lines n c s r) tree_room → Some n c c r tree matrix mid after next size
      → Whole n c r tree matrix before after size
  whole-report {s} {mid} {next} Z A f S =
      record {
        written = report_text n c r s S.found;
        scored = report s S.found (record { scored = A; each = S.each A.ρ A.δ A.accepted });
        fitting =
            looser before after 0 size (report_text n c r s S.found) (tree_room + c * character_room (n - 2)) 524288
            (fitting-both (tree_lines n c s r) (lines_to S.found c) before mid after 0 next size tree_room (c * character_room (n - 2)) f S.fitting)
            (characters-room n c Z.limits.least Z.limits.few Z.few);
      }

  pub whole-refused : (q : Refusal) → Refuses (matrix_checks n c tree matrix []) q
      → Fitting before after 0 size (refused_line (number q) q.place) refused_room → Whole n c r tree matrix before after size
  whole-refused q h f =
      record {
        written = refused_line (number q) q.place;
        scored = refusal q h;
        fitting = looser before after 0 size (refused_line (number q) q.place) refused_room 524288 f (omega arith);
      }

-- ---- a text

module _ {text tree matrix : List ℕ} {n c : ℕ} {r : Resolve} {tree' matrix' : List ℕ} (R : Reads text tree matrix n c r tree' matrix') where
  nodes : length R.sheet.ancestors ≡ 2 * n - 2
  nodes = R.is_sheet.sized.nodes ∙ ap (λ m. 2 * m - 2) R.taxa_is

  cells : length (flatten R.sheet.rows) ≡ n * c
  cells =
      cells_count R.sheet.characters R.sheet.rows R.is_sheet.sized.rows_fit
      ∙ ap (λ m. m * R.sheet.characters) (R.is_sheet.sized.each_taxon ∙ R.taxa_is) ∙ ap (λ m. n * m) R.characters_is

  -- the entries and the cells that the sheet has
  the_tree : take (2 * n - 2) tree' ≡ R.sheet.ancestors
  the_tree =
      ap (λ (l : List ℕ). take (2 * n - 2) l) R.tree_after
      ∙ take_at R.sheet.ancestors (drop (length R.sheet.ancestors) tree) (2 * n - 2) nodes

  the_matrix : take (n * c) matrix' ≡ flatten R.sheet.rows
  the_matrix =
      ap (λ (l : List ℕ). take (n * c) l) R.matrix_after
      ∙ take_at (flatten R.sheet.rows) (drop (length (flatten R.sheet.rows)) matrix) (n * c) cells

  few-cells : n * c ≤ 16384
  few-cells = omega (arith, cells, (sheet-room text R.sheet R.is_sheet).1)

  pub sized-sheet : Sized n c (take (2 * n - 2) tree') (take (n * c) matrix')
  sized-sheet =
      let W = R.is_sheet.within in
      record {
        limits =
            record {
              least = omega (arith, W.least_taxa, R.taxa_is);
              most = omega (arith, W.most_taxa, R.taxa_is);
              some = omega (arith, W.least_characters, R.characters_is);
              few = omega (arith, W.most_characters, R.characters_is);
            };
        nodes = ap length the_tree ∙ nodes;
        cells = ap length the_matrix ∙ cells;
        few = few-cells;
      }

  -- what is written of them is written of the sheet
  of_sheet : {w : List ℕ} → Scored n c r (take (2 * n - 2) tree') (take (n * c) matrix') w
      → Scored R.sheet.taxa R.sheet.characters (choice R.sheet.last) R.sheet.ancestors (flatten R.sheet.rows) w
  of_sheet W = rw R.taxa_is (rw R.characters_is (rw R.choice_is (rw (sym the_tree) (rw (sym the_matrix) W))))

  pub told-sheet : {out out' : List ℕ} {size : ℕ} → Whole n c r (take (2 * n - 2) tree') (take (n * c) matrix') out out' size
      → Told text out out' size
  told-sheet W = record { written = W.written; says = sheet R.sheet R.is_sheet W.written (of_sheet W.scored); fitting = W.fitting }

-- a text that is no sheet: the slices are of the right lengths
pub refused_text : (text tree matrix : List ℕ) → length tree ≡ 510 → length matrix ≡ 16384 → (q : Refusal) → Refuses (sheet_checks text tree matrix) q
    → Says text (refused_line (number q) q.place)
refused_text text tree matrix h g q R = none q (⊎_elim (λ (e, (p, x)). absurd (x h)) (λ (k, S). ⊎_elim (λ (e, (p, x)). absurd (x g)) (λ (k', T). T) S) R)

-- the line of a refusal, written
pub told_refused : {text out out' : List ℕ} {size : ℕ} (q : Refusal) → Says text (refused_line (number q) q.place)
    → Fitting out out' 0 size (refused_line (number q) q.place) refused_room → Told text out out' size
told_refused {out = out} {out' = out'} {size = size} q S f =
    record {
      written = refused_line (number q) q.place;
      says = S;
      fitting = looser out out' 0 size (refused_line (number q) q.place) refused_room 524288 f (omega arith);
    }

-- ---- the slice

pub printed : (text out out' : List ℕ) (size : ℕ) → length out ≡ 524288 → Told text out out' size → Prints text out out' size
printed text out out' size h T =
    let room : 0 + length T.written ≤ length out = omega (arith, T.fitting.short) in
    let over : 0 + length T.written ≡ length T.written = omega arith in
    record {
      written = T.written;
      says = T.says;
      size_is = T.fitting.written.next_is ∙ over;
      fits = omega (arith, T.fitting.written.next_is, T.fitting.short);
      after =
          T.fitting.written.list ∙ sets-eq T.written out 0 room ∙ ap (λ k. T.written ++ drop k out) over;
    }
