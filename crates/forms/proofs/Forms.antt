-- Lines that were read are in form: a text begins as the sheet of what was read, with 0 for what was not read yet.
-- Assumes nothing.
use mathlib.Core.Path.{◌≡◌, refl, sym, ap, ◌∙◌}
use mathlib.Core.List.{List, [], ◌∷◌, ◌++◌, map, flatten, append_assoc, append-nil}
use Prim.Native.Nat.{ℕ, zero, suc, ◌+◌, ◌-◌, ◌*◌, ◌≤◌}
use native.Mathlib.Omega.{arith}
use lib.ListN.{length, take, drop, replicate, length-append, length-take, length-replicate, drop_of_length-le}
use lib.Seq.{take_all}
use Rattle.choices.specs.declared.Resolve.{Resolve}
use Rattle.lines.specs.Printed.{line, row_key, Fit, FitRows}
use Rattle.lines.proofs.Round.{row_lines, RowsBack}
use Rattle.forms.specs.Sheets.{Sheet, Last, unsaid, said, Sized, Within, lines_of, last_lines, resolve_line, IsSheet, Begins, InForm}
use Rattle.forms.specs.Sheets.{taxa_key, characters_key, ancestors_key}
use Rattle.forms.specs.Parts.{Heads}
use Rattle.forms.proofs.Lines.{flatten_append, count_lines, fewer_lines}
use Rattle.forms.proofs.Lines.{after_heads, after_third, first_rows, all-rows}

-- ---- as far as a lower line

pub begins_earlier : (text : List ℕ) (s : Sheet) (j k : ℕ) → j ≤ k → Begins text s k → Begins text s j
unfolding flatten
begins_earlier text s j k h B =
    record {
      sized = B.sized;
      rest = flatten (drop j (take k (lines_of s))) ++ B.rest;
      text_is =
          B.text_is
          ∙ ap (λ (t : List ℕ). t ++ B.rest) (fewer_lines (lines_of s) j k h)
          ∙ append_assoc (flatten (take j (lines_of s))) (flatten (drop j (take k (lines_of s)))) B.rest;
      over = λ l.
          let few : length (take k (lines_of s)) ≤ j = omega (arith, length-take k (lines_of s)) in
          ap (λ (t : List (List ℕ)). flatten t ++ B.rest) (drop_of_length-le (take k (lines_of s)) few) ∙ B.over (omega arith);
    }

pub earlier : (text : List ℕ) (j k : ℕ) → j ≤ k → InForm text k → InForm text j
earlier text j k h (s, B) = (s, begins_earlier text s j k h B)

-- a sheet is in form throughout
pub sheet_begins : (text : List ℕ) (s : Sheet) (k : ℕ) → IsSheet text s → length (lines_of s) ≤ k → Begins text s k
sheet_begins text s k S h =
    record {
      sized = S.sized;
      rest = [];
      text_is = S.text_is ∙ ap flatten (sym (take_all k (lines_of s) h)) ∙ sym (append-nil (flatten (take k (lines_of s))));
      over = λ l. refl;
    }

-- ---- a sheet with some rows, and 0 in the others

-- m numbers 0
abbrev pub blank : ℕ → List ℕ
blank m = replicate m 0

length-blank : (m : ℕ) → length (blank m) ≡ m
length-blank m = length-replicate {A = ℕ} m 0

fit_blank : (m : ℕ) → Fit (blank m)
unfolding Fit
fit_blank zero = tt
fit_blank (suc m) = (omega arith, fit_blank m)

rows_filled : (c m : ℕ) (rs : List (List ℕ)) → FitRows c rs → FitRows c (rs ++ replicate m (blank c))
unfolding FitRows
rows_filled c zero [] h = tt
rows_filled c (suc m) [] h = (length-blank c, fit_blank c, rows_filled c m [] tt)
rows_filled c m (r ∷ rs) (size, fit, h) = (size, fit, rows_filled c m rs h)

pub filled : ℕ → ℕ → List ℕ → List (List ℕ) → Sheet
filled n c tree rs =
    record { taxa = n; characters = c; ancestors = tree; rows = rs ++ replicate (n - length rs) (blank c); last = unsaid }

sized_filled : (n c : ℕ) (tree : List ℕ) (rs : List (List ℕ)) → n ≤ 65535 → c ≤ 65535 → length tree ≡ 2 * n - 2 → Fit tree → length rs ≤ n
    → FitRows c rs → Sized (filled n c tree rs)
unfolding filled
sized_filled n c tree rs hn hc nodes fit few rows =
    record {
      taxa_fit = hn;
      characters_fit = hc;
      nodes = nodes;
      ancestors_fit = fit;
      each_taxon =
          length-append rs (replicate (n - length rs) (blank c))
          ∙ omega (arith, length-replicate (n - length rs) (blank c));
      rows_fit = rows_filled c (n - length rs) rs rows;
    }

no_rows : (c : ℕ) → FitRows c []
unfolding FitRows
no_rows c = tt

-- ---- as far as line 1, 2, and each row

pub first_in_form : (text : List ℕ) (n : ℕ) (rest : List ℕ) → n ≤ 65535 → text ≡ line taxa_key (n ∷ []) ++ rest → InForm text 1
unfolding flatten filled
first_in_form text n rest h e =
    let s = filled n 0 (blank (2 * n - 2)) [] in (
      s,
      record {
        sized = sized_filled n 0 (blank (2 * n - 2)) [] h (omega arith) (length-blank (2 * n - 2)) (fit_blank (2 * n - 2))
            (omega arith) (no_rows 0);
        rest = rest;
        text_is = e ∙ ap (λ (t : List ℕ). t ++ rest) (sym (append-nil (line taxa_key (n ∷ []))));
        over = λ l. absurd (omega (arith, count_lines s));
      },
    )

pub heads_in_form : (text : List ℕ) (n c i : ℕ) → Heads text n c i → InForm text 2
unfolding flatten filled
heads_in_form text n c i H =
    let s = filled n c (blank (2 * n - 2)) [] in (
      s,
      record {
        sized = sized_filled n c (blank (2 * n - 2)) [] H.taxa_fit H.characters_fit (length-blank (2 * n - 2))
            (fit_blank (2 * n - 2)) (omega arith) (no_rows c);
        rest = drop i text;
        text_is = H.text_is ∙ sym (after_heads s 0 (drop i text));
        over = λ l. absurd (omega (arith, count_lines s));
      },
    )

-- the first three lines, and the position after them
pub record Third (text : List ℕ) (n c : ℕ) (tree : List ℕ) (i j : ℕ) : Type 0 where
  pub heads : Heads text n c i
  pub within : Within n c
  pub nodes : length tree ≡ 2 * n - 2
  pub fit : Fit tree
  pub text_is : drop i text ≡ line ancestors_key tree ++ drop j text

module _ (text : List ℕ) (n c : ℕ) (tree : List ℕ) (i j : ℕ) (T : Third text n c tree i j) where
  -- the text, if its rows and the rest of it are `more`
  third_text : (more : List ℕ) → drop j text ≡ more
      → text ≡ line taxa_key (n ∷ []) ++ (line characters_key (c ∷ []) ++ (line ancestors_key tree ++ more))
  third_text more e =
      T.heads.text_is
      ∙ ap (λ (t : List ℕ). line taxa_key (n ∷ []) ++ (line characters_key (c ∷ []) ++ t))
      (T.text_is ∙ ap (λ (t : List ℕ). line ancestors_key tree ++ t) e)

  pub rows_in_form : (t : ℕ) (rs : List (List ℕ)) (next : ℕ) → RowsBack text c t j rs next → t ≤ n → InForm text (suc (suc (suc t)))
  unfolding filled
  rows_in_form t rs next R h =
      let s = filled n c tree rs in
      let Z : Sized s = sized_filled n c tree rs T.heads.taxa_fit T.heads.characters_fit T.nodes T.fit (omega (arith, R.count))
      R.fit in
      let print : flatten (take (suc (suc (suc t))) (lines_of s)) ++ drop next text
      ≡ line taxa_key (n ∷ []) ++ (line characters_key (c ∷ []) ++ (line ancestors_key tree ++ (row_lines rs ++ drop next text))) =
      after_heads s (suc t) (drop next text)
      ∙ ap (λ (l : List ℕ). line taxa_key (n ∷ []) ++ (line characters_key (c ∷ []) ++ l))
      (after_third s t (drop next text)
      ∙ ap (λ (l : List ℕ). line ancestors_key tree ++ (l ++ drop next text))
      (first_rows rs (replicate (n - length rs) (blank c)) [] t R.count)) in (
        s,
        record {
          sized = Z;
          rest = drop next text;
          text_is = third_text (row_lines rs ++ drop next text) R.text_is ∙ sym print;
          over = λ l. absurd (omega (arith, count_lines s, Z.each_taxon));
        },
      )

  module _ (rs : List (List ℕ)) (next : ℕ) (R : RowsBack text c n j rs next) where
    -- the sheet of what was read
    abbrev pub sheet_read : Last → Sheet
    sheet_read last = record { taxa = n; characters = c; ancestors = tree; rows = rs; last = last }

    sized_read : (last : Last) → Sized (sheet_read last)
    sized_read last =
        record {
          taxa_fit = T.heads.taxa_fit;
          characters_fit = T.heads.characters_fit;
          nodes = T.nodes;
          ancestors_fit = T.fit;
          each_taxon = R.count;
          rows_fit = R.fit;
        }

    -- as far as the resolve line
    pub resolve_in_form : (r : Resolve) (more : List ℕ) → drop next text ≡ resolve_line r ++ more → InForm text (suc (suc (suc (length rs + 1))))
    unfolding flatten
    resolve_in_form r more e =
        let s = sheet_read (said r) in
        let print : flatten (take (suc (suc (suc (length rs + 1)))) (lines_of s)) ++ more
        ≡ line taxa_key (n ∷ []) ++ (line characters_key (c ∷ []) ++ (line ancestors_key tree ++ (row_lines rs ++ (resolve_line r ++ more)))) =
        after_heads s (suc (length rs + 1)) more
        ∙ ap (λ (l : List ℕ). line taxa_key (n ∷ []) ++ (line characters_key (c ∷ []) ++ l))
        (after_third s (length rs + 1) more
        ∙ ap (λ (l : List ℕ). line ancestors_key tree ++ l) (all-rows s 1 more)
        ∙ ap (λ (l : List ℕ). line ancestors_key tree ++ (row_lines rs ++ (l ++ more))) (append-nil (resolve_line r))) in (
          s,
          record {
            sized = sized_read (said r);
            rest = more;
            text_is = third_text (row_lines rs ++ (resolve_line r ++ more)) (R.text_is ∙ ap (λ (l : List ℕ). row_lines rs ++ l) e) ∙ sym print;
            over = λ l. absurd (omega (arith, count_lines s));
          },
        )

    -- the whole text
    pub whole-sheet : (last : Last) → drop next text ≡ flatten (last_lines last) → length text ≤ 32768 → IsSheet text (sheet_read last)
    unfolding flatten
    whole-sheet last e short =
        record {
          sized = sized_read last;
          within = T.within;
          text_is =
              third_text (row_lines rs ++ flatten (last_lines last)) (R.text_is ∙ ap (λ (l : List ℕ). row_lines rs ++ l) e)
              ∙ ap (λ (l : List ℕ). line taxa_key (n ∷ []) ++ (line characters_key (c ∷ []) ++ (line ancestors_key tree ++ l)))
              (sym (flatten_append (map (line row_key) rs) (last_lines last)));
          short = short;
        }
