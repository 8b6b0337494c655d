-- What a text is, as far as its lines were read and their numbers stored in a list one after the other; and what a scan then says.
-- Assumes nothing.
use mathlib.Core.Path.{◌≡◌, refl, sym, ap, subst, ◌∙◌}
use mathlib.Core.List.{List, [], ◌++◌, flatten, append_assoc}
use Prim.Native.Nat.{ℕ, ◌+◌, ◌-◌, ◌*◌, ◌≤◌}
use native.Mathlib.Omega.{arith}
use lib.ListN.{length, take, drop}
use lib.Seq.{sets, sets-eq, length-sets, take_at}
use Rattle.choices.specs.declared.Resolve.{Resolve}
use Rattle.choices.specs.declared.Resolve.TheVariants.{Acctran}
use Rattle.std.specs.Prelude.{Option, Some, None, unwrap_or, Result, Ok, Err}
use Rattle.refusals.specs.declared.Reason.TheVariants.{Form}
use Rattle.refusals.specs.declared.Refusal.{Refusal}
use Rattle.refusals.specs.Checks.{Refuses}
use Rattle.lines.specs.Lines.{Numbers, line_at, all, numbers_of, Stored, Table, rows_at, whole, cells_of, StoredRows}
use Rattle.lines.proofs.Laws.{line-good, line_bad, rows_in, rows-good, rows-wrong}
use Rattle.lines.proofs.Round.{RowsBack, rows_cut}
use Rattle.forms.specs.Sheets.{Sheet, choice, IsSheet, Within, unsaid, said, resolve_line, ancestors_key}
use Rattle.forms.specs.Faults.{text_checks}
use Rattle.forms.specs.Parts.{Heads}
use Rattle.forms.proofs.Forms.{Third, sheet_read}
use Rattle.forms.proofs.Faults.{refused_third, refused_row, refused_end}
use Rattle.forms.proofs.Reading.{third_read, third_reach, rows_are, rows_inside, rows-room, sheet_nothing, sheet-choice}
use Rattle.bodies.specs.declared.Head.{Head}
use Rattle.bodies.specs.Scanned.{Ends, Holds, Scanned}

-- a refusal that was returned
pub refused_as : (text : List ℕ) (r : Result Head Refusal) (q : Refusal) (out : List ℕ) → r ≡ Err q → Refuses (text_checks text) q
    → length out ≡ 16384 → Scanned text r out
refused_as text r q out e h l = subst (λ (a : Result Head Refusal). Scanned text a out) (sym e) (h, l)

-- ---- the numbers stored

-- two lists stored one after the other from the front
laid : (out t m : List ℕ) → length t + length m ≤ length out
    → sets (sets out 0 t) (length t) m ≡ t ++ (m ++ drop (length t + length m) (sets out 0 t))
laid out t m h =
    let size : length (sets out 0 t) ≡ length out = length-sets out 0 t in
    let first : sets out 0 t ≡ t ++ drop (0 + length t) out = sets-eq t out 0 (omega arith) in
    let part : take (length t) (sets out 0 t) ≡ t = ap (take (length t)) first ∙ take_at t _ (length t) refl in
    sets-eq m (sets out 0 t) (length t) (omega arith)
    ∙ ap (λ (l : List ℕ). l ++ m ++ drop (length t + length m) (sets out 0 t)) part
    ∙ append_assoc t m (drop (length t + length m) (sets out 0 t))

-- a sheet that was read, and its numbers stored
pub holds : (text : List ℕ) (s : Sheet) (out out₁ out₂ : List ℕ) → IsSheet text s → length s.ancestors + length (flatten s.rows) ≤ 16384
    → length out ≡ 16384 → out₁ ≡ sets out 0 s.ancestors → out₂ ≡ sets out₁ (length s.ancestors) (flatten s.rows)
    → Holds text s.taxa s.characters (choice s.last) out₂
holds text s out out₁ out₂ S room long e f =
    let whole : out₂ ≡ sets (sets out 0 s.ancestors) (length s.ancestors) (flatten s.rows) =
    f ∙ ap (λ (l : List ℕ). sets l (length s.ancestors) (flatten s.rows)) e in
    record {
      sheet = s;
      is_sheet = S;
      taxa_is = refl;
      characters_is = refl;
      choice_is = refl;
      rest = drop (length s.ancestors + length (flatten s.rows)) (sets out 0 s.ancestors);
      list = whole ∙ laid out s.ancestors (flatten s.rows) (omega arith);
      long = ap length whole ∙ length-sets _ (length s.ancestors) (flatten s.rows) ∙ length-sets out 0 s.ancestors ∙ long;
    }

-- ---- the lines after the heads, read one after the other

module _ {text : List ℕ} {n c i : ℕ} (H : Heads text n c i) (W : Within n c) (short : length text ≤ 32768) where
  -- the line of the ancestors, and the rows that stand from j on
  abbrev third_line : Numbers
  third_line = line_at text ancestors_key (2 * n - 2) i

  abbrev table_at : ℕ → Table
  table_at j = rows_at text c n 4 j

  -- the line of the ancestors is not in form
  pub wrong_third : {out out₁ : List ℕ} → Stored third_line out 0 None out₁ → Refuses (text_checks text) (record { reason = Form; place = 3 })
  wrong_third S = refused_third text short n c i H _ W (line_bad third_line S.told)

  -- it is in form, and ends at j; the ancestors are stored
  module _ {j : ℕ} {out out₁ : List ℕ} (S : Stored third_line out 0 (Some j) out₁) where
    abbrev tree : List ℕ
    tree = numbers_of third_line

    tree_read : third_line ≡ all tree j
    tree_read = line-good third_line j S.told

    third : Third text n c tree i j
    third = third_read text n c i H W tree j tree_read

    pub third_end : (i + 2 * (2 * n - 2) ≤ j) × (j ≤ length text)
    third_end = third_reach text n c i H W tree j tree_read

    -- a row is not in form
    pub wrong_row : {l : ℕ} {out₂ : List ℕ} → StoredRows (table_at j) out₁ (2 * n - 2) (Err l) out₂
        → Refuses (text_checks text) (record { reason = Form; place = l })
    wrong_row {l} R =
        refused_row text short n c tree i j third l
        (rows_cut text c W.least_characters n 4 j l _ (rows-wrong (table_at j) l R.told))

    -- the rows are in form, and end at `next`; the cells are stored after the ancestors
    module _ {next : ℕ} {out₂ : List ℕ} (R : StoredRows (table_at j) out₁ (2 * n - 2) (Ok next) out₂) where
      abbrev cells : List (List ℕ)
      cells = rows_in (table_at j)

      rows_read : table_at j ≡ whole cells next
      rows_read = rows-good (table_at j) next R.told

      back : RowsBack text c n j cells next
      back = rows_are text n c i H W tree j tree_read cells next rows_read

      pub rows_end : next ≤ length text
      rows_end = rows_inside text n c i H W tree j tree_read cells next rows_read

      -- what stands after them is not in form
      pub wrong_end : {l : ℕ} → Ends (drop next text) (4 + n) (Err l) → Refuses (text_checks text) (record { reason = Form; place = l })
      wrong_end {l} e = refused_end text short n c tree i j third cells next back l e

      -- it is: the text is a sheet, and its numbers are stored
      module _ (long : length out ≡ 16384) where
        stored : out₂ ≡ sets out₁ (length tree) (flatten cells)
        stored =
            R.list
            ∙ ap (λ (t : Table). sets out₁ (2 * n - 2) (cells_of t)) rows_read
            ∙ ap (λ (m : ℕ). sets out₁ m (flatten cells)) (sym third.nodes)

        room : length tree + length (flatten cells) ≤ 16384
        room = rows-room text n c i H W tree j tree_read cells next rows_read short

        done_nothing : drop next text ≡ [] → Holds text n c Acctran out₂
        done_nothing d =
            holds text (sheet_read text n c tree i j third cells next back unsaid) out out₁ out₂
            (sheet_nothing text n c i H W tree j tree_read cells next rows_read short d) room long S.list stored

        done_choice : {r : Resolve} → drop next text ≡ resolve_line r → Holds text n c r out₂
        done_choice {r} d =
            holds text (sheet_read text n c tree i j third cells next back (said r)) out out₁ out₂
            (sheet-choice text n c i H W tree j tree_read cells next rows_read short r d) room long S.list stored

        pub done : (last : Option Resolve) → Ends (drop next text) (4 + n) (Ok last) → Holds text n c (unwrap_or last Acctran) out₂
        done None d = done_nothing d
        done (Some r) d = done_choice d
