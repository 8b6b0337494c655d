-- One step of reading a line, and of reading the rows; and what a loop that stores them leaves. What is still to be read, stored from here on, gives
-- what all of it gives: `Alike` and `AlikeRows` say so.
-- Assumes nothing.
use mathlib.Core.Path.{◌≡◌, refl, sym, ap, ◌∙◌}
use mathlib.Core.List.{List, [], ◌∷◌, ◌++◌, flatten}
use Prim.Native.Nat.{ℕ, zero, suc, ◌+◌, ◌≤◌, ◌<◌}
use native.Mathlib.Omega.{arith}
use native.Mathlib.Numerals.{add-one}
use lib.ListN.{length, set}
use lib.Seq.{sets}
use Rattle.std.specs.Prelude.{Option, Some, None, Result, Ok, Err}
use Rattle.numbers.specs.Numbers.{parsed, item_at}
use Rattle.numbers.proofs.Lists.{sets_append}
use Rattle.lines.specs.Printed.{row_key}
use Rattle.lines.specs.Lines.{Numbers, all, cut, mark_of, before, then, values_at, line_at, told_line, numbers_of, Stored}
use Rattle.lines.specs.Lines.{Table, whole, wrong, above, then_rows, rows_at, told_rows, cells_of, StoredRows}

-- ---- the numbers of a line

-- v stored from `put` on in `out`, and w from `put'` on in `out'`, tell and leave the same
pub record Alike (v : Numbers) (out : List ℕ) (put : ℕ) (w : Numbers) (out' : List ℕ) (put' : ℕ) : Type 0 where
  pub told : told_line v ≡ told_line w
  pub list : sets out put (numbers_of v) ≡ sets out' put' (numbers_of w)

pub alike_same : (v : Numbers) (out : List ℕ) (put : ℕ) → Alike v out put v out put
alike_same v out put = record { told = refl; list = refl }

told-before : (v : ℕ) (rest : Numbers) → told_line (before v rest) ≡ told_line rest
unfolding before
told-before v (all vs next) = refl
told-before v (cut vs) = refl

numbers_before : (v : ℕ) (rest : Numbers) → numbers_of (before v rest) ≡ v ∷ numbers_of rest
unfolding before
numbers_before v (all vs next) = refl
numbers_before v (cut vs) = refl

pub values_bad : (text : List ℕ) (left i : ℕ) → 0 < left → item_at text (mark_of left) i ≡ None → values_at text left i ≡ cut []
unfolding values_at then
values_bad text zero i p e = absurd (omega arith)
values_bad text (suc k) i p e = rw e

pub values_more : (text : List ℕ) (left i v next more : ℕ) → left ≡ more + 1 → item_at text (mark_of left) i ≡ parsed v next
    → values_at text left i ≡ before v (values_at text more next)
unfolding values_at then
values_more text zero i v next more p e = absurd (omega arith)
values_more text (suc k) i v next more p e =
    let z : k ≡ more = omega arith in rw e (ap (λ (m : ℕ). before v (values_at text m next)) z)

pub values_end : (text : List ℕ) (left i : ℕ) → left ≤ 0 → values_at text left i ≡ all [] i
unfolding values_at
values_end text zero i p = refl
values_end text (suc k) i p = absurd (omega arith)

-- one number more is stored
pub alike_more :
    (v : Numbers) (out : List ℕ) (from : ℕ) (w : Numbers) (out' : List ℕ) (put put' a : ℕ) (rest : Numbers) →
    Alike v out from w out' put → w ≡ before a rest → put' ≡ put + 1 → Alike v out from rest (set out' put a) put'
alike_more v out from w out' put put' a rest A e p =
    record {
      told = A.told ∙ ap told_line e ∙ told-before a rest;
      list =
          A.list
          ∙ ap (λ (l : Numbers). sets out' put (numbers_of l)) e
          ∙ ap (sets out' put) (numbers_before a rest)
          ∙ ap (λ (m : ℕ). sets (set out' put a) m (numbers_of rest)) (sym (p ∙ add-one put));
    }

-- nothing more is to be stored
pub alike_bad : (v : Numbers) (out : List ℕ) (from : ℕ) (w : Numbers) (out' : List ℕ) (put : ℕ) (r : Option ℕ) →
    Alike v out from w out' put → w ≡ cut [] → r ≡ None → Stored v out from r out'
alike_bad v out from w out' put r A e n =
    record { told = n ∙ sym (A.told ∙ ap told_line e); list = sym (A.list ∙ ap (λ (l : Numbers). sets out' put (numbers_of l)) e) }

pub alike_end : (v : Numbers) (out : List ℕ) (from : ℕ) (w : Numbers) (out' : List ℕ) (put next : ℕ) →
    Alike v out from w out' put → w ≡ all [] next → Stored v out from (Some next) out'
alike_end v out from w out' put next A e =
    record { told = sym (A.told ∙ ap told_line e); list = sym (A.list ∙ ap (λ (l : Numbers). sets out' put (numbers_of l)) e) }

-- what is told of a line says whether it is in form
pub line-good : (v : Numbers) (next : ℕ) → Some next ≡ told_line v → v ≡ all (numbers_of v) next
line-good (all vs n) next e = cc
line-good (cut vs) next e = absurd cc

pub line_bad : (v : Numbers) → None ≡ told_line v → v ≡ cut (numbers_of v)
line_bad (all vs n) e = absurd cc
line_bad (cut vs) e = refl

-- ---- the rows

-- t stored from `put` on in `out`, and u from `put'` on in `out'`, tell and leave the same
pub record AlikeRows (t : Table) (out : List ℕ) (put : ℕ) (u : Table) (out' : List ℕ) (put' : ℕ) : Type 0 where
  pub told : told_rows t ≡ told_rows u
  pub list : sets out put (cells_of t) ≡ sets out' put' (cells_of u)

pub rows_alike_same : (t : Table) (out : List ℕ) (put : ℕ) → AlikeRows t out put t out put
rows_alike_same t out put = record { told = refl; list = refl }

told-above : (row : List ℕ) (rest : Table) → told_rows (above row rest) ≡ told_rows rest
unfolding above
told-above row (whole rs next) = refl
told-above row (wrong l vs) = refl

cells-above : (row : List ℕ) (rest : Table) → cells_of (above row rest) ≡ row ++ cells_of rest
unfolding above flatten
cells-above row (whole rs next) = refl
cells-above row (wrong l vs) = refl

pub rows_bad : (text : List ℕ) (width left l i : ℕ) (vs : List ℕ) → 0 < left → line_at text row_key width i ≡ cut vs
    → rows_at text width left l i ≡ wrong l vs
unfolding rows_at then_rows
rows_bad text width zero l i vs p e = absurd (omega arith)
rows_bad text width (suc k) l i vs p e = rw e

pub rows_more : (text : List ℕ) (width left l i : ℕ) (vs : List ℕ) (next more l' : ℕ) → left ≡ more + 1 → l' ≡ l + 1
    → line_at text row_key width i ≡ all vs next → rows_at text width left l i ≡ above vs (rows_at text width more l' next)
unfolding rows_at then_rows
rows_more text width zero l i vs next more l' p q e = absurd (omega arith)
rows_more text width (suc k) l i vs next more l' p q e =
    let z : k ≡ more = omega arith in
    rw e (ap (λ (m : ℕ). above vs (rows_at text width m (l + 1) next)) z ∙ ap (λ (m : ℕ). above vs (rows_at text width more m next)) (sym q))

pub rows_end : (text : List ℕ) (width left l i : ℕ) → left ≤ 0 → rows_at text width left l i ≡ whole [] i
unfolding rows_at
rows_end text width zero l i p = refl
rows_end text width (suc k) l i p = absurd (omega arith)

-- one row more is stored: the same as with a number, but what is stored is a list of any width
pub rows_alike_more :
    (t : Table) (out : List ℕ) (from : ℕ) (u : Table) (out' : List ℕ) (put width : ℕ) (row : List ℕ) (rest : Table) (out'' : List ℕ) →
    AlikeRows t out from u out' put → u ≡ above row rest → length row ≡ width → out'' ≡ sets out' put row
    → AlikeRows t out from rest out'' (put + width)
rows_alike_more t out from u out' put width row rest out'' A e size o =
    record {
      told = A.told ∙ ap told_rows e ∙ told-above row rest;
      list =
          A.list
          ∙ ap (λ (w : Table). sets out' put (cells_of w)) e
          ∙ ap (sets out' put) (cells-above row rest)
          ∙ sets_append row out' put (cells_of rest)
          ∙ ap (λ (l : List ℕ). sets l (put + length row) (cells_of rest)) (sym o)
          ∙ ap (λ (m : ℕ). sets out'' (put + m) (cells_of rest)) size;
    }

-- no row more is to be stored
pub rows_alike_wrong :
    (t : Table) (out : List ℕ) (from : ℕ) (u : Table) (out' : List ℕ) (put l : ℕ) (vs out'' : List ℕ) (r : Result ℕ ℕ) →
    AlikeRows t out from u out' put → u ≡ wrong l vs → out'' ≡ sets out' put vs → r ≡ Err l → StoredRows t out from r out''
rows_alike_wrong t out from u out' put l vs out'' r A e o n =
    record { told = n ∙ sym (A.told ∙ ap told_rows e); list = o ∙ sym (A.list ∙ ap (λ (w : Table). sets out' put (cells_of w)) e) }

pub rows_alike_end :
    (t : Table) (out : List ℕ) (from : ℕ) (u : Table) (out' : List ℕ) (put next : ℕ) →
    AlikeRows t out from u out' put → u ≡ whole [] next → StoredRows t out from (Ok next) out'
unfolding flatten
rows_alike_end t out from u out' put next A e =
    record { told = sym (A.told ∙ ap told_rows e); list = sym (A.list ∙ ap (λ (w : Table). sets out' put (cells_of w)) e) }

-- what is told of the rows says whether they are in form
pub rows_in : Table → List (List ℕ)
rows_in (whole rs next) = rs
rows_in (wrong l vs) = []

pub rows-good : (t : Table) (next : ℕ) → Ok next ≡ told_rows t → t ≡ whole (rows_in t) next
unfolding rows_in
rows-good (whole rs n) next e = cc
rows-good (wrong l vs) next e = absurd cc

pub rows-wrong : (t : Table) (l : ℕ) → Err l ≡ told_rows t → t ≡ wrong l (cells_of t)
rows-wrong (whole rs n) l e = absurd cc
rows-wrong (wrong m vs) l e = cc
