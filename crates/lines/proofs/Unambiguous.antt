-- A text is the print of one line, or of one list of rows, and of no other: each is found again by reading it.
-- Assumes nothing.
use mathlib.Core.Path.{◌≡◌, refl, sym, ap, ◌∙◌}
use mathlib.Core.List.{List, [], ◌∷◌, ◌++◌}
use Prim.Native.Nat.{ℕ, ◌≤◌, ◌<◌}
use native.Mathlib.Omega.{arith}
use lib.ListN.{length, drop}
use Rattle.numbers.proofs.Laws.{same_parsed}
use Rattle.lines.specs.Printed.{line, Fit, FitRows}
use Rattle.lines.specs.Lines.{all, line_at, whole, rows_at}
use Rattle.lines.proofs.Round.{head_read, line_read, row_lines, rows_read}

pub one_head : (key : List ℕ) (v w : ℕ) (s t : List ℕ) → v ≤ 65535 → w ≤ 65535 → line key (v ∷ []) ++ s ≡ line key (w ∷ []) ++ t → (v ≡ w) × (s ≡ t)
one_head key v w s t f g e =
    let text = line key (v ∷ []) ++ s in
    let (i, a, p) = head_read text key 0 v s f refl in
    let (j, b, q) = head_read text key 0 w t g e in
    let (same, at) = same_parsed v i w j (sym a ∙ b) in
    (same, sym p ∙ ap (λ k. drop k text) at ∙ q)

pub one_line : (key vs ws s t : List ℕ) → 0 < length vs → length vs ≡ length ws → Fit vs → Fit ws → line key vs ++ s ≡ line key ws ++ t
    → (vs ≡ ws) × (s ≡ t)
one_line key vs ws s t some size f g e =
    let text = line key vs ++ s in
    let (i, a, p) = line_read text key 0 vs s some f refl in
    let (j, b, q) = line_read text key 0 ws t (omega arith) g e in
    let same : all vs i ≡ all ws j = sym a ∙ ap (λ k. line_at text key k 0) size ∙ b in
    let at : i ≡ j = cc in
    ((cc), sym p ∙ ap (λ k. drop k text) at ∙ q)

pub one_table : (width : ℕ) → 0 < width → (rs qs : List (List ℕ)) (s t : List ℕ) → length rs ≡ length qs → FitRows width rs → FitRows width qs
    → row_lines rs ++ s ≡ row_lines qs ++ t → (rs ≡ qs) × (s ≡ t)
one_table width w rs qs s t size f g e =
    let text = row_lines rs ++ s in
    let (i, a, p) = rows_read text width w rs 0 0 s f refl in
    let (j, b, q) = rows_read text width w qs 0 0 t g e in
    let same : whole rs i ≡ whole qs j = sym a ∙ ap (λ k. rows_at text width k 0 0) size ∙ b in
    let at : i ≡ j = cc in
    ((cc), sym p ∙ ap (λ k. drop k text) at ∙ q)
