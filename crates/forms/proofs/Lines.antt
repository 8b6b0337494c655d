-- The lines of a sheet one after another, taken in parts.
-- Assumes nothing.
use mathlib.Core.Path.{◌≡◌, refl, sym, ap, ◌∙◌}
use mathlib.Core.List.{List, [], ◌∷◌, ◌++◌, map, flatten, append_assoc, map-append}
use Prim.Native.Nat.{ℕ, suc, ◌+◌, ◌≤◌}
use native.Mathlib.Omega.{arith}
use lib.ListN.{length, take, drop, length-append, length-map, take-append-drop}
use lib.Seq.{take-take, take-append-add, take_at}
use Rattle.lines.specs.Printed.{line, row_key}
use Rattle.lines.proofs.Round.{row_lines}
use Rattle.forms.specs.Sheets.{Sheet, lines_of, last_lines, taxa_key, characters_key, ancestors_key}

pub flatten_append : (ls ms : List (List ℕ)) → flatten (ls ++ ms) ≡ flatten ls ++ flatten ms
unfolding flatten
flatten_append [] ms = refl
flatten_append (l ∷ ls) ms = ap (λ (t : List ℕ). l ++ t) (flatten_append ls ms) ∙ sym (append_assoc l (flatten ls) (flatten ms))

-- two parts and then others
two_parts : (a b c d : List ℕ) → (a ++ (b ++ c)) ++ d ≡ a ++ (b ++ (c ++ d))
two_parts a b c d = append_assoc a (b ++ c) d ∙ ap (λ (t : List ℕ). a ++ t) (append_assoc b c d)

-- the lines from the third on, and from the fourth on
abbrev pub rows_and_last : Sheet → List (List ℕ)
rows_and_last s = map (line row_key) s.rows ++ last_lines s.last

abbrev pub third_and_more : Sheet → List (List ℕ)
third_and_more s = line ancestors_key s.ancestors ∷ rows_and_last s

-- the first two lines, and k lines more
pub after_heads : (s : Sheet) (k : ℕ) (rest : List ℕ) → flatten (take (suc (suc k)) (lines_of s)) ++ rest
    ≡ line taxa_key (s.taxa ∷ []) ++ (line characters_key (s.characters ∷ []) ++ (flatten (take k (third_and_more s)) ++ rest))
unfolding flatten
after_heads s k rest =
    two_parts (line taxa_key (s.taxa ∷ [])) (line characters_key (s.characters ∷ [])) (flatten (take k (third_and_more s))) rest

-- the third, and k lines more
pub after_third : (s : Sheet) (k : ℕ) (rest : List ℕ) → flatten (take (suc k) (third_and_more s)) ++ rest
    ≡ line ancestors_key s.ancestors ++ (flatten (take k (rows_and_last s)) ++ rest)
unfolding flatten
after_third s k rest = append_assoc (line ancestors_key s.ancestors) (flatten (take k (rows_and_last s))) rest

-- the first t rows, where there are more lines behind them
pub first_rows : (rs qs : List (List ℕ)) (ls : List (List ℕ)) (t : ℕ) → length rs ≡ t
    → flatten (take t (map (line row_key) (rs ++ qs) ++ ls)) ≡ row_lines rs
first_rows rs qs ls t size =
    ap (λ (l : List (List ℕ)). flatten (take t (l ++ ls))) (map-append (line row_key) rs qs)
    ∙ ap (λ (l : List (List ℕ)). flatten (take t l)) (append_assoc (map (line row_key) rs) (map (line row_key) qs) ls)
    ∙ ap flatten (take_at (map (line row_key) rs) (map (line row_key) qs ++ ls) t (length-map rs (line row_key) ∙ size))

-- all rows, and m lines more
pub all-rows : (s : Sheet) (m : ℕ) (rest : List ℕ) → flatten (take (length s.rows + m) (rows_and_last s)) ++ rest
    ≡ row_lines s.rows ++ (flatten (take m (last_lines s.last)) ++ rest)
all-rows s m rest =
    ap (λ (k : ℕ). flatten (take (k + m) (rows_and_last s)) ++ rest) (sym (length-map s.rows (line row_key)))
    ∙ ap (λ (l : List (List ℕ)). flatten l ++ rest) (take-append-add (map (line row_key) s.rows) (last_lines s.last) m)
    ∙ ap (λ (t : List ℕ). t ++ rest) (flatten_append (map (line row_key) s.rows) (take m (last_lines s.last)))
    ∙ append_assoc (row_lines s.rows) (flatten (take m (last_lines s.last))) rest

-- how many lines a sheet has
pub count_lines : (s : Sheet) → length (lines_of s) ≡ 3 + length s.rows + length (last_lines s.last)
count_lines s =
    let rows : length (rows_and_last s) ≡ length (map (line row_key) s.rows) + length (last_lines s.last) =
    length-append (map (line row_key) s.rows) (last_lines s.last) in
    let size : length (map (line row_key) s.rows) ≡ length s.rows = length-map s.rows (line row_key) in
    omega arith

-- the first j of k lines, and the others
pub fewer_lines : (ls : List (List ℕ)) (j k : ℕ) → j ≤ k → flatten (take k ls) ≡ flatten (take j ls) ++ flatten (drop j (take k ls))
fewer_lines ls j k h =
    ap flatten (sym (take-append-drop j (take k ls)))
    ∙ flatten_append (take j (take k ls)) (drop j (take k ls))
    ∙ ap (λ (l : List (List ℕ)). flatten l ++ flatten (drop j (take k ls))) (take-take j k ls h)
