-- Writing, a byte or a piece at a time.
-- Assumes nothing.
use mathlib.Core.Path.{◌≡◌, refl, sym, ap, ◌∙◌}
use mathlib.Core.List.{List, [], ◌∷◌, ◌++◌}
use Prim.Native.Nat.{ℕ, suc, ◌+◌, ◌-◌, ◌/◌, ◌%◌, ◌≤◌, ◌<◌}
use native.Mathlib.Omega.{arith}
use native.Mathlib.Numerals.{add-one}
use lib.ListN.{length, set, take, get_or, drop, drop_of_length-le, length-append}
use lib.Seq.{sets, sets-eq, take-suc, length-take-le, take-length, drop-cons}
use Rattle.numbers.specs.Printed.{decimal, continued, commas}
use Rattle.numbers.proofs.Lists.{sets_append}
use Rattle.numbers.proofs.Round.{decimal_split, decimal-one}
use Rattle.printing.specs.Writing.{Written}

-- what the list holds afterwards, part by part
pub written_is : (before after : List ℕ) (at next : ℕ) (text : List ℕ) → at + length text ≤ length before → Written before after at next text
    → after ≡ take at before ++ text ++ drop next before
written_is before after at next text room W =
    W.list ∙ sets-eq text before at room ∙ ap (λ (k : ℕ). take at before ++ text ++ drop k before) (sym W.next_is)

-- a piece after a piece
pub written_both : (a b before mid after : List ℕ) (at next end : ℕ) → Written before mid at next a → Written mid after next end b
    → Written before after at end (a ++ b)
written_both a b before mid after at next end f g =
    let step : next ≡ at + length a = f.next_is in
    let last : end ≡ next + length b = g.next_is in
    let size : length (a ++ b) ≡ length a + length b = length-append a b in
    record {
      list =
          g.list ∙ ap (λ (l : List ℕ). sets l next b) f.list ∙ ap (λ (m : ℕ). sets (sets before at a) m b) step ∙ sym (sets_append a before at b);
      next_is = omega arith;
    }

pub written_byte : (before : List ℕ) (at v : ℕ) → Written before (set before at v) at (at + 1) (v ∷ [])
written_byte before at v = record { list = refl; next_is = refl }

pub length-one : (n : ℕ) → n < 10 → length (decimal n) ≡ 1
length-one n h = ap length (decimal-one n h)

pub length_more : (n : ℕ) → 10 ≤ n → length (decimal n) ≡ length (decimal (n / 10)) + 1
length_more n h = ap length (decimal_split n h) ∙ length-append (decimal (n / 10)) ((48 + n % 10) ∷ [])

pub written_one : (before : List ℕ) (at n : ℕ) → n < 10 → Written before (set before at (48 + n)) at (at + 1) (decimal n)
written_one before at n h = rw (decimal-one n h) (written_byte before at (48 + n))

pub written-more : (before mid : List ℕ) (at next n : ℕ) → 10 ≤ n → Written before mid at next (decimal (n / 10))
    → Written before (set mid next (48 + n % 10)) at (next + 1) (decimal n)
written-more before mid at next n h f =
    rw (decimal_split n h) (written_both (decimal (n / 10)) ((48 + n % 10) ∷ []) before mid _ at next (next + 1) f
    (written_byte mid next (48 + n % 10)))

-- one byte more of a text
pub bytes_more : (out before : List ℕ) (at : ℕ) (text : List ℕ) (k : ℕ) → k < length text → out ≡ sets before at (take k text)
    → set out (at + k) (get_or text k 0) ≡ sets before at (take (k + 1) text)
bytes_more out before at text k h e =
    let one : take (k + 1) text ≡ take k text ++ (get_or text k 0 ∷ []) = rw (add-one k) (take-suc text k 0 h) in
    let size : length (take k text) ≡ k = length-take-le k text (omega arith) in
    sym (ap (sets before at) one ∙ sets_append (take k text) before at (get_or text k 0 ∷ [])
    ∙ ap (λ (m : ℕ). set (sets before at (take k text)) (at + m) (get_or text k 0)) size ∙ ap (λ (l : List ℕ). set l (at + k) (get_or text k 0))
    (sym e))

-- numbers with commas between

-- those after the first, as a slice of the list
abbrev pub rest : List ℕ → List ℕ
rest vs = take (length vs - 1) (drop 1 vs)

pub commas-first : (vs : List ℕ) → 0 < length vs → commas vs ≡ decimal (get_or vs 0 0) ++ continued (rest vs)
unfolding commas
commas-first [] h = absurd (omega arith)
commas-first (v ∷ vs) h = ap (λ (l : List ℕ). decimal v ++ continued l) (sym (ap (λ (m : ℕ). take m vs) (omega arith) ∙ take-length vs))

pub continued-step : (vs : List ℕ) (k : ℕ) → k < length vs → continued (drop k vs) ≡ 44 ∷ (decimal (get_or vs k 0) ++ continued (drop (k + 1) vs))
unfolding continued
continued-step vs k h = rw (drop-cons vs k 0 h, add-one)

pub continued_end : (vs : List ℕ) (k : ℕ) → length vs ≤ k → continued (drop k vs) ≡ []
unfolding continued
continued_end vs k h = rw (drop_of_length-le vs h)

pub commas-length : (vs : List ℕ) (v : ℕ) → v ≡ get_or vs 0 0 → 0 < length vs → length (commas vs) ≡ length (decimal v) + length (continued (rest vs))
commas-length vs v e h =
    ap length (commas-first vs h) ∙ length-append (decimal (get_or vs 0 0)) (continued (rest vs))
    ∙ ap (λ (u : ℕ). length (decimal u) + length (continued (rest vs))) (sym e)

pub continued-length : (vs : List ℕ) (k v : ℕ) → v ≡ get_or vs k 0 → k < length vs → length (continued (drop k vs))
    ≡ 1 + (length (decimal v) + length (continued (drop (k + 1) vs)))
continued-length vs k v e h =
    let a : length (continued (drop k vs)) ≡ suc (length (decimal (get_or vs k 0) ++ continued (drop (k + 1) vs))) = ap length (continued-step vs k h)
    in
    let b : length (decimal (get_or vs k 0) ++ continued (drop (k + 1) vs)) ≡ length (decimal (get_or vs k 0)) + length (continued (drop (k + 1) vs)) =
    length-append (decimal (get_or vs k 0)) (continued (drop (k + 1) vs)) in
    let d : length (decimal v) ≡ length (decimal (get_or vs k 0)) = ap (λ (u : ℕ). length (decimal u)) e in
    omega arith

pub continued-written :
    (vs : List ℕ) (k v : ℕ) (out out' : List ℕ) (i i' : ℕ) → v ≡ get_or vs k 0 → k < length vs → Written (set out i 44) out' (i + 1) i' (decimal v) →
    sets out i (continued (drop k vs)) ≡ sets out' i' (continued (drop (k + 1) vs))
continued-written vs k v out out' i i' e h w =
    let m = continued (drop (k + 1) vs) in
    ap (sets out i) (continued-step vs k h ∙ ap (λ (u : ℕ). 44 ∷ (decimal u ++ m)) (sym e))
    ∙ ap (λ (j : ℕ). sets (set out i 44) j (decimal v ++ m)) (sym (add-one i))
    ∙ sets_append (decimal v) (set out i 44) (i + 1) m
    ∙ ap (λ (l : List ℕ). sets l (i + 1 + length (decimal v)) m) (sym w.list)
    ∙ ap (λ (j : ℕ). sets out' j m) (sym w.next_is)

pub commas-written :
    (vs : List ℕ) (k v : ℕ) (before mid out : List ℕ) (at next i : ℕ) → v ≡ get_or vs 0 0 → 0 < length vs → length (rest vs) ≤ k
    → Written before mid at next (decimal v) →
    sets mid next (continued (rest vs)) ≡ sets out i (continued (drop k (rest vs))) → next + length (continued (rest vs))
    ≡ i + length (continued (drop k (rest vs))) → Written before out at i (commas vs)
commas-written vs k v before mid out at next i e h g w f s =
    let over : continued (drop k (rest vs)) ≡ [] = continued_end (rest vs) k g in
    let none : length (continued (drop k (rest vs))) ≡ 0 = ap length over in
    let all : Written before out at i (decimal v ++ continued (rest vs)) =
    written_both (decimal v) (continued (rest vs)) before mid out at next i w (record {
      list =
          ap (sets out i) (sym over) ∙ sym f;
      next_is = omega arith;
    }) in
    rw (commas-first vs h ∙ ap (λ (u : ℕ). decimal u ++ continued (rest vs)) (sym e)) all
