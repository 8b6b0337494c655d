-- Reading and writing a number undo each other.
-- Assumes nothing.
use mathlib.Core.Path.{◌≡◌, refl, sym, ap, ◌∙◌}
use mathlib.Core.Logic.{⊎_elim}
use mathlib.Core.List.{List, [], ◌∷◌, ◌++◌, append_assoc}
use mathlib.Core.Bool.{Bool, true, false, ◌&&◌}
use Prim.Native.Nat.{ℕ, zero, suc, ◌+◌, ◌-◌, ◌*◌, ◌/◌, ◌%◌, ◌≤◌, ◌<◌}
use native.Mathlib.Omega.{arith}
use borrow.Author.Tests.{ltb-true, lt-ltb, le-ltb, eq-eqb, ne_eqb, eqb-true}
use lib.Dec.{eqb, ltb}
use lib.ListN.{length, drop, get_or, length-append}
use Rattle.std.specs.Prelude.{Some, None}
use Rattle.numbers.specs.Numbers.{digit_of, parsed, digits_from, number_from, number_at, ended, item_at, starts_at}
use Rattle.numbers.specs.Printed.{decimal_of, decimal}
use lib.Seq.{append_snoc, drop-drop, drop-cons, drop-append_seam, get_or-drop, get_or-append_seam}
use native.Mathlib.Nat.{add-zero}
use native.Mathlib.Numerals.{add-one}
use Rattle.numbers.proofs.Laws.{below_or, digit_or, digit_some, digit_back, same_parsed, digits_reach, number_reach, item_parts, byte_in}

pub digit-of : (d : ℕ) → d ≤ 9 → digit_of (48 + d) ≡ Some d
digit-of d h = digit_some (48 + d) (omega arith) (omega arith) ∙ ap Some (omega arith)

pub few_digits : (most n : ℕ) → n < 10 → decimal_of most n ≡ (48 + n) ∷ []
unfolding decimal_of
few_digits zero n h = refl
few_digits (suc most) n h = rw (lt-ltb n 10 h)

pub more_digits : (most n : ℕ) → 10 ≤ n → decimal_of (suc most) n ≡ decimal_of most (n / 10) ++ ((48 + n % 10) ∷ [])
unfolding decimal_of
more_digits most n h = rw (le-ltb n 10 h)

digits_digit : (v i d : ℕ) (s : List ℕ) → d ≤ 9 → v * 10 + d ≤ 65535 → digits_from v i ((48 + d) ∷ s) ≡ digits_from (v * 10 + d) (i + 1) s
unfolding digits_from
digits_digit v i d s h g = rw (digit-of d h, le-ltb 65535 (v * 10 + d) g)

number_digit : (i d : ℕ) (s : List ℕ) → d ≤ 9 → 0 < d → number_from i ((48 + d) ∷ s) ≡ digits_from d (i + 1) s
unfolding number_from
number_digit i d s h g = rw (digit-of d h, ne_eqb d 0 (λ e. omega arith))

-- one digit more, after a part that reads as `digits_from`
read_one :
    (l : List ℕ) (n i : ℕ) (s : List ℕ) → n ≤ 65535 →
    ((t : List ℕ) → number_from i (l ++ t) ≡ digits_from (n / 10) (i + length l) t) →
    number_from i (l ++ ((48 + n % 10) ∷ []) ++ s) ≡ digits_from n (i + length (l ++ ((48 + n % 10) ∷ []))) s
read_one l n i s h f =
    let e : n / 10 * 10 + n % 10 ≡ n = omega arith in
    let low : n % 10 ≤ 9 = omega arith in
    let fits : n / 10 * 10 + n % 10 ≤ 65535 = omega arith in
    let size : length (l ++ ((48 + n % 10) ∷ [])) ≡ length l + 1 = length-append l ((48 + n % 10) ∷ []) in
    let k : i + length l + 1 ≡ i + (length l + 1) = omega arith in
    rw (size, append_assoc)
    (f ((48 + n % 10) ∷ s)
    ∙ digits_digit (n / 10) (i + length l) (n % 10) s low fits
    ∙ ap (λ (m : ℕ). digits_from m (i + length l + 1) s) e
    ∙ ap (λ (m : ℕ). digits_from n m s) k)

-- a number that is not 0 is read up to its last digit
read_most :
    (most n i : ℕ) (s : List ℕ) → n ≤ most → 0 < n → n ≤ 65535 →
    number_from i (decimal_of most n ++ s) ≡ digits_from n (i + length (decimal_of most n)) s
read_most zero n i s m p h = absurd (omega arith)
read_most (suc most) n i s m p h =
    ⊎_elim
    (λ l.
    let low : n ≤ 9 = omega arith in
    rw (few_digits (suc most) n l) (number_digit i n s low p))
    (λ l.
    let a : n / 10 ≤ most = omega arith in
    let b : 0 < n / 10 = omega arith in
    let d : n / 10 ≤ 65535 = omega arith in
    rw (more_digits most n l) (read_one (decimal_of most (n / 10)) n i s h (λ t. read_most most (n / 10) i t a b d)))
    (below_or n 10)

-- no digit stands at the front
pub data Stop : List ℕ → Type 0 where
  over : Stop []
  other : {b : ℕ} {s : List ℕ} → digit_of b ≡ None → Stop (b ∷ s)

digits_stop : (v i : ℕ) (s : List ℕ) → Stop s → digits_from v i s ≡ parsed v i
unfolding digits_from
digits_stop v i [] over = refl
digits_stop v i (b ∷ s) (other h) = rw h

zero_read : (i : ℕ) (s : List ℕ) → number_from i (48 ∷ s) ≡ parsed 0 (i + 1)
unfolding number_from digit_of
zero_read i s = refl

-- what is written is read
pub read_decimal : (n i : ℕ) (s : List ℕ) → n ≤ 65535 → Stop s → number_from i (decimal n ++ s) ≡ parsed n (i + length (decimal n))
unfolding decimal_of
read_decimal zero i s h e = zero_read i s
read_decimal (suc n) i s h e =
    let p : 0 < suc n = omega arith in
    let q : suc n ≤ suc n = omega arith in
    read_most (suc n) (suc n) i s q p h ∙ digits_stop (suc n) (i + length (decimal (suc n))) s e

-- what is read was written

decimal_fuel : (f g n : ℕ) → n ≤ f → n ≤ g → decimal_of f n ≡ decimal_of g n
decimal_fuel zero g n h k = let low : n < 10 = omega arith in few_digits zero n low ∙ sym (few_digits g n low)
decimal_fuel (suc f) zero n h k = let low : n < 10 = omega arith in few_digits (suc f) n low ∙ sym (few_digits zero n low)
decimal_fuel (suc f) (suc g) n h k =
    ⊎_elim
    (λ low. few_digits (suc f) n low ∙ sym (few_digits (suc g) n low))
    (λ high.
    let a : n / 10 ≤ f = omega arith in
    let b : n / 10 ≤ g = omega arith in
    more_digits f n high ∙ ap (λ (l : List ℕ). l ++ ((48 + n % 10) ∷ [])) (decimal_fuel f g (n / 10) a b) ∙ sym (more_digits g n high))
    (below_or n 10)

pub decimal-more : (v d : ℕ) → 0 < v → d ≤ 9 → decimal (v * 10 + d) ≡ decimal v ++ ((48 + d) ∷ [])
decimal-more v d p h =
    let n = v * 10 + d in
    let high : 10 ≤ n = omega arith in
    let self : n ≤ n = omega arith in
    let next : n ≤ suc n = omega arith in
    let up : v ≤ n = omega arith in
    let own : v ≤ v = omega arith in
    let quotient : n / 10 ≡ v = omega arith in
    let rest : n % 10 ≡ d = omega arith in
    decimal_fuel n (suc n) n self next
    ∙ more_digits n n high
    ∙ ap (λ (m : ℕ). decimal_of n m ++ ((48 + n % 10) ∷ [])) quotient
    ∙ ap (λ (m : ℕ). decimal_of n v ++ ((48 + m) ∷ [])) rest
    ∙ ap (λ (l : List ℕ). l ++ ((48 + d) ∷ [])) (decimal_fuel n v v up own)

module _ (v i b : ℕ) (bs : List ℕ) where
  step_stop : digit_of b ≡ None → digits_from v i (b ∷ bs) ≡ parsed v i
  unfolding digits_from
  step_stop e = rw e

  step-over : (d : ℕ) → digit_of b ≡ Some d → 65535 < v * 10 + d → digits_from v i (b ∷ bs) ≡ None
  unfolding digits_from
  step-over d e g = rw (e, lt-ltb 65535 (v * 10 + d) g)

  step-on : (d : ℕ) → digit_of b ≡ Some d → v * 10 + d ≤ 65535 → digits_from v i (b ∷ bs) ≡ digits_from (v * 10 + d) (i + 1) bs
  unfolding digits_from
  step-on d e g = rw (e, le-ltb 65535 (v * 10 + d) g)

-- the digit b after v, and then bs
moved : (v b d : ℕ) (bs : List ℕ) → 0 < v → digit_of b ≡ Some d → decimal v ++ b ∷ bs ≡ decimal (v * 10 + d) ++ bs
moved v b d bs p e =
    let (low, byte) = digit_back b d e in
    sym (append_snoc (decimal v) b bs)
    ∙ ap (λ (c : ℕ). decimal v ++ (c ∷ []) ++ bs) byte
    ∙ ap (λ (l : List ℕ). l ++ bs) (sym (decimal-more v d p low))

drop-on : (i next b : ℕ) (bs : List ℕ) → i + 1 ≤ next → drop (next - (i + 1)) bs ≡ drop (next - i) (b ∷ bs)
drop-on i next b bs h =
    let e : suc (next - (i + 1)) ≡ next - i = omega arith in
    ap (λ (m : ℕ). drop m (b ∷ bs)) e

ends : (v i n next : ℕ) (l : List ℕ) → parsed v i ≡ parsed n next → decimal v ++ l ≡ decimal n ++ drop (next - i) l
ends v i n next l e =
    let (a, b) = same_parsed v i n next e in
    let z : 0 ≡ next - i = omega arith in
    ap (λ (m : ℕ). decimal m ++ l) a ∙ ap (λ (m : ℕ). decimal n ++ drop m l) z

-- nothing that is read is none
none_read : {P : Type 0} (n next : ℕ) → None ≡ parsed n next → P
none_read n next e = absurd cc

digits_back : (v i : ℕ) (l : List ℕ) (n next : ℕ) → 0 < v → v ≤ 65535 → digits_from v i l ≡ parsed n next → decimal v ++ l ≡ decimal n ++ drop (next - i) l
unfolding digits_from
digits_back v i [] n next p h e = ends v i n next [] e
digits_back v i (b ∷ bs) n next p h e =
    ⊎_elim
    (λ stop. ends v i n next (b ∷ bs) (sym (step_stop v i b bs stop) ∙ e))
    (λ (d, digit).
    ⊎_elim
    (λ big. none_read n next (sym (step-over v i b bs d digit big) ∙ e))
    (λ fits.
    let f : digits_from (v * 10 + d) (i + 1) bs ≡ parsed n next = sym (step-on v i b bs d digit fits) ∙ e in
    let q : 0 < v * 10 + d = omega arith in
    let far : i + 1 ≤ next = (digits_reach (v * 10 + d) (i + 1) bs n next fits f).0 in
    moved v b d bs p digit
    ∙ digits_back (v * 10 + d) (i + 1) bs n next q fits f
    ∙ ap (λ (l : List ℕ). decimal n ++ l) (drop-on i next b bs far))
    (below_or 65535 (v * 10 + d)))
    (digit_or b)

module _ (i b : ℕ) (bs : List ℕ) where
  first_none : digit_of b ≡ None → number_from i (b ∷ bs) ≡ None
  unfolding number_from
  first_none e = rw e

  first-zero : digit_of b ≡ Some 0 → number_from i (b ∷ bs) ≡ parsed 0 (i + 1)
  unfolding number_from
  first-zero e = rw e

  first_more : (d : ℕ) → digit_of b ≡ Some d → 0 < d → number_from i (b ∷ bs) ≡ digits_from d (i + 1) bs
  unfolding number_from
  first_more d e g = rw (e, ne_eqb d 0 (λ z. omega arith))

number_back : (i : ℕ) (l : List ℕ) (n next : ℕ) → number_from i l ≡ parsed n next → l ≡ decimal n ++ drop (next - i) l
unfolding number_from decimal_of
number_back i [] n next e = none_read n next e
number_back i (b ∷ bs) n next e =
    ⊎_elim
    (λ stop. none_read n next (sym (first_none i b bs stop) ∙ e))
    (λ (d, digit).
    let (low, byte) = digit_back b d digit in
    ⊎_elim
    (λ some.
    let f : digits_from d (i + 1) bs ≡ parsed n next = sym (first_more i b bs d digit some) ∙ e in
    let far : i + 1 ≤ next = (digits_reach d (i + 1) bs n next (omega arith) f).0 in
    ap (λ (c : ℕ). c ∷ bs) byte
    ∙ ap (λ (l : List ℕ). l ++ bs) (sym (few_digits d d (omega arith)))
    ∙ digits_back d (i + 1) bs n next some (omega arith) f
    ∙ ap (λ (l : List ℕ). decimal n ++ l) (drop-on i next b bs far))
    (λ none.
    let zero_digit : d ≡ 0 = omega arith in
    let (z, same) = same_parsed 0 (i + 1) n next (sym (first-zero i b bs (digit ∙ ap Some zero_digit)) ∙ e) in
    let here : b ≡ 48 = omega arith in
    let k : suc 0 ≡ next - i = omega arith in
    ap (λ (c : ℕ). c ∷ bs) here ∙ ap (λ (m : ℕ). decimal m ++ bs) z ∙ ap (λ (m : ℕ). decimal n ++ drop m (b ∷ bs)) k)
    (below_or 0 d))
    (digit_or b)

-- what is read is what was written: the number at i is the decimal digits there
pub decimal_read : (text : List ℕ) (i n next : ℕ) → number_at text i ≡ parsed n next → drop i text ≡ decimal n ++ drop next text
decimal_read text i n next e =
    let far : i + 1 ≤ next = (number_reach i (drop i text) n next e).0 in
    let k : i + (next - i) ≡ next = omega arith in
    number_back i (drop i text) n next e
    ∙ ap (λ (l : List ℕ). decimal n ++ l) (drop-drop (next - i) i text ∙ ap (λ (m : ℕ). drop m text) k)

pub decimal_split : (n : ℕ) → 10 ≤ n → decimal n ≡ decimal (n / 10) ++ ((48 + n % 10) ∷ [])
decimal_split n h =
    let self : n ≤ n = omega arith in
    let next : n ≤ suc n = omega arith in
    let up : n / 10 ≤ n = omega arith in
    let own : n / 10 ≤ n / 10 = omega arith in
    decimal_fuel n (suc n) n self next
    ∙ more_digits n n h
    ∙ ap (λ (l : List ℕ). l ++ ((48 + n % 10) ∷ [])) (decimal_fuel n (n / 10) (n / 10) up own)

pub decimal-one : (n : ℕ) → n < 10 → decimal n ≡ (48 + n) ∷ []
decimal-one n h = few_digits n n h

-- a number and the byte after it

pub item_back : (text : List ℕ) (end i w n : ℕ) → 0 < end → item_at text end i ≡ parsed w n → drop i text ≡ decimal w ++ end ∷ drop n text
item_back text end i w n p e =
    let (m, g, here, far) = item_parts text end i w n e in
    let inside : m < length text = byte_in text m end p here in
    decimal_read text i w m g
    ∙ ap (λ (l : List ℕ). decimal w ++ l) (drop-cons text m 0 inside)
    ∙ ap (λ (b : ℕ). decimal w ++ b ∷ drop (suc m) text) here
    ∙ ap (λ (k : ℕ). decimal w ++ end ∷ drop k text) (sym (add-one m) ∙ far)

-- what follows a part
pub after : (text : List ℕ) (i : ℕ) (l s : List ℕ) → drop i text ≡ l ++ s → drop (i + length l) text ≡ s
after text i l s e = sym (drop-drop (length l) i text) ∙ ap (drop (length l)) e ∙ drop-append_seam l s

pub item_read :
    (text : List ℕ) (end i v : ℕ) (s : List ℕ) → v ≤ 65535 → digit_of end ≡ None → drop i text ≡ decimal v ++ end ∷ s →
    item_at text end i ≡ parsed v (i + length (decimal v) + 1)
unfolding ended
item_read text end i v s h stop e =
    let n : number_at text i ≡ parsed v (i + length (decimal v)) = ap (number_from i) e ∙ read_decimal v i (end ∷ s) h (other stop) in
    let b : get_or text (i + length (decimal v)) 0 ≡ end = sym (get_or-drop i text (length (decimal v)) 0) ∙ ap
    (λ (l : List ℕ). get_or l (length (decimal v)) 0) e ∙ get_or-append_seam (decimal v) end s 0 in
    rw (n, eq-eqb _ _ b)

-- keys

unfoldable pub positive : List ℕ → Bool
positive [] = true
positive (k ∷ ks) = ltb 0 k && positive ks

both_true : (a b : Bool) → a && b ≡ true → (a ≡ true) × (b ≡ true)
both_true true b e = (refl, e)
both_true false b e = absurd (let z : ◌≡◌ {A = ℕ} 0 1 = cc in omega arith)

pub key_back : (key text : List ℕ) (i : ℕ) → positive key ≡ true → starts_at text i key ≡ true → drop i text ≡ key ++ drop (i + length key) text
unfolding positive starts_at
key_back [] text i p e = rw add-zero
key_back (k ∷ ks) text i p e =
    let q = both_true (ltb 0 k) (positive ks) p in
    let f = both_true (eqb (get_or text i 0) k) (starts_at text (i + 1) ks) e in
    let here : get_or text i 0 ≡ k = eqb-true (get_or text i 0) k f.0 in
    let inside : i < length text = byte_in text i k (ltb-true 0 k q.0) here in
    let far : i + 1 + length ks ≡ i + suc (length ks) = omega arith in
    drop-cons text i 0 inside
    ∙ ap (λ (b : ℕ). b ∷ drop (suc i) text) here
    ∙ ap (λ (m : ℕ). k ∷ drop m text) (sym (add-one i))
    ∙ ap (λ (l : List ℕ). k ∷ l) (key_back ks text (i + 1) q.1 f.1)
    ∙ ap (λ (m : ℕ). k ∷ (ks ++ drop m text)) far

pub key_read : (key text : List ℕ) (i : ℕ) (s : List ℕ) → drop i text ≡ key ++ s → starts_at text i key ≡ true
unfolding starts_at
key_read [] text i s e = refl
key_read (k ∷ ks) text i s e =
    let here : get_or text i 0 ≡ k = ap (λ (m : ℕ). get_or text m 0) (sym (add-zero i)) ∙ sym (get_or-drop i text 0 0) ∙ ap (λ (l : List ℕ). get_or l 0 0) e
    in
    let next : drop (i + 1) text ≡ ks ++ s = after text i (k ∷ []) (ks ++ s) e in
    rw (eq-eqb _ _ here) (key_read ks text (i + 1) s next)
