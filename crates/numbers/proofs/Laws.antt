-- One step of reading a number, at any position. Past the end a byte counts as 0, which is no digit.
-- Assumes nothing.
use mathlib.Core.Path.{◌≡◌, refl, sym, ap, ◌∙◌}
use mathlib.Core.Logic.{⊎_elim, inl, inr, ◌⊎◌}
use mathlib.Core.List.{List, [], ◌∷◌}
use mathlib.Core.Bool.{Bool, true, false, cond}
use Prim.Native.Nat.{ℕ, suc, ◌+◌, ◌-◌, ◌*◌, ◌≤◌, ◌<◌}
use native.Mathlib.Omega.{arith}
use native.Mathlib.Numerals.{add-one}
use borrow.Author.Tests.{ltb-true, ltb-false, lt-ltb, le-ltb, eq-eqb, ne_eqb, eqb-true}
use lib.Dec.{eqb, ltb}
use lib.ListN.{length, get_or, drop, drop_of_length-le, get_or-eq_default}
use lib.Seq.{drop-cons}
use Rattle.std.specs.Prelude.{Option, Some, None, option_and_then}
use Rattle.std.specs.Option.{option_map_or}
use Rattle.std.proofs.lemmas.Option.{same_Some, option_and_then_some}
use Rattle.numbers.specs.declared.Parsed.{Parsed}
use Rattle.numbers.specs.Numbers.{digit_of, parsed, digits_from, number_from, number_at, ended, item_at, starts_at}

pub cases : (t : Bool) → (t ≡ true) ⊎ (t ≡ false)
cases true = inl refl
cases false = inr refl

pub below_or : (a b : ℕ) → (a < b) ⊎ (b ≤ a)
below_or a b = ⊎_elim (λ e. inl (ltb-true a b e)) (λ e. inr (ltb-false a b e)) (cases (ltb a b))

-- ---- a digit

pub digit_none : (b : ℕ) → (b < 48) ⊎ (57 < b) → digit_of b ≡ None
unfolding digit_of
digit_none b (inl h) = rw (lt-ltb b 48 h)
digit_none b (inr h) = let g : 48 ≤ b = omega arith in rw (le-ltb b 48 g, lt-ltb 57 b h)

pub digit_some : (b : ℕ) → 48 ≤ b → b ≤ 57 → digit_of b ≡ Some (b - 48)
unfolding digit_of
digit_some b h g = rw (le-ltb b 48 h, le-ltb 57 b g)

-- a byte is a digit or none
pub digit_or : (b : ℕ) → (digit_of b ≡ None) ⊎ ((d : ℕ) × (digit_of b ≡ Some d))
digit_or b =
    ⊎_elim (λ l. inl (digit_none b (inl l)))
    (λ l. ⊎_elim (λ m. inl (digit_none b (inr m))) (λ m. inr (b - 48, digit_some b l m)) (below_or 57 b))
    (below_or b 48)

-- what a digit says of its byte
pub digit_back : (b d : ℕ) → digit_of b ≡ Some d → (d ≤ 9) × (b ≡ 48 + d)
digit_back b d e =
    ⊎_elim
    (λ l. absurd (let z : ◌≡◌ {A = Option ℕ} None (Some d) = sym (digit_none b l) ∙ e in cc))
    (λ (l, m). let z : b - 48 ≡ d = same_Some (b - 48) d (sym (digit_some b l m) ∙ e) in (omega arith, omega arith))
    within
  where
    within : ((b < 48) ⊎ (57 < b)) ⊎ ((48 ≤ b) × (b ≤ 57))
    within = ⊎_elim (λ l. inl (inl l)) (λ l. ⊎_elim (λ m. inl (inr m)) (λ m. inr (l, m)) (below_or 57 b)) (below_or b 48)

-- a digit stands within the text
pub digit_in : (text : List ℕ) (i d : ℕ) → digit_of (get_or text i 0) ≡ Some d → i < length text
digit_in text i d e =
    ⊎_elim (λ l. l)
    (λ l. absurd (omega (arith, (digit_back _ d e).1, get_or-eq_default text 0 l)))
    (below_or i (length text))

-- ---- one step

-- a number that is read has one value, and one position after it
pub same_parsed : (v i w j : ℕ) → parsed v i ≡ parsed w j → (v ≡ w) × (i ≡ j)
same_parsed v i w j e =
    let p = same_Some {A = Parsed} (record { value = v; next = i }) (record { value = w; next = j }) e in
    (ap (λ q. q.value) p, ap (λ q. q.next) p)

digits_step :
    (v i : ℕ) (text : List ℕ) →
    digits_from v i (drop i text) ≡
    option_map_or (λ d. cond (ltb 65535 (v * 10 + d)) None (digits_from (v * 10 + d) (i + 1) (drop (i + 1) text)))
    (digit_of (get_or text i 0)) (parsed v i)
unfolding digits_from digit_of
digits_step v i text =
    ⊎_elim (λ l. rw (drop-cons text i 0 l, add-one))
    (λ l. rw (drop_of_length-le text l, get_or-eq_default text 0 l))
    (below_or i (length text))

number_step :
    (i : ℕ) (text : List ℕ) →
    number_at text i ≡
    option_and_then (λ d. cond (eqb d 0) (parsed 0 (i + 1)) (digits_from d (i + 1) (drop (i + 1) text))) (digit_of (get_or text i 0))
unfolding number_from digit_of
number_step i text =
    ⊎_elim (λ l. rw (drop-cons text i 0 l, add-one))
    (λ l. rw (drop_of_length-le text l, get_or-eq_default text 0 l))
    (below_or i (length text))

-- one step where no digit stands at i
module _ (text : List ℕ) (i : ℕ) (e : digit_of (get_or text i 0) ≡ None) where
  pub number_none : number_at text i ≡ None
  number_none = rw (number_step i text, e)

  pub digits_end : (v : ℕ) → digits_from v i (drop i text) ≡ parsed v i
  digits_end v = rw (digits_step v i text, e)

-- one step by the digit d at i
module _ (text : List ℕ) (i d : ℕ) (e : digit_of (get_or text i 0) ≡ Some d) where
  pub number-zero : d ≡ 0 → number_at text i ≡ parsed 0 (i + 1)
  number-zero z = rw (number_step i text, e, z)

  pub number_more : (d ≡ 0 → ⊥) → number_at text i ≡ digits_from d (i + 1) (drop (i + 1) text)
  number_more z = rw (number_step i text, e, ne_eqb d 0 z)

  pub digits_over : (v : ℕ) → 65535 < v * 10 + d → digits_from v i (drop i text) ≡ None
  digits_over v g = rw (digits_step v i text, e, lt-ltb 65535 (v * 10 + d) g)

  pub digits_more : (v : ℕ) → v * 10 + d ≤ 65535 → digits_from v i (drop i text) ≡ digits_from (v * 10 + d) (i + 1) (drop (i + 1) text)
  digits_more v g = rw (digits_step v i text, e, le-ltb 65535 (v * 10 + d) g)

pub starts_other : (text : List ℕ) (at : ℕ) (key : List ℕ) (j : ℕ) → j < length key → (get_or text (at + j) 0 ≡ get_or key j 0 → ⊥) → starts_at text
    (at + j) (drop j key) ≡ false
unfolding starts_at
starts_other text at key j h n = rw (drop-cons key j 0 h, ne_eqb _ _ n)

pub starts_same : (text : List ℕ) (at : ℕ) (key : List ℕ) (j : ℕ) → j < length key → get_or text (at + j) 0 ≡ get_or key j 0 → starts_at text (at + j)
    (drop j key) ≡ starts_at text (at + (j + 1)) (drop (j + 1) key)
unfolding starts_at
starts_same text at key j h e = rw (drop-cons key j 0 h, eq-eqb _ _ e, add-one j) (ap (λ (k : ℕ). starts_at text k (drop (suc j) key)) (omega arith))

pub starts_all : (text : List ℕ) (at : ℕ) (key : List ℕ) (j : ℕ) → length key ≤ j → starts_at text (at + j) (drop j key) ≡ true
unfolding starts_at
starts_all text at key j h = rw (drop_of_length-le key h)

-- a byte that is not 0 stands within the text
pub byte_in : (text : List ℕ) (i b : ℕ) → 0 < b → get_or text i 0 ≡ b → i < length text
byte_in text i b p e =
    ⊎_elim (λ l. l) (λ l. absurd (let z : 0 ≡ b = sym (get_or-eq_default text 0 l) ∙ e in omega arith)) (below_or i (length text))

module _ (text : List ℕ) (at end : ℕ) where
  pub item_none : number_at text at ≡ None → item_at text end at ≡ None
  unfolding ended
  item_none e = rw e

  pub item_ended : (v next : ℕ) → number_at text at ≡ parsed v next → get_or text next 0 ≡ end → item_at text end at ≡ parsed v (next + 1)
  unfolding ended
  item_ended v next e g = rw (e, eq-eqb _ _ g)

  pub item_open : (v next : ℕ) → number_at text at ≡ parsed v next → (get_or text next 0 ≡ end → ⊥) → item_at text end at ≡ None
  unfolding ended
  item_open v next e g = rw (e, ne_eqb _ _ g)

-- ---- how far a number reaches, and that it is below 65536

-- what a step says of a number that was read
digits_case : (o : Option ℕ) (v i w n : ℕ) (rest : ℕ → Option Parsed) → v ≤ 65535
    → ((d : ℕ) → v * 10 + d ≤ 65535 → rest d ≡ parsed w n → (i + 1 ≤ n) × (w ≤ 65535))
    → option_map_or (λ d. cond (ltb 65535 (v * 10 + d)) None (rest d)) o (parsed v i) ≡ parsed w n → (i ≤ n) × (w ≤ 65535)
digits_case None v i w n rest h f e = let z = same_parsed v i w n e in (omega arith, omega arith)
digits_case (Some d) v i w n rest h f e = go (below_or 65535 (v * 10 + d))
  where
    go : (65535 < v * 10 + d) ⊎ (v * 10 + d ≤ 65535) → (i ≤ n) × (w ≤ 65535)
    go (inl l) = absurd (let g : ◌≡◌ {A = Option Parsed} None (parsed w n) = rw (lt-ltb 65535 (v * 10 + d) l) at e in cc)
    go (inr l) = let r = f d l (rw (le-ltb 65535 (v * 10 + d) l) at e) in (omega arith, r.1)

pub digits_reach : (v i : ℕ) (l : List ℕ) (w n : ℕ) → v ≤ 65535 → digits_from v i l ≡ parsed w n → (i ≤ n) × (w ≤ 65535)
unfolding digits_from
digits_reach v i [] w n h e = let z = same_parsed v i w n e in (omega arith, omega arith)
digits_reach v i (b ∷ bs) w n h e =
    digits_case (digit_of b) v i w n (λ d. digits_from (v * 10 + d) (i + 1) bs) h (λ d k g. digits_reach (v * 10 + d) (i + 1) bs w n k g) e

number_case : (q : Bool) (d i w n : ℕ) (bs : List ℕ) → d ≤ 9 → cond q (parsed 0 (i + 1)) (digits_from d (i + 1) bs) ≡ parsed w n
    → (i + 1 ≤ n) × (w ≤ 65535)
number_case true d i w n bs h e = let z = same_parsed 0 (i + 1) w n e in (omega arith, omega arith)
number_case false d i w n bs h e = digits_reach d (i + 1) bs w n (omega arith) e

pub number_reach : (i : ℕ) (l : List ℕ) (w n : ℕ) → number_from i l ≡ parsed w n → (i + 1 ≤ n) × (w ≤ 65535)
unfolding number_from
number_reach i [] w n e = absurd (let z : ◌≡◌ {A = Option Parsed} None (parsed w n) = e in cc)
number_reach i (b ∷ bs) w n e =
    option_and_then_some (λ d. cond (eqb d 0) (parsed 0 (i + 1)) (digits_from d (i + 1) bs)) (digit_of b) (record { value = w; next = n }) e
    (λ d f g. number_case (eqb d 0) d i w n bs (digit_back b d f).0 g)

-- an item that is read: its number, and the byte after it
pub item_parts : (text : List ℕ) (end i w n : ℕ) → item_at text end i ≡ parsed w n
    → (m : ℕ) × (number_at text i ≡ parsed w m) × (get_or text m 0 ≡ end) × (m + 1 ≡ n)
unfolding ended
item_parts text end i w n e =
    option_and_then_some (λ p. cond (eqb (get_or text p.next 0) end) (parsed p.value (p.next + 1)) None) (number_at text i)
    (record { value = w; next = n }) e (λ p f g. go p f (cases (eqb (get_or text p.next 0) end)) g)
  where
    go : (p : Parsed) → number_at text i ≡ Some p → (eqb (get_or text p.next 0) end ≡ true) ⊎ (eqb (get_or text p.next 0) end ≡ false)
        → cond (eqb (get_or text p.next 0) end) (parsed p.value (p.next + 1)) None ≡ parsed w n
        → (m : ℕ) × (number_at text i ≡ parsed w m) × (get_or text m 0 ≡ end) × (m + 1 ≡ n)
    go p f (inl t) g =
        let (a, b) = same_parsed p.value (p.next + 1) w n (rw t at g) in
        (p.next, f ∙ ap (λ (v : ℕ). parsed v p.next) a, eqb-true _ _ t, b)
    go p f (inr t) g = absurd (let z : ◌≡◌ {A = Option Parsed} None (parsed w n) = rw t at g in cc)

-- an item takes two bytes or more, all within the text
pub item_long : (text : List ℕ) (end i w n : ℕ) → 0 < end → item_at text end i ≡ parsed w n → (i + 2 ≤ n) × (n ≤ length text)
item_long text end i w n p e =
    let (m, f, here, next) = item_parts text end i w n e in
    (omega (arith, (number_reach i (drop i text) w m f).0), omega (arith, byte_in text m end p here))

pub item_fit : (text : List ℕ) (end i w n : ℕ) → item_at text end i ≡ parsed w n → w ≤ 65535
item_fit text end i w n e = let (m, f, here, next) = item_parts text end i w n e in (number_reach i (drop i text) w m f).1
