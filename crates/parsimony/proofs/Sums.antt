-- Sums over lists, equal numbers, and what holds of each number of a list.
-- Assumes nothing.
use mathlib.Core.Path.{◌≡◌, refl, sym, ◌∙◌, ap}
use mathlib.Core.Logic.{◌≢◌}
use mathlib.Core.List.{List, [], ◌∷◌, ◌++◌}
use Prim.Native.Nat.{ℕ, zero, suc, ◌+◌, ◌*◌, ◌≤◌, ◌<◌}
use native.Mathlib.Decide.{ℕ_discrete}
use native.Mathlib.Nat.{suc-mul}
use native.Mathlib.Numerals.{add-one}
use native.Mathlib.Omega.{arith}
use lib.ListN.{length, get_or, replicate}
use Rattle.parsimony.specs.Lists.{sum, from, choose, same, without}

-- ---- a choice whose test is known

module _ {B : Type 0} where
  pub choose_yes : {P : Type 0} (d : Dec P) (x y : B) → P → choose d x y ≡ x
  choose_yes (yes p) x y h = refl
  choose_yes (no p) x y h = absurd (p h)

  pub choose_no : {P : Type 0} (d : Dec P) (x y : B) → ¬ P → choose d x y ≡ y
  choose_no (yes p) x y h = absurd (h p)
  choose_no (no p) x y h = refl

-- ---- equal numbers

pub same_self : (n : ℕ) → same n n ≡ 1
unfolding same
same_self n = choose_yes (ℕ_discrete n n) 1 0 refl

pub same-apart : (n m : ℕ) → n ≢ m → same n m ≡ 0
unfolding same
same-apart n m h = choose_no (ℕ_discrete n m) 1 0 h

pub same_equal : (n m : ℕ) → 1 ≤ same n m → n ≡ m
unfolding same
same_equal n m h = go (ℕ_discrete n m) h
  where
    go : (d : Dec (n ≡ m)) → 1 ≤ choose d 1 0 → n ≡ m
    go (yes e) h' = e
    go (no e) h' = omega arith

pub same-small : (n m : ℕ) → same n m ≤ 1
unfolding same
same-small n m = go (ℕ_discrete n m)
  where
    go : (d : Dec (n ≡ m)) → choose d 1 0 ≤ 1
    go (yes e) = omega arith
    go (no e) = omega arith

pub same_sym : (n m : ℕ) → same n m ≡ same m n
same_sym n m = go (ℕ_discrete n m)
  where
    go : Dec (n ≡ m) → same n m ≡ same m n
    go (yes e) = rw e
    go (no e) = omega (arith, same-apart n m e, same-apart m n (λ q. e (sym q)))

-- where two numbers are equal, what is said of one is said of the other
pub same_swap : (g : ℕ → ℕ) (n m : ℕ) → same n m * g n ≡ same n m * g m
unfolding same
same_swap g n m = go (ℕ_discrete n m)
  where
    go : (d : Dec (n ≡ m)) → choose d 1 0 * g n ≡ choose d 1 0 * g m
    go (yes e) = rw e
    go (no e) = omega arith

-- ---- sums

pub sum-zero : (ks : List ℕ) → sum (λ k. 0) ks ≡ 0
sum-zero [] = refl
sum-zero (k ∷ ks) = omega (arith, sum-zero ks)

pub sum-add : (p q : ℕ → ℕ) (ks : List ℕ) → sum (λ k. p k + q k) ks ≡ sum p ks + sum q ks
sum-add p q [] = refl
sum-add p q (k ∷ ks) = omega (arith, sum-add p q ks)

pub sum_add_times : (p q g : ℕ → ℕ) (ks : List ℕ) → sum (λ k. (p k + q k) * g k) ks ≡ sum (λ k. p k * g k) ks + sum (λ k. q k * g k) ks
sum_add_times p q g [] = refl
sum_add_times p q g (k ∷ ks) = omega (arith, sum_add_times p q g ks)

pub sum_cong : {A : Type 0} (p q : A → ℕ) (xs : List A) → ((x : A) → p x ≡ q x) → sum p xs ≡ sum q xs
sum_cong p q [] e = refl
sum_cong p q (x ∷ xs) e = omega (arith, sum_cong p q xs e, e x)

pub sum-append : {A : Type 0} (g : A → ℕ) (xs ys : List A) → sum g (xs ++ ys) ≡ sum g xs + sum g ys
sum-append g [] ys = omega arith
sum-append g (x ∷ xs) ys = omega (arith, sum-append g xs ys)

-- ---- how often a number stands in a list

abbrev pub often : List ℕ → ℕ → ℕ
often ks m = sum (λ k. same k m) ks

-- what a sum has at one number
pub sum-at : (g : ℕ → ℕ) (ks : List ℕ) (v : ℕ) → sum (λ k. same v k * g k) ks ≡ often ks v * g v
sum-at g [] v = omega arith
sum-at g (k ∷ ks) v = rw (same_sym v k) (omega (arith, sum-at g ks v, same_swap g k v))

pub often-below : (a m k : ℕ) → k < a → often (from a m) k ≡ 0
often-below a zero k h = refl
often-below a (suc m) k h = omega (arith, same-apart a k (omega arith), often-below (suc a) m k (omega arith))

pub often_beyond : (a m k : ℕ) → a + m ≤ k → often (from a m) k ≡ 0
often_beyond a zero k h = refl
often_beyond a (suc m) k h = omega (arith, same-apart a k (λ (e : a ≡ k). omega arith), often_beyond (suc a) m k (omega arith))

-- a run of numbers has each once
pub often-once : (a m k : ℕ) → a ≤ k → k < a + m → often (from a m) k ≡ 1
often-once a zero k h l = omega arith
often-once a (suc m) k h l = go (ℕ_discrete a k) (λ q. often-once (suc a) m k q (omega arith))
  where
    go : Dec (a ≡ k) → (suc a ≤ k → often (from (suc a) m) k ≡ 1) → same a k + often (from (suc a) m) k ≡ 1
    go (yes e) ih = omega (arith, often-below (suc a) m k (omega arith), same_self a, ap (same a) e)
    go (no e) ih = omega (arith, same-apart a k e, ih (omega arith))

-- a list of zeros, read anywhere
pub zeros : (m i : ℕ) → ◌≡◌ {A = ℕ} (get_or (replicate m 0) i 0) 0
zeros zero i = refl
zeros (suc m) zero = refl
zeros (suc m) (suc i) = zeros m i

pub from_more : (a m : ℕ) → from a (suc m) ≡ from a m ++ ((a + m) ∷ [])
from_more a zero = ap (λ b. b ∷ []) (omega arith)
from_more a (suc m) = ap (λ bs. a ∷ bs) (from_more (suc a) m ∙ ap (λ b. from (suc a) m ++ (b ∷ [])) (omega arith))

pub length_from : (a m : ℕ) → length (from a m) ≡ m
length_from a zero = refl
length_from a (suc m) = ap suc (length_from (suc a) m)

-- ---- a list without a number

without-none : (v : ℕ) (ks : List ℕ) → often ks v ≡ 0 → without v ks ≡ ks
unfolding without
without-none v [] h = refl
without-none v (k ∷ ks) h =
    choose_no (ℕ_discrete k v) (without v ks) (k ∷ without v ks) (λ (e : k ≡ v). omega (arith, same_self k, ap (same k) e))
    ∙ ap (λ xs. k ∷ xs) (without-none v ks (omega arith))

pub without_middle : (ls : List ℕ) (v : ℕ) (rs : List ℕ) → often (ls ++ (v ∷ rs)) v ≤ 1 → without v (ls ++ (v ∷ rs)) ≡ ls ++ rs
unfolding without
without_middle [] v rs h =
    choose_yes (ℕ_discrete v v) (without v rs) (v ∷ without v rs) refl ∙ without-none v rs (omega (arith, same_self v))
without_middle (l ∷ ls) v rs h =
    choose_no (ℕ_discrete l v) (without v (ls ++ (v ∷ rs))) (l ∷ without v (ls ++ (v ∷ rs)))
    (λ (e : l ≡ v). omega (arith, same_self l, ap (same l) e, same_self v, sum-append (λ k. same k v) ls (v ∷ rs)))
    ∙ ap (λ xs. l ∷ xs) (without_middle ls v rs (omega arith))

-- ---- what holds of each number of a list

abbrev pub All : (ℕ → Type 0) → List ℕ → Type 0
All P [] = Unit {0}
All P (k ∷ ks) = P k × All P ks

pub all_map : (P Q : ℕ → Type 0) → ((k : ℕ) → P k → Q k) → (ks : List ℕ) → All P ks → All Q ks
all_map P Q g [] h = tt
all_map P Q g (k ∷ ks) h = (g k h.0, all_map P Q g ks h.1)

pub all_middle : (P : ℕ → Type 0) (ls : List ℕ) (v : ℕ) (rs : List ℕ) → All P (ls ++ (v ∷ rs)) → P v
all_middle P [] v rs h = h.0
all_middle P (l ∷ ls) v rs h = all_middle P ls v rs h.1

pub all_from : (P : ℕ → Type 0) (a m : ℕ) → ((k : ℕ) → a ≤ k → k < a + m → P k) → All P (from a m)
all_from P a zero h = tt
all_from P a (suc m) h = (h a (omega arith) (omega arith), all_from P (suc a) m (λ k l q. h k (omega arith) (omega arith)))

-- numbers of a sum that is 0
pub all-zero : (g : ℕ → ℕ) (ks : List ℕ) → sum g ks ≡ 0 → All (λ k. g k ≡ 0) ks
all-zero g [] h = tt
all-zero g (k ∷ ks) h = (omega arith, all-zero g ks (omega arith))

-- as many as the list is long, where each counts at most 1
pub sum_small : (g : ℕ → ℕ) (ks : List ℕ) → All (λ k. g k ≤ 1) ks → sum g ks ≤ length ks
sum_small g [] h = omega arith
sum_small g (k ∷ ks) h = omega (arith, h.0, sum_small g ks h.1)

-- ---- sums over the numbers from 1 to m

module _ (f : ℕ → ℕ) where
  pub sum_next : (m : ℕ) → sum f (from 1 (m + 1)) ≡ sum f (from 1 m) + f (m + 1)
  sum_next m = rw (add-one m) (ap (sum f) (from_more 1 m) ∙ sum-append f (from 1 m) ((1 + m) ∷ []) ∙ omega (arith, ap f next))
    where
      next : 1 + m ≡ suc m
      next = omega arith

  -- a sum in two parts
  pub sum_parts : (a m : ℕ) → sum f (from 1 (a + m)) ≡ sum f (from 1 a) + sum (λ i. f (a + i)) (from 1 m)
  sum_parts a zero = ap (λ k. sum f (from 1 k)) none ∙ omega arith
    where
      none : a + 0 ≡ a
      none = omega arith
  sum_parts a (suc m) =
      omega (
        arith,
        ap (λ k. sum f (from 1 k)) first,
        sum_next (a + m),
        sum_parts a m,
        sum_next_shifted,
        ap (λ k. sum (λ i. f (a + i)) (from 1 k)) (add-one m),
      )
    where
      first : a + suc m ≡ a + m + 1
      first = omega arith

      sum_next_shifted : sum (λ i. f (a + i)) (from 1 (m + 1)) ≡ sum (λ i. f (a + i)) (from 1 m) + f (a + m + 1)
      sum_next_shifted =
          rw (add-one m)
          (ap (sum (λ i. f (a + i))) (from_more 1 m) ∙ sum-append (λ i. f (a + i)) (from 1 m) ((1 + m) ∷ []) ∙ omega (arith, ap f last))
        where
          last : a + (1 + m) ≡ a + m + 1
          last = omega arith

  -- a sum of numbers, none of them above b
  pub sum-most : (b m : ℕ) → ((k : ℕ) → 1 ≤ k → k ≤ m → f k ≤ b) → sum f (from 1 m) ≤ m * b
  sum-most b zero h = omega arith
  sum-most b (suc m) h =
      omega (
        arith,
        ap (λ k. sum f (from 1 k)) (add-one m),
        sum_next m,
        sum-most b m (λ k p q. h k p (omega arith)),
        h (m + 1) (omega arith) (omega arith),
        suc-mul m b,
      )

-- the same numbers have the same sum
pub sum_alike : (f g : ℕ → ℕ) (m : ℕ) → ((k : ℕ) → 1 ≤ k → k ≤ m → f k ≡ g k) → sum f (from 1 m) ≡ sum g (from 1 m)
sum_alike f g zero h = refl
sum_alike f g (suc m) h =
    omega (
      arith,
      ap (λ k. sum f (from 1 k)) (add-one m),
      ap (λ k. sum g (from 1 k)) (add-one m),
      sum_next f m,
      sum_next g m,
      sum_alike f g m (λ k p q. h k p (omega arith)),
      h (m + 1) (omega arith) (omega arith),
    )
