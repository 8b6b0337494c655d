-- A list with another stretch for one character: that stretch is the new one, and every other is as it was.
-- Assumes nothing.
use mathlib.Core.Path.{◌≡◌, sym, ◌∙◌, ap, subst}
use mathlib.Core.Logic.{◌≢◌}
use mathlib.Core.List.{List, ◌++◌}
use Prim.Native.Nat.{ℕ, zero, suc, ◌+◌, ◌-◌, ◌*◌, ◌≤◌, ◌<◌}
use native.Mathlib.Nat.{suc-mul, mul-suc, mul-zero, mul_comm, mul-le-mul_right}
use native.Mathlib.Decide.{dec_le}
use native.Mathlib.Omega.{arith}
use lib.ListN.{length, get_or, take, drop, length-drop, get_or-append}
use lib.Seq.{length-take-le, get_or-append-add, get_or-take, get_or-drop, ext_get_or}
use borrow.Rule.Slice.PartMut.{same_len_mid}
use Rattle.tables.specs.Tables.{stretch, with_stretch}

-- the stretch of the character j ends within a list of c stretches
pub stretch_in : (w c j : ℕ) → 1 ≤ j → j ≤ c → (j - 1) * w + w ≤ w * c
stretch_in w c j p q = omega (arith, suc-mul (j - 1) w, more, mul_comm c w)
  where
    more : suc (j - 1) * w ≤ c * w
    more = mul-le-mul_right w (omega arith)

module _ (w : ℕ) (entries : List ℕ) (j : ℕ) where
  pub stretch-long : (j - 1) * w + w ≤ length entries → length (stretch w entries j) ≡ w
  stretch-long l = length-take-le w (drop ((j - 1) * w) entries) (omega (arith, length-drop ((j - 1) * w) entries))

  -- an entry of it
  pub stretch-at : (i : ℕ) → i < w → get_or (stretch w entries j) i 0 ≡ get_or entries ((j - 1) * w + i) 0
  stretch-at i l = get_or-take w (drop ((j - 1) * w) entries) i 0 l ∙ get_or-drop ((j - 1) * w) entries i 0

-- two lists have the same stretch where they have the same entries
stretch-same : (w : ℕ) (xs ys : List ℕ) (j : ℕ) → (j - 1) * w + w ≤ length xs → (j - 1) * w + w ≤ length ys
    → ((i : ℕ) → i < w → get_or xs ((j - 1) * w + i) 0 ≡ get_or ys ((j - 1) * w + i) 0) → stretch w xs j ≡ stretch w ys j
stretch-same w xs ys j p q h =
    ext_get_or 0 (stretch w xs j) (stretch w ys j) (stretch-long w xs j p ∙ sym (stretch-long w ys j q))
    (λ i l. let m : i < w = omega (arith, stretch-long w xs j p) in stretch-at w xs j i m ∙ h i m ∙ sym (stretch-at w ys j i m))

module _ (w : ℕ) (entries : List ℕ) (j : ℕ) (part : List ℕ) (fits : (j - 1) * w + w ≤ length entries) (long : length part ≡ w) where
  abbrev a : ℕ
  a = (j - 1) * w

  abbrev after : List ℕ
  after = drop w (drop ((j - 1) * w) entries)

  front : length (take a entries) ≡ a
  front = length-take-le a entries (omega arith)

  pub with_long : length (with_stretch w entries j part) ≡ length entries
  with_long = same_len_mid a w entries part (long ∙ sym (stretch-long w entries j fits))

  -- the new stretch
  in_part : (i : ℕ) → i < w → get_or (with_stretch w entries j part) (a + i) 0 ≡ get_or part i 0
  in_part i l =
      let place : a + i ≡ length (take a entries) + i = omega (arith, front) in
      ap (λ k. get_or (with_stretch w entries j part) k 0) place ∙ get_or-append-add (take a entries) (part ++ after) i 0
      ∙ get_or-append part after 0 i (omega (arith, long))

  pub with_here : stretch w (with_stretch w entries j part) j ≡ part
  with_here =
      let m : a + w ≤ length (with_stretch w entries j part) = omega (arith, with_long) in
      ext_get_or 0 (stretch w (with_stretch w entries j part) j) part (stretch-long w (with_stretch w entries j part) j m ∙ sym long)
      (λ i l. let q : i < w = omega (arith, stretch-long w (with_stretch w entries j part) j m) in
      stretch-at w (with_stretch w entries j part) j i q ∙ in_part i q)

  -- before it and after it
  before-part : (k : ℕ) → k < a → get_or (with_stretch w entries j part) k 0 ≡ get_or entries k 0
  before-part k l = get_or-append (take a entries) (part ++ after) 0 k (omega (arith, front)) ∙ get_or-take a entries k 0 l

  after-part : (k : ℕ) → a + w ≤ k → get_or (with_stretch w entries j part) k 0 ≡ get_or entries k 0
  after-part k l =
      let r : ℕ = k - (a + w) in
      let place : k ≡ length (take a entries) + (length part + r) = omega (arith, front, long) in
      let back : a + (w + r) ≡ k = omega arith in
      ap (λ x. get_or (with_stretch w entries j part) x 0) place ∙ get_or-append-add (take a entries) (part ++ after) (length part + r) 0
      ∙ get_or-append-add part after r 0 ∙ get_or-drop w (drop a entries) r 0 ∙ get_or-drop a entries (w + r) 0 ∙ ap (λ x. get_or entries x 0) back

  pub with_other : (k : ℕ) → 1 ≤ j → 1 ≤ k → k ≢ j → (k - 1) * w + w ≤ length entries
      → stretch w (with_stretch w entries j part) k ≡ stretch w entries k
  with_other k p q d l =
      stretch-same w (with_stretch w entries j part) entries k (omega (arith, with_long)) l (λ i m. at i m (dec_le j k))
    where
      at : (i : ℕ) → i < w → Dec (j ≤ k) → get_or (with_stretch w entries j part) ((k - 1) * w + i) 0 ≡ get_or entries ((k - 1) * w + i) 0
      at i m (yes e) =
          let h : suc (j - 1) * w ≤ (k - 1) * w = mul-le-mul_right w (earlier j k p e (λ z. d (sym z))) in
          after-part ((k - 1) * w + i) (omega (arith, suc-mul (j - 1) w))
        where
          earlier : (x y : ℕ) → 1 ≤ x → x ≤ y → x ≢ y → suc (x - 1) ≤ y - 1
          earlier x y r s t = below (dec_le y x)
            where
              below : Dec (y ≤ x) → suc (x - 1) ≤ y - 1
              below (yes u) = absurd (t (omega arith))
              below (no u) = omega arith
      at i m (no e) =
          let h : suc (k - 1) * w ≤ (j - 1) * w = mul-le-mul_right w (omega arith) in
          before-part ((k - 1) * w + i) (omega (arith, suc-mul (k - 1) w))

-- each place of c stretches is of one of them
abbrev Placed : (k w c : ℕ) → Type 0
Placed k w c = (j : ℕ) × (i : ℕ) × (1 ≤ j) × (j ≤ c) × (i < w) × (k ≡ (j - 1) * w + i)

placed : (k w c : ℕ) → k < w * c → Placed k w c
placed k w zero l = absurd (omega (arith, mul-zero w))
placed k w (suc c) l = go (dec_le (w * c) k) (λ m. placed k w c m)
  where
    go : Dec (w * c ≤ k) → (k < w * c → Placed k w c) → Placed k w (suc c)
    go (yes e) h = (suc c, k - w * c, omega arith, omega arith, omega (arith, mul-suc w c), last)
      where
        last : k ≡ (suc c - 1) * w + (k - w * c)
        last = subst (λ x. k ≡ x * w + (k - w * c)) one (omega (arith, mul_comm c w))
          where
            one : c ≡ suc c - 1
            one = omega arith
    go (no e) h = let (j, i, a, b, d, f) = h (omega arith) in (j, i, a, omega arith, d, f)

-- two lists of c stretches are the same if all their stretches are
pub same_stretches : (w c : ℕ) (xs ys : List ℕ) → length xs ≡ w * c → length ys ≡ w * c
    → ((j : ℕ) → 1 ≤ j → j ≤ c → stretch w xs j ≡ stretch w ys j) → xs ≡ ys
same_stretches w c xs ys p q h = ext_get_or 0 xs ys (p ∙ sym q) (λ k l. at k (placed k w c (omega (arith, p))))
  where
    at : (k : ℕ) → Placed k w c → get_or xs k 0 ≡ get_or ys k 0
    at k (j, i, a, b, d, e) =
        ap (λ x. get_or xs x 0) e ∙ sym (stretch-at w xs j i d) ∙ ap (λ l. get_or l i 0) (h j a b) ∙ stretch-at w ys j i d ∙ ap (λ x. get_or ys x 0) (sym e)
