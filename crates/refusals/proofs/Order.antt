-- A list of checks gives one refusal, and none where none applies; and how checks follow one another.
-- Assumes nothing.
use mathlib.Core.Path.{◌≡◌, refl, ap, sym, ◌∙◌}
use mathlib.Core.Logic.{◌≢◌, inl, inr}
use mathlib.Core.List.{List, [], ◌∷◌, ◌++◌}
use Prim.Native.Nat.{ℕ, suc}
use lib.ListN.{get_or}
use Rattle.refusals.specs.declared.Reason.{Reason}
use Rattle.refusals.specs.declared.Reason.TheVariants.{Limits, Length, Root, Entry, Count, Lost, State, Character, Correction, Kept, Form, Long}
use Rattle.refusals.specs.declared.Refusal.{Refusal}
use Rattle.refusals.specs.Reasons.{number_of}
use Rattle.refusals.specs.Search.{Never}
use Rattle.refusals.specs.Checks.{Check, at, lowest, Clear, Refuses, Passes, Slice, slices}
use Rattle.refusals.proofs.Laws.{lowest-one, lowest_never}

-- ---- one place

-- a check applies at one place at the most
abbrev pub Sure : Check → Type 0
Sure c = (p q : ℕ) → c.At p → c.At q → p ≡ q

abbrev pub AllSure : List {1} Check → Type 0
AllSure [] = Unit {0}
AllSure (c ∷ cs) = Sure c × AllSure cs

pub sure_at : (number place : ℕ) (P : Type 0) → Sure (at number place P)
sure_at number place P p q (e, h) (d, h') = e ∙ sym d

pub sure_lowest : (number : ℕ) (P : ℕ → Type 0) (m : ℕ) → Sure (lowest number P m)
sure_lowest number P m p q = lowest-one P m p q

pub sure_append : (cs ds : List {1} Check) → AllSure cs → AllSure ds → AllSure (cs ++ ds)
sure_append [] ds h k = k
sure_append (c ∷ cs) ds (h, hs) k = (h, sure_append cs ds hs k)

pub sure_slices : (i : ℕ) (ss : List Slice) → AllSure (slices i ss)
sure_slices i [] = tt
sure_slices i (s ∷ ss) = (sure_at 2 i (s.has ≢ s.asked), sure_slices (suc i) ss)

-- ---- one refusal

-- the reason of a number
abbrev reason_of : ℕ → Reason
reason_of n = get_or
    (Long ∷ Limits ∷ Length ∷ Root ∷ Entry ∷ Count ∷ Lost ∷ State ∷ Character ∷ Correction ∷ Kept ∷ Form ∷ []) n Long

back : (r : Reason) → reason_of (number_of r) ≡ r
back Limits = refl
back Length = refl
back Root = refl
back Entry = refl
back Count = refl
back Lost = refl
back State = refl
back Character = refl
back Correction = refl
back Kept = refl
back Form = refl
back Long = refl

-- no two reasons have one number
pub one-reason : (r r' : Reason) → number_of r ≡ number_of r' → r ≡ r'
one-reason r r' e = sym (back r) ∙ ap reason_of e ∙ back r'

pub one-refusal : (cs : List {1} Check) → AllSure cs → (r r' : Refusal) → Refuses cs r → Refuses cs r' → r ≡ r'
one-refusal [] _ r r' x4 _ = elim x4 [ ]
one-refusal (c ∷ cs) (s, ss) r r' (inl (e, h)) (inl (d, k)) = same (one-reason r.reason r'.reason (e ∙ sym d)) (s r.place r'.place h k)
  where
    same : r.reason ≡ r'.reason → r.place ≡ r'.place → r ≡ r'
    same a b = λ i. record { reason = a i; place = b i }
one-refusal (c ∷ cs) (s, ss) r r' (inl (e, h)) (inr (n, k)) = absurd (n r.place h)
one-refusal (c ∷ cs) (s, ss) r r' (inr (n, h)) (inl (d, k)) = absurd (n r'.place k)
one-refusal (c ∷ cs) (s, ss) r r' (inr (n, h)) (inr (m, k)) = one-refusal cs ss r r' h k

pub not_refused : (cs : List {1} Check) → Passes cs → (r : Refusal) → Refuses cs r → ⊥
not_refused [] _ r x3 = elim x3 [ ]
not_refused (c ∷ cs) (n, ns) r (inl (e, h)) = n r.place h
not_refused (c ∷ cs) (n, ns) r (inr (m, h)) = not_refused cs ns r h

-- ---- checks that follow others

pub refuses_before : (cs ds : List {1} Check) (r : Refusal) → Refuses cs r → Refuses (cs ++ ds) r
refuses_before [] ds r x' = elim x' [ ]
refuses_before (c ∷ cs) ds r (inl h) = inl h
refuses_before (c ∷ cs) ds r (inr (n, h)) = inr (n, refuses_before cs ds r h)

pub refuses_after : (cs ds : List {1} Check) (r : Refusal) → Passes cs → Refuses ds r → Refuses (cs ++ ds) r
refuses_after [] ds r n h = h
refuses_after (c ∷ cs) ds r (n, ns) h = inr (n, refuses_after cs ds r ns h)

pub passes_append : (cs ds : List {1} Check) → Passes cs → Passes ds → Passes (cs ++ ds)
passes_append [] ds n m = m
passes_append (c ∷ cs) ds (n, ns) m = (n, passes_append cs ds ns m)

-- ---- single checks

-- a check with one place applies nowhere if its fault is not there
pub clear_at : (number place : ℕ) (P : Type 0) → (P → ⊥) → Clear (at number place P)
clear_at number place P n p (e, h) = n h

pub clear-lowest : (number : ℕ) (P : ℕ → Type 0) (m : ℕ) → Never P m → Clear (lowest number P m)
clear-lowest number P m n p h = lowest_never P m p h n

-- a slice of the right length
pub clear_slice : (i has asked : ℕ) → has ≡ asked → Clear (at 2 i (has ≢ asked))
clear_slice i has asked e p (_, n) = n e
