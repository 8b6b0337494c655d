-- A caller reads the number: below 2^32 it is the answer, and otherwise value / 2^32 and value mod 2^32 are the number and the place of the refusal.
-- Assumes nothing.
use mathlib.Core.Path.{◌≡◌, refl, sym, ◌∙◌, ap}
use mathlib.Core.List.{List}
use mathlib.Core.Logic.{◌≢◌}
use Prim.Native.Nat.{ℕ, zero, suc, ◌+◌, ◌*◌, ◌/◌, ◌%◌, ◌≤◌, ◌<◌}
use native.Mathlib.Omega.{arith}
use Rattle.std.specs.Prelude.{Result, Ok, Err}
use Rattle.refusals.specs.declared.Reason.{Reason}
use Rattle.refusals.specs.declared.Reason.TheVariants.{Limits, Length, Root, Entry, Count, Lost, State, Character, Correction, Kept, Form, Long}
use Rattle.refusals.specs.declared.Refusal.{Refusal}
use Rattle.refusals.specs.Reasons.{number_of, number}
use Rattle.refusals.proofs.Order.{one-reason}
use Rattle.choices.specs.declared.Resolve.TheVariants.{Deltran}
use Rattle.scores.specs.declared.Scores.{Scores}
use Rattle.answers.specs.Coded.{limit, code, Gives, Reply, coded, Tells, resolve_of}

-- ---- the number and the place, from one number

quotient : (a b : ℕ) → b < limit → (a * limit + b) / limit ≡ a
quotient a b l = omega arith

remainder : (a b : ℕ) → b < limit → (a * limit + b) % limit ≡ b
remainder a b l = omega arith

-- the refusal that a number says: r / 2^32 is its number, and r mod 2^32 its place
pub record Said (r : ℕ) (q : Refusal) : Type 0 where
  pub number_is : number q ≡ r / limit
  pub place_is : q.place ≡ r % limit

-- a number says one refusal
pub one-said : (r : ℕ) (q q' : Refusal) → Said r q → Said r q' → q ≡ q'
one-said r q q' S S' = same (one-reason q.reason q'.reason (S.number_is ∙ sym S'.number_is)) (S.place_is ∙ sym S'.place_is)
  where
    same : q.reason ≡ q'.reason → q.place ≡ q'.place → q ≡ q'
    same a b = λ i. record { reason = a i; place = b i }

said-code : (r : ℕ) (q : Refusal) → q.place < limit → r ≡ code q → Said r q
said-code r q l e =
    record {
      number_is = sym (ap (λ k. k / limit) e ∙ quotient (number q) q.place l);
      place_is = sym (ap (λ k. k % limit) e ∙ remainder (number q) q.place l);
    }

-- a refusal has a number from 1 on, and so its code is 2^32 or more
some : (r : Reason) → 1 ≤ number_of r
some Limits = omega arith
some Length = omega arith
some Root = omega arith
some Entry = omega arith
some Count = omega arith
some Lost = omega arith
some State = omega arith
some Character = omega arith
some Correction = omega arith
some Kept = omega arith
some Form = omega arith
some Long = omega arith

pub refusals-above : (q : Refusal) → limit ≤ code q
refusals-above q = omega (arith, some q.reason)

-- ---- any answer

module _ (before after : List ℕ) (r : ℕ) where
  pub below : (a : Result Scores Refusal) → Gives a before after r → r < limit → (s : Scores) × (a ≡ Ok s)
  below (Ok s) G l = (s, refl)
  below (Err q) G l = let z : ⊥ = omega (arith, G.value, refusals-above q) in absurd z

  pub above : (a : Result Scores Refusal) → Gives a before after r → limit ≤ r → (q : Refusal) × Said r q × (a ≡ Err q)
  above (Ok s) G l = let z : ⊥ = omega (arith, G.value, G.fits) in absurd z
  above (Err q) G l = (q, said-code r q G.fits G.value, refl)

-- ---- a call without scores

module _ (r : ℕ) where
  -- below 2^32 no refusal is told, and from there on no number
  pub not_refused_below : (q : Refusal) → Tells (Err q) r → r < limit → ⊥
  not_refused_below q S l = omega (arith, S.value, refusals-above q)

  pub no_number_above : (k : ℕ) → Tells (Ok k) r → limit ≤ r → ⊥
  no_number_above k S l = omega (arith, S.value, S.fits)

  -- the refusal that is told
  pub refusal-said : (q : Refusal) → Tells (Err q) r → Said r q
  refusal-said q S = said-code r q S.fits S.value

-- a reply is told by one number
pub same-told : (a a' : Reply) (r r' : ℕ) → a ≡ a' → Tells a r → Tells a' r' → r ≡ r'
same-told a a' r r' e S S' = S.value ∙ ap coded e ∙ sym S'.value

-- ---- the choice

pub any_other : (k : ℕ) → k ≢ 0 → Deltran ≡ resolve_of k
any_other zero d = absurd (d refl)
any_other (suc k) d = refl
