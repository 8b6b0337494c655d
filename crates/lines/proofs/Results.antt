-- What `ok_or` and `map_err` say of what they were given; and a line and rows of which the answer is known.
-- Assumes nothing.
use mathlib.Core.Path.{◌≡◌, refl, sym, ap, ◌∙◌}
use mathlib.Core.List.{List}
use Prim.Native.Nat.{ℕ}
use Rattle.std.specs.Prelude.{Option, Some, None, Result, Ok, Err, ok_or, MatchResult}
use Rattle.lines.specs.Lines.{Numbers, Stored, Table, StoredRows}

pub ok_some : {A E : Type 0} (o : Option A) (e : E) (x : A) → Ok x ≡ ok_or o e → o ≡ Some x
ok_some None e x h = absurd cc
ok_some (Some y) e x h = cc

pub ok_none : {A E : Type 0} (o : Option A) (e q : E) → Err q ≡ ok_or o e → (o ≡ None) × (q ≡ e)
ok_none None e q h = (refl, (cc))
ok_none (Some y) e q h = absurd cc

pub map_ok : {A E : Type 0} (F : Type 0) (r : Result A E) (x : A) → MatchResult r (λ y. ◌≡◌ {A = Result A F} (Ok x) (Ok y)) (λ e. ⊥) → r ≡ Ok x
map_ok F (Ok y) x h = let z : x ≡ y = cc in ap Ok (sym z)
map_ok F (Err e) x h = absurd h

pub map_err : {A E : Type 0} (F : Type 0) (r : Result A E) (q : F) (P : E → Type 0) → MatchResult r (λ y. ◌≡◌ {A = Result A F} (Err q) (Ok y)) P
    → (e : E) × (r ≡ Err e) × P e
map_err F (Ok y) q P h = absurd cc
map_err F (Err e) q P h = (e, refl, h)

pub stored_as : {v : Numbers} {out : List ℕ} {from : ℕ} {r s : Option ℕ} {out' : List ℕ} → r ≡ s → Stored v out from r out' → Stored v out from s out'
stored_as e S = record { told = sym e ∙ S.told; list = S.list }

pub rows_stored_as : {t : Table} {out : List ℕ} {from : ℕ} {r s : Result ℕ ℕ} {out' : List ℕ} → r ≡ s → StoredRows t out from r out'
    → StoredRows t out from s out'
rows_stored_as e S = record { told = sym e ∙ S.told; list = S.list }
