-- One character of a block, taken out one entry after the other.
-- Assumes nothing.
use mathlib.Core.Path.{◌≡◌, ◌∙◌, ap, ap₂, subst}
use mathlib.Core.List.{List, [], ◌∷◌}
use Prim.Native.Nat.{ℕ, ◌+◌, ◌-◌, ◌*◌, ◌≤◌, ◌<◌}
use native.Mathlib.Decide.{ℕ_discrete}
use native.Mathlib.Omega.{arith}
use lib.ListN.{length, get_or, set, length-set}
use lib.Seq.{get_or-set_same, get_or-set_other}
use Rattle.std.proofs.lemmas.List.{get_or_default}
use Rattle.parsimony.specs.Ordered as ordered
use Rattle.parsimony.specs.Ordered.{span}
use Rattle.parsimony.specs.Matrix.{state_of}
use Rattle.rows.proofs.Rows.{place_in}
use Rattle.entry_lists.specs.EntryLists.{Takes, Ends, length_at}

-- the first k entries are taken
pub record TakenTo {A : Type 0} (n w i k : ℕ) (block entries : List A) : Type 0 where
  pub long : length entries ≡ n - 2
  pub taken : (h : ℕ) (d : A) → h < k → get_or entries h d ≡ get_or block ((n + h) * w + (i - 1)) d

module _ {A : Type 0} {n w i : ℕ} {entries₀ : List A} (S : Takes n w i entries₀) where
  pub place : {k : ℕ} → k < n - 2 → (n + k) * w + (i - 1) < 4080
  place {k} l =
      subst (λ v. v * w + (i - 1) < 4080) node (place_in (n + k + 1) w (i - 1) (omega arith) (omega (arith, S.most)) S.few
      (omega (arith, S.some, S.one)))
    where
      node : n + k + 1 - 1 ≡ n + k
      node = omega arith

  module _ {block entries : List A} {k : ℕ} {x : A} (l : k < n - 2) (D : TakenTo n w i k block entries) (long : length block ≡ 4080)
      (e : x ≡ get_or block ((n + k) * w + (i - 1)) x) where
    pub taken_more : TakenTo n w i (k + 1) block (set entries k x)
    taken_more = record { long = length-set entries k x ∙ D.long; taken = λ h d m. taken h d m (ℕ_discrete h k) }
      where
        within : (n + k) * w + (i - 1) < length block
        within = omega (arith, place l, long)

        taken : (h : ℕ) (d : A) → h < k + 1 → Dec (h ≡ k) → get_or (set entries k x) h d ≡ get_or block ((n + h) * w + (i - 1)) d
        taken h d m (yes q) = rw q (get_or-set_same entries k x d (omega (arith, D.long)) ∙ e ∙ get_or_default block _ x d within)
        taken h d m (no q) = get_or-set_other entries k h x d q ∙ D.taken h d (omega arith)

-- ---- the length of one character

pub entry_here : (block : List ℕ) (w i v : ℕ) → 1 ≤ i → get_or block ((v - 1) * w + (i - 1)) 0 ≡ state_of block w i v
entry_here block w i v p = ap (λ k. get_or block k 0) (omega arith)

module _ (ρ δ w i : ℕ) (lows highs lengths : List ℕ) (E : Ends ρ δ w i lows highs lengths) where
  pub root_place : (ρ - 1) * w + (i - 1) < 4080
  root_place = place_in ρ w (i - 1) E.nodes.0 E.last.0 E.few (omega (arith, E.some, E.one))

  pub top_place : (δ - 1) * w + (i - 1) < 4080
  top_place = place_in δ w (i - 1) E.nodes.1 E.last.1 E.few (omega (arith, E.some, E.one))

  abbrev at : ℕ → List ℕ → ℕ
  at v block = get_or block ((v - 1) * w + (i - 1)) 0

  pub ranges_fit : (at ρ lows ≤ at ρ highs) × (at δ lows ≤ at δ highs)
  ranges_fit = (
    omega (arith, entry_here lows w i ρ E.some, entry_here highs w i ρ E.some, E.root_fits),
    omega (arith, entry_here lows w i δ E.some, entry_here highs w i δ E.some, E.fits),
  )

  pub below-small : at δ lengths ≤ 4294901760
  below-small = omega (arith, entry_here lengths w i δ E.some, E.small)

  pub length-here : (x y : ℕ) → x ≡ y → y ≡ ordered.cost (span (at ρ lows) (at ρ highs) ∷ span (at δ lows) (at δ highs) ∷ [])
      → at δ lengths + x ≡ length_at ρ δ w i lows highs lengths
  length-here x y e f =
      ap₂ (λ a b. a + b) (entry_here lengths w i δ E.some)
      (e ∙ f
      ∙ ap₂ (λ r q. ordered.cost (r ∷ q ∷ [])) (ap₂ span (entry_here lows w i ρ E.some) (entry_here highs w i ρ E.some))
      (ap₂ span (entry_here lows w i δ E.some) (entry_here highs w i δ E.some)))
