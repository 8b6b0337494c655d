-- Entries that are settled at each node by itself are the regions and the least lengths of the trees that fit.
-- Assumes nothing.
use mathlib.Core.Path.{◌≡◌, sym, ap, ap₂, subst}
use mathlib.Core.List.{List, [], ◌∷◌, map}
use Prim.Native.Nat.{ℕ, ◌+◌, ◌≤◌}
use native.Mathlib.Omega.{arith}
use Rattle.parsimony.specs.Lists.{sum}
use Rattle.parsimony.specs.Kind.{Kind}
use Rattle.parsimony.proofs.Sums.{same_self}
use Rattle.parsimony.proofs.Rose.Shapes.{Rose, Roses, tip, node, one, more, top, count, counts}
use Rattle.parsimony.proofs.Rose.Lengths.{region, regions, least, leasts}
use Rattle.parsimony.proofs.Tables.Fitting.{tops, Fits, AllFit}

module _ (K : Kind) (cell : ℕ → K.Region) (under : ℕ → List ℕ) (entry : ℕ → K.Region) (size : ℕ → ℕ) where
  open K use {join, cost}

  -- the entry of v is made of those of a list; where the list is empty, of the cell
  abbrev pub MadeOf : ℕ → List ℕ → Type 0
  MadeOf v [] = (entry v ≡ cell v) × (size v ≡ 0)
  MadeOf v (c ∷ cs) = (entry v ≡ join (map entry (c ∷ cs))) × (size v ≡ sum size (c ∷ cs) + cost (map entry (c ∷ cs)))

  abbrev pub Made : ℕ → Type 0
  Made v = MadeOf v (under v)

  mutual
    pub settled : (t : Rose) → Fits under t → ((v : ℕ) → 1 ≤ count t v → Made v)
        → (region K cell t ≡ entry (top t)) × (least K cell t ≡ size (top t))
    settled (tip v) h s =
        let e : MadeOf v [] = subst (MadeOf v) h (s v (omega (arith, same_self v))) in
        (sym e.0, sym e.1)
    settled (node v f) h s =
        let r = all_settled f h.1 (λ u l. s u (omega arith)) in
        let e : MadeOf v (tops f) = subst (MadeOf v) (sym h.0) (s v (omega (arith, same_self v))) in
        full f r e
      where
        full : (f : Roses) → (regions K cell f ≡ map entry (tops f)) × (leasts K cell f ≡ sum size (tops f)) → MadeOf v (tops f)
            → (join (regions K cell f) ≡ entry v) × (leasts K cell f + cost (regions K cell f) ≡ size v)
        full (one t) r e = (rw r.0 (sym e.0), rw (r.0, r.1) (sym e.1))
        full (more t f) r e = (rw r.0 (sym e.0), rw (r.0, r.1) (sym e.1))

    pub all_settled : (f : Roses) → AllFit under f → ((v : ℕ) → 1 ≤ counts f v → Made v)
        → (regions K cell f ≡ map entry (tops f)) × (leasts K cell f ≡ sum size (tops f))
    all_settled (one t) h s =
        let r = settled t h s in
        (ap (λ x. x ∷ []) r.0, omega (arith, r.1))
    all_settled (more t f) h s =
        let r = settled t h.0 (λ u l. s u (omega arith)) in
        let rs = all_settled f h.1 (λ u l. s u (omega arith)) in
        (ap₂ (λ x xs. x ∷ xs) r.0 rs.0, omega (arith, r.1, rs.1))
