-- Ways of a table and ways in the trees that fit it: the same agree, and their lengths are the same. So what is least and used in a tree is
-- least and used in the table.
-- Assumes nothing.
use mathlib.Core.Path.{◌≡◌, refl, sym, ◌∙◌, ap, subst}
use mathlib.Core.Logic.{◌↔◌}
use mathlib.Core.List.{[]}
use Prim.Native.Nat.{ℕ, ◌+◌, ◌≤◌, ◌<◌}
use native.Mathlib.Decide.{ℕ_discrete, dec_le}
use native.Mathlib.Omega.{arith}
use lib.ListN.{length}
use Rattle.parsimony.specs.Table.{descendants, below}
use Rattle.parsimony.specs.Kind.{Kind, Laws, In}
use Rattle.parsimony.specs.Way.{Agrees, AgreesBelow, length_of, length_below}
use Rattle.parsimony.specs.Least.{IsLeast, Used}
use Rattle.parsimony.proofs.Sums.{same-apart}
use Rattle.parsimony.proofs.Rose.Shapes.{Roses, node, one, count, counts}
use Rattle.parsimony.proofs.Rose.Lengths.{region, least, length_in, Allowed, lower}
use Rattle.parsimony.proofs.Rose.Painting.{Answers, answers}
use Rattle.parsimony.proofs.Rose.Reroot.{off, allowed_off, off_allowed}
use Rattle.parsimony.proofs.Tables.Trees.{Tree, δ-some, δ-most}
use Rattle.parsimony.proofs.Tables.Fitting.{Fits, inner_below, in_tree, distinct}
use Rattle.parsimony.proofs.Tables.Lengths.{length_flat, length-root, allowed_at, at_allowed}
use Rattle.parsimony.proofs.Tables.Whole.{crown, crown_fits, whole, each-once, whole_distinct, whole-off, whole_length}

-- ---- what is said of the ways that one test lets through is said of those that another does

module _ {State : Type 0} (Good Fair : (ℕ → State) → Type 0) (long long' : (ℕ → State) → ℕ)
    (to : (w : ℕ → State) → Good w → Fair w) (fro : (w : ℕ → State) → Fair w → Good w) (equal : (w : ℕ → State) → long w ≡ long' w)
    (l : ℕ) (bound : (w : ℕ → State) → Fair w → l ≤ long' w) (attained : (w : ℕ → State) × Fair w × (long' w ≡ l)) where
  moved_least : IsLeast Good long l
  moved_least =
      record {
        attained = (attained.0, fro attained.0 attained.1, equal attained.0 ∙ attained.2);
        bound = λ w g. omega (arith, bound w (to w g), equal w);
      }

  moved_used : (P : State → Type 0) (v : ℕ) → ((w : ℕ → State) → Fair w → long' w ≡ l → P (w v))
      → ((x : State) → P x → (w : ℕ → State) × Fair w × (long' w ≡ l) × (w v ≡ x)) → (x : State) → P x ↔ Used Good long v x
  moved_used P v only all x = (
    λ p. let (w, f, e, q) = all x p in (
      w,
      record { good = fro w f; least = λ w' g. omega (arith, equal w, e, bound w' (to w' g), equal w') },
      q,
    ),
    λ (w, s, q). subst P q (only w (to w s.good) (omega (
      arith,
      bound w (to w s.good),
      equal w,
      s.least attained.0 (fro attained.0 attained.1),
      equal attained.0,
      attained.2,
    ))),
  )

module _ (K : Kind) (laws : Laws K) (cell : ℕ → K.Region) (T : Tree) where
  open K use {State, Region}
  open T use {n, tree, ρ, δ, is_tree}
  open is_tree use {some, taxon, leaf, stem, more, fork}

  -- a node without descendants is a taxon
  pub childless : (k : ℕ) → k ≤ length tree → descendants tree k ≡ [] → k ≤ n
  childless k l e = go (dec_le k n)
    where
      go : Dec (k ≤ n) → k ≤ n
      go (yes r) = r
      go (no r) = omega (arith, fork k (omega arith) l, ap length e)

  -- ---- below an interior node

  module _ (v : ℕ) (lo : n < v) (hi : v ≤ length tree) (f : Roses) (fits : Fits (descendants tree) (node v f)) where
    counts-below : (k : ℕ) → counts f k ≡ below tree v k
    counts-below k = inner_below T (node v f) fits (omega arith) k

    to_below : (w : ℕ → State) → AgreesBelow K n cell tree v w → Allowed K cell (node v f) w
    to_below w g = at_allowed K cell (descendants tree) w (node v f) fits at
      where
        at : (k : ℕ) → 1 ≤ count (node v f) k → descendants tree k ≡ [] → In K (w k) (cell k)
        at k l e =
            let (p, q, _) = in_tree T (node v f) fits (omega arith) hi k l in
            let z : k ≤ n = childless k q e in
            g k p z (omega (arith, counts-below k, same-apart v k (λ (r : v ≡ k). omega arith)))

    from-below : (w : ℕ → State) → Allowed K cell (node v f) w → AgreesBelow K n cell tree v w
    from-below w ok k p q u =
        let c : 1 ≤ count (node v f) k = omega (arith, counts-below k) in
        allowed_at K cell (descendants tree) w (node v f) fits ok k c
        (leaf k p q (λ (e : k ≡ ρ). let z : v ≡ ρ = (in_tree T (node v f) fits (omega arith) hi k c).2 e in omega (arith, taxon)))

    below_length : (w : ℕ → State) → length_below K tree v w ≡ length_in K cell (node v f) w
    below_length w = sym (length_flat K laws cell T w (node v f) fits (omega arith))

    -- outside the region a way is longer than the least, by its way to the region or more
    pub below_lower : (w : ℕ → State) → AgreesBelow K n cell tree v w
        → least K cell (node v f) + K.away (w v) (region K cell (node v f)) ≤ length_below K tree v w
    below_lower w g = rw (below_length w) (lower K cell laws (node v f) w (to_below w g))

    below-answers : Answers K cell (node v f)
    below-answers = answers K cell laws (node v f) (distinct T (node v f) fits (omega arith))

    pub below-least : IsLeast (AgreesBelow K n cell tree v) (length_below K tree v) (least K cell (node v f))
    below-least =
        moved_least (AgreesBelow K n cell tree v) (Allowed K cell (node v f)) (length_below K tree v) (length_in K cell (node v f)) to_below
        from-below below_length (least K cell (node v f)) below-answers.bound below-answers.attained

    pub below-used : (x : State) → In K x (region K cell (node v f)) ↔ Used (AgreesBelow K n cell tree v) (length_below K tree v) v x
    below-used =
        moved_used (AgreesBelow K n cell tree v) (Allowed K cell (node v f)) (length_below K tree v) (length_in K cell (node v f)) to_below
        from-below below_length (least K cell (node v f)) below-answers.bound below-answers.attained
        (λ x. In K x (region K cell (node v f))) v below-answers.only_these below-answers.all_these

  -- ---- the whole tree

  to_whole : (w : ℕ → State) → Agrees K n cell w → Allowed K cell (whole T) w
  to_whole w g =
      let ok : Allowed K cell (node δ (crown T)) w =
      at_allowed K cell (descendants tree) w (node δ (crown T)) (crown_fits T)
      (λ k l e. let (p, q, _) = in_tree T (node δ (crown T)) (crown_fits T) (δ-some T) (δ-most T) k l in g k p (childless k q e)) in
      off_allowed K cell (whole T) w
      (omega (arith, whole-off T K cell w, allowed_off K cell (node δ (crown T)) w ok, g ρ some taxon))

  pub from-whole : (w : ℕ → State) → Allowed K cell (whole T) w → Agrees K n cell w
  from-whole w ok k p q = go (ℕ_discrete k ρ)
    where
      z : off K cell (whole T) w ≡ 0
      z = allowed_off K cell (whole T) w ok

      go : Dec (k ≡ ρ) → In K (w k) (cell k)
      go (yes e) = rw e (omega (arith, z, whole-off T K cell w))
      go (no e) =
          allowed_at K cell (descendants tree) w (node δ (crown T)) (crown_fits T)
          (off_allowed K cell (node δ (crown T)) w (omega (arith, z, whole-off T K cell w))) k
          (omega (
            arith,
            each-once T (node δ (crown T)) (crown_fits T) refl k p (omega (arith, more)),
            same-apart ρ k (λ (r : ρ ≡ k). e (sym r)),
          ))
          (leaf k p q e)

  pub length_whole : (w : ℕ → State) → length_of K tree w ≡ length_in K cell (whole T) w
  length_whole w =
      length-root K laws cell T w
      ∙ sym (length_flat K laws cell T w (node ρ (one (node δ (crown T)))) (sym stem, crown_fits T) some)
      ∙ sym (whole_length T K cell w laws)

  pub whole-answers : Answers K cell (whole T)
  whole-answers = answers K cell laws (whole T) (whole_distinct T)

  pub whole-least : IsLeast (Agrees K n cell) (length_of K tree) (least K cell (whole T))
  whole-least =
      moved_least (Agrees K n cell) (Allowed K cell (whole T)) (length_of K tree) (length_in K cell (whole T)) to_whole from-whole length_whole
      (least K cell (whole T)) whole-answers.bound whole-answers.attained

  pub whole-used : (P : State → Type 0) (v : ℕ)
      → ((w : ℕ → State) → Allowed K cell (whole T) w → length_in K cell (whole T) w ≡ least K cell (whole T) → P (w v))
      → ((x : State) → P x
      → (w : ℕ → State) × Allowed K cell (whole T) w × (length_in K cell (whole T) w ≡ least K cell (whole T)) × (w v ≡ x))
      → (x : State) → P x ↔ Used (Agrees K n cell) (length_of K tree) v x
  whole-used =
      moved_used (Agrees K n cell) (Allowed K cell (whole T)) (length_of K tree) (length_in K cell (whole T)) to_whole from-whole length_whole
      (least K cell (whole T)) whole-answers.bound whole-answers.attained
