-- How high and how long the entries of a character can be that have their meaning: no end is above the highest state, and no length is above that of
-- a way that stands at 0 in each interior node, in which each node below v changes by the highest state at the most. (v itself is not below v.)
-- Assumes nothing.
use mathlib.Core.Path.{◌≡◌, sym, ◌∙◌, ap}
use mathlib.Core.List.{List, [], ◌∷◌, map}
use Prim.Native.Nat.{ℕ, zero, suc, ◌+◌, ◌-◌, ◌*◌, ◌≤◌, ◌<◌}
use native.Mathlib.Decide.{dec_le}
use native.Mathlib.Nat.{suc-mul, mul_comm}
use native.Mathlib.Omega.{arith}
use lib.ListN.{length}
use lib.IntN.{ℤ, pos}
use Rattle.parsimony.specs.Lists.{choose, same}
use Rattle.parsimony.specs.Table.{ancestor, descendants, nodes, below, Accepted}
use Rattle.parsimony.specs.Ordered.{ordered}
use Rattle.parsimony.specs.Ordered as ordered
use Rattle.parsimony.specs.Way.{AgreesBelow, change_to, change, length_below}
use Rattle.parsimony.specs.Character.{at_node, cells, ranges, FirstMeans}
use Rattle.parsimony.proofs.Sums.{All, choose_yes, sum-add, sum-at, sum-most, often-once}
use Rattle.parsimony.proofs.Characters.{in_point, range-taxon, range-inner}
use Rattle.parsimony.proofs.Ranges.Distances.{distance_is}
use Rattle.parsimony.proofs.Ranges.Joins.{join-high}
use Rattle.parsimony.proofs.Tables.Trees.{Tree, meets-all, meets-least}
use Rattle.parsimony.proofs.Tables.Fitting.{upward}
use Rattle.parsimony.proofs.Tables.Meant.{meant_settled}

-- of two weights that are at most one together, each times a number up to h
weigh : (b s x h : ℕ) → b + s ≤ 1 → x ≤ h → b * x + s * h ≤ h
weigh zero zero x h l m = omega arith
weigh zero (suc zero) x h l m = omega arith
weigh zero (suc (suc s)) x h l m = absurd (omega arith)
weigh (suc zero) zero x h l m = omega arith
weigh (suc zero) (suc s) x h l m = absurd (omega arith)
weigh (suc (suc b)) s x h l m = absurd (omega arith)

module _ (n : ℕ) (state : ℕ → ℕ) (tree : List ℕ) (ρ δ : ℕ) (A : Accepted n tree ρ δ) (h : ℕ)
    (small : (k : ℕ) → 1 ≤ k → k ≤ n → state k ≤ h) (lows highs lengths : List ℕ) (M : FirstMeans n state tree lows highs lengths) where
  abbrev T : Tree
  T = record { n = n; tree = tree; ρ = ρ; δ = δ; is_tree = A.is_tree }

  -- ---- ends

  pub meant_high : (v : ℕ) → n < v → v ≤ length tree → at_node n highs v ≤ h
  meant_high v lo hi =
      let top : (ranges n state lows highs v).high ≤ h =
      upward T (λ k. (ranges n state lows highs k).high ≤ h) (λ k p l r. rw (range-taxon n state lows highs k l) (small k p l)) fork v (omega arith) hi
      (λ (e : v ≡ ρ). omega (arith, A.is_tree.taxon)) in
      omega (arith, top, ap (λ (r : ordered.Range). r.high) (range-inner n state lows highs v lo))
    where
      fork : (v : ℕ) → n < v → v ≤ length tree → All (λ k. (ranges n state lows highs k).high ≤ h) (descendants tree v)
          → (ranges n state lows highs v).high ≤ h
      fork v lo hi =
          go (descendants tree v) (A.two v lo hi) ((meant_settled n state tree ρ δ A.is_tree lows highs lengths M).forks v lo hi).joined
        where
          go : (cs : List ℕ) → length cs ≡ 2 → ranges n state lows highs v ≡ ordered.join (map (ranges n state lows highs) cs)
              → All (λ k. (ranges n state lows highs k).high ≤ h) cs → (ranges n state lows highs v).high ≤ h
          go [] l e d = absurd (omega arith)
          go (a ∷ []) l e d = absurd (omega arith)
          go (a ∷ b ∷ []) l e d =
              let top = join-high (ranges n state lows highs a) (ranges n state lows highs b) (at_node n lows v) (at_node n highs v) h d.0 d.1.0
              (sym (range-inner n state lows highs v lo) ∙ e) (M.fits v lo hi) in
              rw (range-inner n state lows highs v lo) (omega (arith, M.fits v lo hi))
          go (a ∷ b ∷ c ∷ cs) l e d = absurd (omega arith)

  -- ---- lengths

  -- the way that has the taxa's states, and 0 elsewhere
  abbrev simple : ℕ → ℕ
  simple k = choose (dec_le k n) (state k) 0

  abbrev way : ℕ → ℤ
  way k = pos (simple k)

  simple-small : (k : ℕ) → 1 ≤ k → simple k ≤ h
  simple-small k p = go (dec_le k n)
    where
      go : (d : Dec (k ≤ n)) → choose d (state k) 0 ≤ h
      go (yes l) = small k p l
      go (no l) = omega arith

  change-small : (k : ℕ) → 1 ≤ k → change ordered tree way k ≤ h
  change-small k p = go (ancestor tree k)
    where
      go : (a : ℕ) → change_to ordered way k a ≤ h
      go zero = omega arith
      go (suc a) =
          omega (arith, distance_is (pos (simple k)) (pos (simple (suc a))), simple-small k p, simple-small (suc a) (omega arith))

  module _ (v : ℕ) (lo : n < v) (hi : v ≤ length tree) where
    agrees : AgreesBelow ordered n (cells n state) tree v way
    agrees k p q u = (in_point (state k) (way k)).1 (ap pos (choose_yes (dec_le k n) (state k) 0 q))

    way-short : length_below ordered tree v way + h ≤ length tree * h
    way-short =
        omega (
          arith,
          sum-most (λ k. below tree v k * change ordered tree way k + same v k * h) h (length tree) each,
          sum-add (λ k. below tree v k * change ordered tree way k) (λ k. same v k * h) (nodes tree),
          sum-at (λ k. h) (nodes tree) v,
          ap (λ x. x * h) (often-once 1 (length tree) v (omega arith) (omega arith)),
        )
      where
        each : (k : ℕ) → 1 ≤ k → k ≤ length tree → below tree v k * change ordered tree way k + same v k * h ≤ h
        each k p q =
            weigh (below tree v k) (same v k) (change ordered tree way k) h
            (omega (arith, meets-all T v k (omega arith), meets-least T v k (omega arith))) (change-small k p)

    pub meant_short : at_node n lengths v ≤ h * (length tree - 1)
    meant_short =
        let m : ℕ = length tree - 1 in
        let e : length tree ≡ suc m = omega arith in
        omega (arith, (M.means v lo hi).least.bound way agrees, way-short, ap (λ x. x * h) e, suc-mul m h, mul_comm h m)
