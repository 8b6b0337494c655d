-- Ordered characters keep the laws of a kind, and the nearest state of a range lies between a state and any other of the range.
-- Assumes nothing.
use mathlib.Core.Path.{◌≡◌, refl, sym, ◌∙◌, ap}
use mathlib.Core.List.{List, ◌∷◌}
use Prim.Native.Nat.{suc, ◌+◌, ◌-◌, ◌≤◌}
use native.Mathlib.Nat.{max-eq_right}
use native.Mathlib.Omega.{arith}
use lib.ListN.{length, get_or}
use lib.IntN.{ℤ, pos}
use Rattle.parsimony.specs.Lists.{sum}
use Rattle.parsimony.specs.Kind.{Laws, In, total}
use Rattle.parsimony.specs.Ordered.{distance, Range, nearest, away, ends, sorted, join, cost, ordered}
use Rattle.parsimony.proofs.Sums.{sum_cong}
use Rattle.parsimony.proofs.Ranges.Distances.{range_same, distance_is, apart_self, apart_sym, off, away_is, off-nearest, off_by_way, off_straight}
use Rattle.parsimony.proofs.Ranges.Chains.{chain, taken, innermost, sum-chain, nested_chain, innermost_out, innermost_in}
use Rattle.parsimony.proofs.Ranges.Middles.{sorted_is, sum-sorted, middle}

-- the join, by the sorted ends, is the innermost range of the chain
pub join-innermost : (r : Range) (rs : List Range) → join (r ∷ rs) ≡ innermost (chain (r ∷ rs))
join-innermost r rs =
    let m = middle r rs (sorted (ends (r ∷ rs))) (sorted_is (ends (r ∷ rs))) (λ A. sum-sorted A (ends (r ∷ rs))) in
    let i : Range = innermost (chain (r ∷ rs)) in
    let e : suc (length rs) - 1 ≡ length rs = omega arith in
    let l : get_or (sorted (ends (r ∷ rs))) (suc (length rs) - 1) 0 ≡ i.low = rw e m.0 in
    range_same (join (r ∷ rs)) i l (rw (l, m.1) (max-eq_right i.fits))

-- and its ends are the middle two of the sorted ends
pub join-ends : (r : Range) (rs : List Range)
    → ((join (r ∷ rs)).low ≡ get_or (sorted (ends (r ∷ rs))) (length rs) 0)
    × ((join (r ∷ rs)).high ≡ get_or (sorted (ends (r ∷ rs))) (suc (length rs)) 0)
join-ends r rs =
    let m = middle r rs (sorted (ends (r ∷ rs))) (sorted_is (ends (r ∷ rs))) (λ A. sum-sorted A (ends (r ∷ rs))) in
    (ap (λ (q : Range). q.low) (join-innermost r rs) ∙ sym m.0, ap (λ (q : Range). q.high) (join-innermost r rs) ∙ sym m.1)

total-off : (x : ℤ) (rs : List Range) → total ordered x rs ≡ sum (off x) rs
total-off x rs = sum_cong (away x) (off x) rs (away_is x)

module _ (r : Range) (rs : List Range) where
  -- from the chain's innermost range, all ranges are as far as the chain takes
  at-innermost : (x : ℤ) → off x (innermost (chain (r ∷ rs))) ≡ 0 → total ordered x (r ∷ rs) ≡ taken (r ∷ rs)
  at-innermost x h =
      omega (
        arith,
        total-off x (r ∷ rs),
        sum-chain x (r ∷ rs),
        innermost_in x (chain (r ∷ rs)) (nested_chain (r ∷ rs)) h,
      )

  at_join : (x : ℤ) → In ordered x (join (r ∷ rs)) → total ordered x (r ∷ rs) ≡ taken (r ∷ rs)
  at_join x h = at-innermost x (sym (away_is x (innermost (chain (r ∷ rs)))) ∙ ap (away x) (sym (join-innermost r rs)) ∙ h)

  low_in : In ordered (pos (join (r ∷ rs)).low) (join (r ∷ rs))
  low_in = away_is (pos (join (r ∷ rs)).low) (join (r ∷ rs)) ∙ omega (arith, (join (r ∷ rs)).fits)

  pub cost-taken : cost (r ∷ rs) ≡ taken (r ∷ rs)
  cost-taken = at_join (pos (join (r ∷ rs)).low) low_in

  out_of_join : (x : ℤ) → cost (r ∷ rs) + away x (join (r ∷ rs)) ≤ total ordered x (r ∷ rs)
  out_of_join x =
      omega (
        arith,
        cost-taken,
        ap (away x) (join-innermost r rs),
        away_is x (innermost (chain (r ∷ rs))),
        innermost_out x r rs,
        total-off x (r ∷ rs),
        sum-chain x (r ∷ rs),
      )

pub ordered_laws : Laws ordered
ordered_laws =
    record {
      same_state = λ x. distance_is x x ∙ apart_self x;
      either_way = λ x y. distance_is x y ∙ apart_sym x y ∙ sym (distance_is y x);
      away_by_way = λ x y r. omega (arith, away_is x r, distance_is x y, away_is y r, off_by_way x y r);
      nearest_in = λ r x. away_is (nearest r x) r ∙ off-nearest r x;
      nearest_far = λ r x. refl;
      join_in = λ r rs x h. at_join r rs x h ∙ sym (cost-taken r rs);
      join_out = out_of_join;
    }

pub straight : (r : Range) (x y : ℤ) → In ordered y r → distance x (nearest r x) + distance (nearest r x) y ≡ distance x y
straight r x y h =
    omega (
      arith,
      distance_is x (nearest r x),
      distance_is (nearest r x) y,
      distance_is x y,
      off_straight r x y (sym (away_is y r) ∙ h),
    )
