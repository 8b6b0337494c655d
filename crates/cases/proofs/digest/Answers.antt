-- One entry more is one step of the digest; behind the last entry it is the whole.
use Rattle.std.proofs.Common.{arith, refl}
use Rattle.std.proofs.lemmas.List.{drop_all}
use Rattle.cases.specs.Printing.{Digests}
use Rattle.cases.proofs.Steps.{digests_more}
use Rattle.cases.proofs.digest.Goals as goal

pub loop-value-preserved : goal.loop-value-preserved
loop-value-preserved g c = record {
  fits = omega arith;
  taken =
      λ r h.
      c.loop-value.invariant.taken r
      (digests_more _ _ _ _ c.value-item.result c.into-value.result _ _ r c.loop-value-test.true c.value-item.is c.into-value.ensures
      (rw (c.from.ensures, c.from-in-loop-value.ensures)) h);
}

pub returns : goal.returns
unfolding Digests
returns g c = c.loop-value.invariant.taken _ (rw (drop_all c.loop-value.value-index c.args.values.now c.loop-value-test.false) refl)
