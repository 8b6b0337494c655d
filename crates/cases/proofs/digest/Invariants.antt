-- The digest so far, taken on over the entries that are left, is the digest.
use Rattle.std.proofs.Common.{ℕ, ◌<◌, ◌^◌, drop}
use Rattle.cases.specs.Printing.{Digests}
use Rattle.cases.proofs.digest.Given as goal

abbrev pub invariant-loop-value : goal.invariant-loop-value
invariant-loop-value g l = record {
  fits : l.sum < 2 ^ 32;
  taken : (r : ℕ) → Digests g.T.Into.converts l.more (drop l.value-index l.values) l.sum r → Digests g.T.Into.converts l.more l.values l.start r;
}
