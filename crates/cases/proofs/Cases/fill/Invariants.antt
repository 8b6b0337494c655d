-- The entries before this one are the numbers read so far.
use Rattle.std.proofs.Common.{◌≡◌, ℕ, ◌<◌, get_or}
use Rattle.cases.specs.Reading.{value_at, place}
use Rattle.cases.proofs.Cases.fill.Given as goal

abbrev pub invariant-loop-entry : goal.invariant-loop-entry
invariant-loop-entry l = record {
  text : l.self.text.now ≡ l.initial.self.text.now;
  next : l.self.at ≡ place l.initial.self.text.now l.initial.self.at l.entry-index;
  values : (k : ℕ) → k < l.entry-index → get_or l.entry-items k 0 ≡ value_at l.initial.self.text.now (place l.initial.self.text.now l.initial.self.at k);
}
