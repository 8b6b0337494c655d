-- What the program writes of a text: its report, and nothing else.
-- Assumes nothing.
use Rattle.std.specs.Prelude.{ℕ, List}
use Rattle.std.specs.declared.option.Option.{Option}
use Rattle.std.specs.Io.KnownBytes.{Appends}
use Rattle.reports.specs.Says.{Says}

-- what an output holds, where that is known, grows by the report on a text
abbrev pub GainsReport : (text : List ℕ) (before after : Option (List ℕ)) → Type 0
GainsReport text before after = (written : List ℕ) × Says text written × Appends before after written
