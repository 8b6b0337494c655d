-- Document 01's own report: the printing of the values that it has for its sheet is what it prints, to the letter. That these values have their
-- meaning is in the worked examples of the crate `parsimony`; that the program writes them is run (samples/).
-- Assumes nothing.
use mathlib.Core.Path.{◌≡◌, refl}
use mathlib.Core.List.{[], ◌∷◌}
use Prim.Native.Nat.{ℕ, suc, zero}
use Rattle.numbers.specs.Printed.{decimal_of, continued, commas}
use Rattle.std.specs.Prelude.{Option, Some, None}
use Rattle.indices.specs.declared.Fraction.{Fraction}
use Rattle.choices.specs.declared.Resolve.TheVariants.{Acctran}
use Rattle.scores.specs.declared.Scores.{Scores}
use Rattle.fields.specs.Fields.{index}
use Rattle.listings.specs.Ranges.{more_ranges, ranges}
use Rattle.summaries.specs.Report.{refused_line}
use Rattle.turns.specs.Lines.{Found}
use Rattle.reports.specs.Says.{report_text}

-- an index that is a fraction
abbrev pub some : ℕ → ℕ → Option Fraction
some over under = Some (record { over = over; under = under })

abbrev pub tree : Scores
tree = record { length = 9; m = 6; g = 11; ci = some 6 9; ri = some 2 5 }

abbrev pub first : Found
first =
    record {
      scores = record { length = 7; m = 5; g = 9; ci = some 5 7; ri = some 2 4 };
      results =
          record {
            first_lows = 3 ∷ 1 ∷ [];
            first_highs = 3 ∷ 5 ∷ [];
            subtree = 4 ∷ 4 ∷ [];
            final_lows = 1 ∷ 1 ∷ [];
            final_highs = 3 ∷ 3 ∷ [];
            states = 3 ∷ 3 ∷ [];
          };
    }

abbrev pub second : Found
second =
    record {
      scores = record { length = 2; m = 1; g = 2; ci = some 1 2; ri = some 0 1 };
      results =
          record {
            first_lows = 1 ∷ 0 ∷ [];
            first_highs = 1 ∷ 1 ∷ [];
            subtree = 1 ∷ 1 ∷ [];
            final_lows = 0 ∷ 0 ∷ [];
            final_highs = 1 ∷ 1 ∷ [];
            states = 1 ∷ 1 ∷ [];
          };
    }

abbrev pub found : ℕ → Found
found zero = first
found (suc zero) = first
found (suc (suc k)) = second

pub handout-report : report_text 4 2 Acctran tree found ≡
    116 ∷ 97 ∷ 120 ∷ 97 ∷ 61 ∷ 52 ∷ 10 ∷ 99 ∷ 104 ∷ 97 ∷ 114 ∷ 97 ∷ 99 ∷ 116 ∷ 101 ∷ 114 ∷ 115 ∷ 61 ∷ 50 ∷ 10 ∷ 108 ∷ 101 ∷ 110 ∷ 103 ∷ 116
    ∷ 104 ∷ 61 ∷ 57 ∷ 10 ∷ 99 ∷ 105 ∷ 61 ∷ 54 ∷ 47 ∷ 57 ∷ 44 ∷ 54 ∷ 54 ∷ 55 ∷ 10 ∷ 114 ∷ 105 ∷ 61 ∷ 50 ∷ 47 ∷ 53 ∷ 44 ∷ 52 ∷ 48 ∷ 48 ∷ 10 ∷
    114 ∷ 101 ∷ 115 ∷ 111 ∷ 108 ∷ 118 ∷ 101 ∷ 61 ∷ 97 ∷ 99 ∷ 99 ∷ 116 ∷ 114 ∷ 97 ∷ 110 ∷ 10 ∷ 99 ∷ 104 ∷ 97 ∷ 114 ∷ 97 ∷ 99 ∷ 116 ∷ 101 ∷
    114 ∷ 61 ∷ 49 ∷ 10 ∷ 108 ∷ 101 ∷ 110 ∷ 103 ∷ 116 ∷ 104 ∷ 61 ∷ 55 ∷ 10 ∷ 102 ∷ 105 ∷ 114 ∷ 115 ∷ 116 ∷ 61 ∷ 51 ∷ 45 ∷ 51 ∷ 44 ∷ 49 ∷ 45 ∷
    53 ∷ 10 ∷ 109 ∷ 112 ∷ 114 ∷ 61 ∷ 49 ∷ 45 ∷ 51 ∷ 44 ∷ 49 ∷ 45 ∷ 51 ∷ 10 ∷ 115 ∷ 116 ∷ 97 ∷ 116 ∷ 101 ∷ 115 ∷ 61 ∷ 51 ∷ 44 ∷ 51 ∷ 10 ∷ 99
    ∷ 105 ∷ 61 ∷ 53 ∷ 47 ∷ 55 ∷ 44 ∷ 55 ∷ 49 ∷ 52 ∷ 10 ∷ 114 ∷ 105 ∷ 61 ∷ 50 ∷ 47 ∷ 52 ∷ 44 ∷ 53 ∷ 48 ∷ 48 ∷ 10 ∷ 99 ∷ 104 ∷ 97 ∷ 114 ∷ 97 ∷
    99 ∷ 116 ∷ 101 ∷ 114 ∷ 61 ∷ 50 ∷ 10 ∷ 108 ∷ 101 ∷ 110 ∷ 103 ∷ 116 ∷ 104 ∷ 61 ∷ 50 ∷ 10 ∷ 102 ∷ 105 ∷ 114 ∷ 115 ∷ 116 ∷ 61 ∷ 49 ∷ 45 ∷ 49
    ∷ 44 ∷ 48 ∷ 45 ∷ 49 ∷ 10 ∷ 109 ∷ 112 ∷ 114 ∷ 61 ∷ 48 ∷ 45 ∷ 49 ∷ 44 ∷ 48 ∷ 45 ∷ 49 ∷ 10 ∷ 115 ∷ 116 ∷ 97 ∷ 116 ∷ 101 ∷ 115 ∷ 61 ∷ 49 ∷
    44 ∷ 49 ∷ 10 ∷ 99 ∷ 105 ∷ 61 ∷ 49 ∷ 47 ∷ 50 ∷ 44 ∷ 53 ∷ 48 ∷ 48 ∷ 10 ∷ 114 ∷ 105 ∷ 61 ∷ 48 ∷ 47 ∷ 49 ∷ 44 ∷ 48 ∷ 10 ∷ []
unfolding decimal_of continued commas more_ranges ranges
handout-report = refl

-- "as `refused=6,3`"
pub refused-line : refused_line 6 3 ≡ 114 ∷ 101 ∷ 102 ∷ 117 ∷ 115 ∷ 101 ∷ 100 ∷ 61 ∷ 54 ∷ 44 ∷ 51 ∷ 10 ∷ []
unfolding decimal_of
refused-line = refl

-- "or `ci=none`"
pub no_index : index None ≡ 110 ∷ 111 ∷ 110 ∷ 101 ∷ []
no_index = refl
