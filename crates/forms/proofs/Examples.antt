-- Document 01's sheet, byte by byte, is the sheet that it says.
-- Assumes nothing.
use mathlib.Core.Path.{◌≡◌, refl}
use mathlib.Core.List.{List, [], ◌∷◌, flatten}
use Prim.Native.Nat.{ℕ}
use native.Mathlib.Omega.{arith}
use Rattle.numbers.specs.Printed.{decimal_of, continued, commas}
use Rattle.lines.specs.Printed.{Fit, FitRows}
use Rattle.choices.specs.declared.Resolve.TheVariants.{Acctran}
use Rattle.forms.specs.Sheets.{Sheet, unsaid, choice, IsSheet}

-- what it says
abbrev pub handout : Sheet
handout =
    record {
      taxa = 4;
      characters = 2;
      ancestors = 0 ∷ 5 ∷ 6 ∷ 6 ∷ 1 ∷ 5 ∷ [];
      rows = (0 ∷ 0 ∷ []) ∷ (3 ∷ 1 ∷ []) ∷ (1 ∷ 1 ∷ []) ∷ (5 ∷ 0 ∷ []) ∷ [];
      last = unsaid;
    }

-- its lines, as document 01 prints them
abbrev pub handout_lines : List (List ℕ)
handout_lines =
    -- taxa=4
    (116 ∷ 97 ∷ 120 ∷ 97 ∷ 61 ∷ 52 ∷ 10 ∷ []) ∷
    -- characters=2
    (99 ∷ 104 ∷ 97 ∷ 114 ∷ 97 ∷ 99 ∷ 116 ∷ 101 ∷ 114 ∷ 115 ∷ 61 ∷ 50 ∷ 10 ∷ []) ∷
    -- ancestors=0,5,6,6,1,5
    (97 ∷ 110 ∷ 99 ∷ 101 ∷ 115 ∷ 116 ∷ 111 ∷ 114 ∷ 115 ∷ 61 ∷ 48 ∷ 44 ∷ 53 ∷ 44 ∷ 54 ∷ 44 ∷ 54 ∷ 44 ∷ 49 ∷ 44 ∷ 53 ∷ 10 ∷ []) ∷
    -- row=0,0
    (114 ∷ 111 ∷ 119 ∷ 61 ∷ 48 ∷ 44 ∷ 48 ∷ 10 ∷ []) ∷
    -- row=3,1
    (114 ∷ 111 ∷ 119 ∷ 61 ∷ 51 ∷ 44 ∷ 49 ∷ 10 ∷ []) ∷
    -- row=1,1
    (114 ∷ 111 ∷ 119 ∷ 61 ∷ 49 ∷ 44 ∷ 49 ∷ 10 ∷ []) ∷
    -- row=5,0
    (114 ∷ 111 ∷ 119 ∷ 61 ∷ 53 ∷ 44 ∷ 48 ∷ 10 ∷ []) ∷ []

pub handout-sheet : IsSheet (flatten handout_lines) handout
unfolding flatten decimal_of continued commas Fit FitRows
handout-sheet =
    record {
      sized =
          record {
            taxa_fit = omega arith;
            characters_fit = omega arith;
            nodes = refl;
            ancestors_fit = (omega arith, (omega arith, (omega arith, (omega arith, (omega arith, (omega arith, tt))))));
            each_taxon = refl;
            rows_fit = (
              refl,
              (omega arith, (omega arith, tt)),
              (refl, (omega arith, (omega arith, tt)), (refl, (omega arith, (omega arith, tt)), (refl, (omega arith, (omega arith, tt)), tt))),
            );
          };
      within = record { least_taxa = omega arith; most_taxa = omega arith; least_characters = omega arith; most_characters = omega arith };
      text_is = refl;
      short = omega arith;
    }

-- it has no resolve line, and so the default
pub handout-choice : choice handout.last ≡ Acctran
handout-choice = refl
