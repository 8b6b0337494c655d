-- The report in print: the lines for a character. What the values mean is not here: the call says it (the crate `reports`).
-- Assumes nothing.
use Rattle.std.specs.Prelude.{List, [], ◌∷◌, ◌++◌, ℕ}
use Rattle.numbers.specs.Printed.{decimal, commas}
use Rattle.scores.specs.declared.Scores.{Scores}
use Rattle.scores.specs.Scores.{Results}
use Rattle.fields.specs.Fields.{field}
use Rattle.listings.specs.Ranges.{ranges}
use Rattle.summaries.specs.Report.{length_key, index_lines}

-- ---- the keys that neither a sheet nor the lines for the tree have

-- character=
abbrev pub character_key : List ℕ
character_key = 99 ∷ 104 ∷ 97 ∷ 114 ∷ 97 ∷ 99 ∷ 116 ∷ 101 ∷ 114 ∷ 61 ∷ []

-- first=
abbrev pub first_key : List ℕ
first_key = 102 ∷ 105 ∷ 114 ∷ 115 ∷ 116 ∷ 61 ∷ []

-- mpr=
abbrev pub mpr_key : List ℕ
mpr_key = 109 ∷ 112 ∷ 114 ∷ 61 ∷ []

-- states=
abbrev pub states_key : List ℕ
states_key = 115 ∷ 116 ∷ 97 ∷ 116 ∷ 101 ∷ 115 ∷ 61 ∷ []

-- ---- the lines

-- three lines that list the interior nodes: first-pass ranges, final ranges, chosen states
abbrev pub node_lines : Results → List ℕ
node_lines r =
    field first_key (ranges r.first_lows r.first_highs)
    ++ (field mpr_key (ranges r.final_lows r.final_highs) ++ field states_key (commas r.states))

-- the seven lines for the character j
abbrev pub character_lines : ℕ → Scores → Results → List ℕ
character_lines j s r = field character_key (decimal j) ++ (field length_key (decimal s.length) ++ (node_lines r ++ index_lines s))
