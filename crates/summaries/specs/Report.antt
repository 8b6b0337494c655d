-- The report in print: the lines for the tree, and the line of a refusal. What the values mean is not here: the call says it (the crate `reports`).
-- Assumes nothing.
use Rattle.std.specs.Prelude.{List, [], ◌∷◌, ◌++◌, ℕ}
use Rattle.numbers.specs.Printed.{decimal}
use Rattle.choices.specs.declared.Resolve.{Resolve}
use Rattle.forms.specs.Sheets.{taxa_key, characters_key, resolve_line}
use Rattle.scores.specs.declared.Scores.{Scores}
use Rattle.fields.specs.Fields.{byte, field, index}

-- ---- the keys that a sheet has not

-- length=
abbrev pub length_key : List ℕ
length_key = 108 ∷ 101 ∷ 110 ∷ 103 ∷ 116 ∷ 104 ∷ 61 ∷ []

-- ci=
abbrev pub ci_key : List ℕ
ci_key = 99 ∷ 105 ∷ 61 ∷ []

-- ri=
abbrev pub ri_key : List ℕ
ri_key = 114 ∷ 105 ∷ 61 ∷ []

-- refused=
abbrev pub refused_key : List ℕ
refused_key = 114 ∷ 101 ∷ 102 ∷ 117 ∷ 115 ∷ 101 ∷ 100 ∷ 61 ∷ []

-- ---- the lines

-- the two indices
abbrev pub index_lines : Scores → List ℕ
index_lines s = field ci_key (index s.ci) ++ field ri_key (index s.ri)

-- the six lines for the tree
abbrev pub tree_lines : (n c : ℕ) → Scores → Resolve → List ℕ
tree_lines n c s r =
    field taxa_key (decimal n) ++ (field characters_key (decimal c) ++ (field length_key (decimal s.length) ++ (index_lines s ++ resolve_line r)))

-- the line of a refusal
abbrev pub refused_line : (number place : ℕ) → List ℕ
refused_line number place = refused_key ++ (decimal number ++ (byte 44 ++ (decimal place ++ byte 10)))
