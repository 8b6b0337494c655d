-- What a sheet is: what it says, and its lines in print. A text is a list of bytes. How one line is written is in the crate `lines`.
-- Assumes nothing.
use Rattle.std.specs.Prelude.{◌≡◌, ℕ, ◌-◌, ◌*◌, ◌≤◌, ◌<◌, length, take}
use mathlib.Core.List.{List, [], ◌∷◌, ◌++◌, map, flatten}
use Rattle.choices.specs.declared.Resolve.{Resolve}
use Rattle.choices.specs.declared.Resolve.TheVariants.{Acctran, Deltran}
use Rattle.lines.specs.Printed.{line, row_key, Fit, FitRows}

-- ---- what a sheet says

-- the resolve line, which may be left out
pub data Last : Type 0 where
  unsaid : Last
  said : Resolve → Last

-- the choice: the default is ACCTRAN
abbrev pub choice : Last → Resolve
choice unsaid = Acctran
choice (said r) = r

-- n, c, the ancestors, a row for each taxon, and the resolve line
pub record Sheet : Type 0 where
  pub taxa : ℕ
  pub characters : ℕ
  pub ancestors : List ℕ
  pub rows : List (List ℕ)
  pub last : Last

-- its numbers are 0 to 65535, and it has as many as its n and c say: 2n-2 ancestors, and n rows of c
pub record Sized (s : Sheet) : Type 0 where
  pub taxa_fit : s.taxa ≤ 65535
  pub characters_fit : s.characters ≤ 65535
  pub nodes : length s.ancestors ≡ 2 * s.taxa - 2
  pub ancestors_fit : Fit s.ancestors
  pub each_taxon : length s.rows ≡ s.taxa
  pub rows_fit : FitRows s.characters s.rows

-- n and c are within their limits
pub record Within (n c : ℕ) : Type 0 where
  pub least_taxa : 3 ≤ n
  pub most_taxa : n ≤ 256
  pub least_characters : 1 ≤ c
  pub most_characters : c ≤ 512

-- ---- its lines in print

-- taxa=
abbrev pub taxa_key : List ℕ
taxa_key = 116 ∷ 97 ∷ 120 ∷ 97 ∷ 61 ∷ []

-- characters=
abbrev pub characters_key : List ℕ
characters_key = 99 ∷ 104 ∷ 97 ∷ 114 ∷ 97 ∷ 99 ∷ 116 ∷ 101 ∷ 114 ∷ 115 ∷ 61 ∷ []

-- ancestors=
abbrev pub ancestors_key : List ℕ
ancestors_key = 97 ∷ 110 ∷ 99 ∷ 101 ∷ 115 ∷ 116 ∷ 111 ∷ 114 ∷ 115 ∷ 61 ∷ []

-- resolve=acctran or resolve=deltran, and LF
abbrev pub resolve_line : Resolve → List ℕ
resolve_line Acctran = 114 ∷ 101 ∷ 115 ∷ 111 ∷ 108 ∷ 118 ∷ 101 ∷ 61 ∷ 97 ∷ 99 ∷ 99 ∷ 116 ∷ 114 ∷ 97 ∷ 110 ∷ 10 ∷ []
resolve_line Deltran = 114 ∷ 101 ∷ 115 ∷ 111 ∷ 108 ∷ 118 ∷ 101 ∷ 61 ∷ 100 ∷ 101 ∷ 108 ∷ 116 ∷ 114 ∷ 97 ∷ 110 ∷ 10 ∷ []

-- that line, if there is one
abbrev pub last_lines : Last → List (List ℕ)
last_lines unsaid = []
last_lines (said r) = resolve_line r ∷ []

-- the lines of a sheet: taxa, characters, ancestors, a row for each taxon, and the resolve line, if it has one
abbrev pub lines_of : Sheet → List (List ℕ)
lines_of s =
    line taxa_key (s.taxa ∷ []) ∷ line characters_key (s.characters ∷ []) ∷ line ancestors_key s.ancestors
    ∷ (map (line row_key) s.rows ++ last_lines s.last)

-- ---- which texts are sheets

-- A text is the sheet s: it is the lines of s one after another, with nothing after them, and has at most 32,768 bytes.
pub record IsSheet (text : List ℕ) (s : Sheet) : Type 0 where
  pub sized : Sized s
  pub within : Within s.taxa s.characters
  pub text_is : text ≡ flatten (lines_of s)
  pub short : length text ≤ 32768

-- A text begins as the sheet s: its first k lines are those of s, and past the last line of s it has nothing.
pub record Begins (text : List ℕ) (s : Sheet) (k : ℕ) : Type 0 where
  pub sized : Sized s
  pub rest : List ℕ
  pub text_is : text ≡ flatten (take k (lines_of s)) ++ rest
  pub over : length (lines_of s) < k → rest ≡ []

-- the lines of a text are in form as far as line k: it begins as some sheet
abbrev pub InForm : List ℕ → ℕ → Type 0
InForm text k = (s : Sheet) × Begins text s k
