-- Parts of a text, as they are read one after the other: the first two lines, and what stands after the rows.
-- Assumes nothing.
use Rattle.std.specs.Prelude.{◌≡◌, ◌≢◌, List, [], ◌∷◌, ◌++◌, ℕ, ◌≤◌, length, drop}
use Rattle.choices.specs.declared.Resolve.{Resolve}
use Rattle.lines.specs.Printed.{line}
use Rattle.forms.specs.Sheets.{taxa_key, characters_key, resolve_line}

-- the first two lines of a text, and the position after them
pub record Heads (text : List ℕ) (n c i : ℕ) : Type 0 where
  pub taxa_fit : n ≤ 65535
  pub characters_fit : c ≤ 65535
  pub text_is : text ≡ line taxa_key (n ∷ []) ++ (line characters_key (c ∷ []) ++ drop i text)
  pub inside : i ≤ length text

-- a rest of a text that is neither empty nor begins with a resolve line
pub record NoResolve (rest : List ℕ) : Type 0 where
  pub some : rest ≢ []
  pub other : (r : Resolve) (more : List ℕ) → rest ≢ resolve_line r ++ more

-- a resolve line that is not the last
pub record Followed (rest : List ℕ) : Type 0 where
  pub choice_said : Resolve
  pub more : List ℕ
  pub rest_is : rest ≡ resolve_line choice_said ++ more
  pub some : more ≢ []
