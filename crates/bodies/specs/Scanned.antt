-- What the answers about a text say: of what stands after the rows, and of the whole text.
-- Assumes nothing.
use Rattle.std.specs.Prelude.{◌≡◌, ◌⊎◌, ℕ, ◌+◌, length, Option, Some, None, Result, Ok, Err}
use mathlib.Core.List.{List, [], ◌++◌, flatten}
use Rattle.choices.specs.declared.Resolve.{Resolve}
use Rattle.refusals.specs.declared.Refusal.{Refusal}
use Rattle.refusals.specs.Checks.{Refuses}
use Rattle.forms.specs.Sheets.{Sheet, choice, resolve_line, IsSheet}
use Rattle.forms.specs.Faults.{text_checks}
use Rattle.forms.specs.Parts.{NoResolve, Followed}
use Rattle.bodies.specs.declared.Head.{Head}

-- what stands after the rows, where the next line is line k
abbrev pub Ends : (rest : List ℕ) (k : ℕ) → Result (Option Resolve) ℕ → Type 0
Ends rest k (Ok None) = rest ≡ []
Ends rest k (Ok (Some r)) = rest ≡ resolve_line r
Ends rest k (Err l) = ((l ≡ k) × NoResolve rest) ⊎ ((l ≡ k + 1) × Followed rest)

-- a text is read as n, c and r, and a list of 16,384 begins with the ancestors and the cells
pub record Holds (text : List ℕ) (n c : ℕ) (r : Resolve) (out : List ℕ) : Type 0 where
  pub sheet : Sheet
  pub is_sheet : IsSheet text sheet
  pub taxa_is : sheet.taxa ≡ n
  pub characters_is : sheet.characters ≡ c
  pub choice_is : choice sheet.last ≡ r
  pub rest : List ℕ
  pub list : out ≡ sheet.ancestors ++ (flatten sheet.rows ++ rest)
  pub long : length out ≡ 16384

-- what an answer says of a text, and of the list where its numbers went
abbrev pub Scanned : (text : List ℕ) → Result Head Refusal → (out : List ℕ) → Type 0
Scanned text (Ok h) out = Holds text h.n h.c h.resolve out
Scanned text (Err q) out = Refuses (text_checks text) q × (length out ≡ 16384)
