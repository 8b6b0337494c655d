-- `scan`: the first line is refused, or the second, or n or c is outside its limits; else the body is read, and its answer is the scan's.
use Rattle.std.proofs.Common.{rules}
use native.Mathlib.Omega.{arith}
use mathlib.Core.Path.{◌≡◌, sym, ap, ◌∙◌}
use mathlib.Core.Logic.{⊎_elim}
use Rattle.std.specs.Prelude.{Err}
use Rattle.std.proofs.lemmas.Result.{err_from_is_err_and}
use Rattle.numbers.specs.Numbers.{parsed}
use Rattle.lines.specs.Lines.{head_at}
use Rattle.lines.proofs.Reach.{head_reach}
use Rattle.lines.proofs.Results.{ok_some, ok_none}
use Rattle.forms.specs.Sheets.{Within, taxa_key}
use Rattle.forms.specs.Parts.{Heads}
use Rattle.forms.proofs.Faults.{refused-first, refused-second, refused_outside}
use Rattle.forms.proofs.Reading.{first_read, heads_read}
use Rattle.bodies.proofs.Storing.{refused_as}
use Rattle.scans.proofs.scan.Goals as goal
use Rattle.scans.proofs.scan.Goals.{In_ok-taxa, In_ok-characters, Joined-then-n-lt3}

first_is : (c : In_ok-taxa) → head_at c.args.text.now taxa_key 0 ≡ parsed c.in_ok-taxa.taxa.value c.in_ok-taxa.taxa.next
first_is c = sym c.head.ensures ∙ ok_some _ _ _ c.in_ok-taxa.ensures.value

-- the first two lines are in form
heads : (c : In_ok-characters) → Heads c.args.text.now c.in_ok-taxa.taxa.value c.in_ok-characters.characters.value c.in_ok-characters.characters.next
heads c =
    heads_read _ _ _ _ _ (sym c.head.ensures ∙ ok_some _ _ _ c.in_ok-taxa.ensures.value)
    (sym c.head-2.ensures ∙ ok_some _ _ _ c.in_ok-characters.ensures.value)

-- n or c is outside its limits
outside : (c : Joined-then-n-lt3) → Within c.in_ok-taxa.taxa.value c.in_ok-characters.characters.value → ⊥
outside c W =
    ⊎_elim (λ t. omega (arith, t, W.least_taxa)) (⊎_elim (λ (a, t). omega (arith, t, W.most_taxa))
    (⊎_elim (λ (a, b, t). omega (arith, t, W.least_characters)) (λ (a, b, d, t). omega (arith, t, W.most_characters)))) c.then-n-lt3.either

pub returns-in_err-taxa : goal.returns-in_err-taxa
returns-in_err-taxa c =
    let (q, e, same) = err_from_is_err_and c.from_residual.result c.from_residual.ensures.1 in
    let (none, form) = ok_none _ _ _ c.in_err-taxa.ensures.value in
    refused_as _ _ _ _ (e ∙ ap Err (same ∙ form ∙ c.refuse-2.ensures)) (refused-first _ (omega arith) (sym c.head.ensures ∙ none)) c.requires

pub head-requires-2 : goal.head-requires-2
head-requires-2 c = (omega (arith, head_reach _ _ _ _ _ (first_is (goal.at.head-requires-2 c).In_ok-taxa)), search rules)

pub returns-in_err-characters : goal.returns-in_err-characters
returns-in_err-characters c =
    let (q, e, same) = err_from_is_err_and c.from_residual-in_err-characters.result c.from_residual-in_err-characters.ensures.1 in
    let (none, form) = ok_none _ _ _ c.in_err-characters.ensures.value in
    let (fit, print) = first_read _ _ _ (first_is (goal.at.returns-in_err-characters c).In_ok-taxa) in
    refused_as _ _ _ _ (e ∙ ap Err (same ∙ form ∙ c.refuse-3.ensures))
    (refused-second _ (omega arith) _ _ fit print (sym c.head-2.ensures ∙ none)) c.requires

pub returns-then-n-lt3 : goal.returns-then-n-lt3
returns-then-n-lt3 c =
    refused_as _ _ _ _ (ap Err c.refuse-then-n-lt3.ensures)
    (refused_outside _ (omega arith) _ _ _ (heads (goal.at.returns-then-n-lt3 c).In_ok-characters)
    (outside (goal.at.returns-then-n-lt3 c).Joined-then-n-lt3)) c.requires

pub read_body-requires : goal.read_body-requires
read_body-requires c = (
  heads (goal.at.read_body-requires c).In_ok-characters,
  record { least_taxa = omega arith; most_taxa = omega arith; least_characters = omega arith; most_characters = omega arith },
  omega arith,
  c.requires,
)
