-- `read_choice` stands at a resolve line. If the text ends 16 bytes on, nothing follows that line; and if not, something does, on the line after it.
use mathlib.Core.Path.{refl}
use mathlib.Core.Logic.{inr}
use Rattle.forms.proofs.Endings.{end_choice, end_followed}
use Rattle.bodies.proofs.read_choice.Goals as goal

pub returns-then-at-text : goal.returns-then-at-text
returns-then-at-text c = end_choice _ _ c.args.choice c.requires.3 c.if-at-text.true

pub returns-else-at-text : goal.returns-else-at-text
returns-else-at-text c = inr (refl, end_followed _ _ c.args.choice c.requires.3 c.requires.0 c.if-at-text.false)
