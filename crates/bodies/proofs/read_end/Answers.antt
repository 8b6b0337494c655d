-- `read_end` tries an empty rest and both resolve lines. What is left is neither empty nor begins with one, so this line itself is not in form.
use mathlib.Core.Path.{refl, sym, ◌∙◌}
use mathlib.Core.Logic.{inl}
use Rattle.forms.proofs.Endings.{end_other}
use Rattle.bodies.proofs.read_end.Goals as goal

pub returns-else-starts-2 : goal.returns-else-starts-2
returns-else-starts-2 c =
    let no_acctran = sym c.starts.ensures ∙ c.if-starts.false in
    let no_deltran = sym c.starts-else-starts.ensures ∙ c.if-starts-2.false in
    inl (refl, end_other _ _ c.requires.0 c.if-at-text.false no_acctran no_deltran)
