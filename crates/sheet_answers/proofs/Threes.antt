-- The choice, given back as a number, is the choice.
-- Assumes nothing.
use mathlib.Core.Path.{◌≡◌, refl}
use Rattle.choices.specs.declared.Resolve.{Resolve}
use Rattle.choices.specs.declared.Resolve.TheVariants.{Acctran, Deltran}
use Rattle.answers.specs.Coded.{resolve_of}
use Rattle.sheet_answers.specs.Replies.{number_of}

-- what a sheet says may be given to `badrumello_character` as it is
pub choice_back : (r : Resolve) → resolve_of (number_of r) ≡ r
choice_back Acctran = refl
choice_back Deltran = refl
