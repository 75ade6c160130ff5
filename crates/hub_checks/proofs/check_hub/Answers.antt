-- `check_hub`: 11, then 24 and 25.
use mathlib.Core.Path.{sym, ◌∙◌}
use Rattle.tariff.proofs.Checks.{first-refuses, first_passes}
use Rattle.hub_checks.proofs.check_hub.Goals as goal

pub returns-then-listed_outside : goal.returns-then-listed_outside
returns-then-listed_outside c = sym (first-refuses _ _ (sym c.listed_outside.ensures ∙ c.if-listed_outside.true))

pub returns : goal.returns
returns c = c.check_shape.ensures ∙ sym (first_passes _ _ (sym c.listed_outside.ensures ∙ c.if-listed_outside.false))
