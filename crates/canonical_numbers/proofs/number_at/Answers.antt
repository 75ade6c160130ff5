-- `number_at`.
use mathlib.Core.Path.{sym, ap, ◌∙◌}
use Rattle.canonical_rules.specs.Inner.{row_number}
use Rattle.canonical_numbers.proofs.number_at.Goals as goal

pub returns-in-Narrow : goal.returns-in-Narrow
returns-in-Narrow c = rw c.in-Narrow.is (c.narrow_number_of.ensures ∙ ap row_number (sym (rw c.in-Narrow.is at c.bits_at-v.ensures)))

pub returns-in-Wide : goal.returns-in-Wide
returns-in-Wide c = rw c.in-Wide.is (c.number_of.ensures ∙ ap row_number (sym (rw c.in-Wide.is at c.bits_at-v.ensures)))
