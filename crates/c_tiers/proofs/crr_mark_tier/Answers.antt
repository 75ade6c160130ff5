-- `crr_mark_tier`.
use mathlib.Core.Path.{◌∙◌}
use Rattle.tier_rules.proofs.Going.{number_outcome}
use Rattle.c_tiers.proofs.crr_mark_tier.Goals as goal

pub returns : goal.returns
returns c = let m = c.mark_tier in record { answer = m.result; promised = m.ensures; refusal-number = c.answer_number.ensures ∙ number_outcome m.result }
