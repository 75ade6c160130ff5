-- `crr_add_award`.
use mathlib.Core.Path.{◌∙◌}
use Rattle.tier_rules.proofs.Going.{number_outcome}
use Rattle.c_running.proofs.crr_add_award.Goals as goal

pub returns : goal.returns
returns c = let m = c.add_award-answer in record { answer = m.result; promised = m.ensures; refusal-number = c.answer_number.ensures ∙ number_outcome m.result }
