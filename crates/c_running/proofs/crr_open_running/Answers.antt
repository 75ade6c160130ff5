-- `crr_open_running`.
use mathlib.Core.Path.{◌∙◌}
use Rattle.tier_rules.proofs.Going.{number_outcome}
use Rattle.c_running.proofs.crr_open_running.Goals as goal

pub returns : goal.returns
returns c = let m = c.open_running-answer in record { answer = m.result; promised = m.ensures; refusal-number = c.answer_number.ensures ∙ number_outcome m.result }
