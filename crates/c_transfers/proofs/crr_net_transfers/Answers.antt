-- `crr_net_transfers`.
use mathlib.Core.Path.{◌≡◌, refl, ◌∙◌}
use Rattle.std.specs.Prelude.{Ok, Err}
use Rattle.tariff.specs.Refusals.{number_in}
use Rattle.migration_square.specs.NetTransfers.{NetsAnswer, nets_outcome}
use Rattle.c_transfers.proofs.crr_net_transfers.Goals as goal

number_told : (answer : NetsAnswer) → number_in answer ≡ (nets_outcome answer).number
number_told (Ok _) = refl
number_told (Err r) = refl

pub returns : goal.returns
returns c = let m = c.net_transfers in record { answer = m.result; promised = m.ensures; refusal-number = c.answer_number.ensures ∙ number_told m.result }
