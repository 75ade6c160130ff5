-- `crr_share_balance`.
use mathlib.Core.Path.{◌≡◌, refl, subst, ◌∙◌}
use lib.IntN.{ℤ}
use mir.Syntax.{w64}
use mir.ValLaws.{to_z-of_z}
use Rattle.std.specs.Prelude.{Ok, Err}
use Rattle.tariff.specs.Refusals.{number_in}
use Rattle.share_rules.specs.ShareBalance.{share_call, ShareAnswer, share_outcome, SharesBalance}
use Rattle.c_shares.proofs.crr_share_balance.Goals as goal

number_told : (answer : ShareAnswer) → number_in answer ≡ (share_outcome answer).number
number_told (Ok _) = refl
number_told (Err r) = refl

pub returns : goal.returns
returns c =
    let a = c.args in
    let m = c.share_balance in
    -- what the entry promises, of the balance as it was handed over
    let shared = subst (λ (z : ℤ). SharesBalance (share_call z a.demands.now a.shares.now) m.result m.new.shares)
    (to_z-of_z w64 a.balance c.ranges.balance) m.ensures in
    record { answer = m.result; promised = shared; refusal-number = c.answer_number.ensures ∙ number_told m.result }
