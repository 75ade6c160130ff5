-- `try_flows`: period and process by their numbers.
use mathlib.Core.Path.{◌≡◌, refl, ap, ◌∙◌}
use denote.Enum.Bare.{sameb}
use Rattle.tariff.specs.contracts.contracts.Period.{the_type}
use Rattle.tariff.specs.declared.contracts.Period.{Period}
use Rattle.tariff.specs.declared.contracts.Period.TheVariants.{OffPeak, OnPeak}
use Rattle.tariff.specs.ContractRules.{same_period}
use Rattle.tier_running_rules.proofs.Overs.{adds-as}
use Rattle.tier_running_test.proofs.adding.try_flows.Goals as goal

-- the derived test is the definition's
same_is : (a b : Period) → sameb the_type a b ≡ same_period a b
same_is OffPeak OffPeak = refl
same_is OffPeak OnPeak = refl
same_is OnPeak OffPeak = refl
same_is OnPeak OnPeak = refl

pub returns : goal.returns
returns c =
    let a = c.args in
    adds-as _ _ _ _ _ _ _ _ _ _ _ _ _ (c.eq-is_own.ensures ∙ same_is a.c.period _ ∙ ap (same_period a.c.period) c.from.ensures) c.from-process.ensures refl c.add_flows.ensures
