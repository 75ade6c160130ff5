-- `crr_hour_period`.
use mathlib.Core.Path.{◌≡◌, refl, sym, ap, ◌∙◌}
use denote.Enum.Declared.{tag_of}
use Rattle.tariff.specs.contracts.contracts.Period.{the_type}
use Rattle.tariff.specs.declared.contracts.Period.{Period}
use Rattle.tariff.specs.declared.contracts.Period.TheVariants.{OffPeak, OnPeak}
use Rattle.tariff.proofs.Answers.{refused_answers, refused_keeps, given-answers, given-count}
use Rattle.dates.specs.Date.{date_for}
use Rattle.date_period.specs.HourPeriod.{hour_period_checked, period_outcome, period_number, period_is}
use Rattle.c_period.proofs.crr_hour_period.Goals as goal

-- the number that the cell gets
number_is : (period : Period) → tag_of the_type period ≡ period_number period
number_is OffPeak = refl
number_is OnPeak = refl

pub returns-in-Err : goal.returns-in-Err
returns-in-Err c =
    let f = c.hour_period.ensures in
    let a = c.args in
    let date = date_for a.year a.month a.day in
    let checked = hour_period_checked date a.hour_ending in
    let told = sym (ap period_outcome c.in-Err.is) ∙ f.period-given in
    record {
      refusal-number = refused_answers checked _ c.in-Err.refusal told c.number.ensures;
      period-given = refused_keeps checked _ c.in-Err.refusal told (period_is date a.hour_ending) a.period.now;
    }

pub returns-in-Ok : goal.returns-in-Ok
returns-in-Ok c =
    let f = c.hour_period.ensures in
    let a = c.args in
    let checked = hour_period_checked (date_for a.year a.month a.day) a.hour_ending in
    let told = sym (ap period_outcome c.in-Ok.is) ∙ f.period-given in
    record { refusal-number = given-answers checked _ _ told; period-given = number_is c.in-Ok.found ∙ given-count checked _ _ told 0 a.period.now }
