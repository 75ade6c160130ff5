-- `crr_read_prices`.
use mathlib.Core.Path.{◌≡◌, refl, sym, ap, ◌∙◌}
use denote.Enum.Declared.{tag_of}
use Rattle.tariff.specs.contracts.contracts.Period.{the_type}
use Rattle.tariff.specs.declared.contracts.Period.{Period}
use Rattle.tariff.specs.declared.contracts.Period.TheVariants.{OffPeak, OnPeak}
use Rattle.tariff.proofs.Answers.{refused_answers, refused_keeps, given-answers, given-count}
use Rattle.layouts.specs.PriceFile.{period_in}
use Rattle.price_rules.specs.ReadPrices.{read_prices_call, read_prices_checked, price_outcome, period_number}
use Rattle.c_prices.proofs.crr_read_prices.Goals as goal

-- the number that the cell gets
number_is : (period : Period) → tag_of the_type period ≡ period_number period
number_is OffPeak = refl
number_is OnPeak = refl

pub returns-in-Err : goal.returns-in-Err
returns-in-Err c =
    let f = c.read_prices.ensures in
    let a = c.args in
    let checked = read_prices_checked (read_prices_call a.constraints a.file.now a.prices.now) in
    let told = sym (ap price_outcome c.in-Err.is) ∙ f.period-given in
    record {
      refusal-number = refused_answers checked _ c.in-Err.refusal told c.number.ensures;
      prices-read = f.prices-read;
      period-given = refused_keeps checked _ c.in-Err.refusal told (period_in a.file.now) a.period.now;
    }

pub returns-in-Ok : goal.returns-in-Ok
returns-in-Ok c =
    let f = c.read_prices.ensures in
    let a = c.args in
    let checked = read_prices_checked (read_prices_call a.constraints a.file.now a.prices.now) in
    let told = sym (ap price_outcome c.in-Ok.is) ∙ f.period-given in
    record {
      refusal-number = given-answers checked _ _ told;
      prices-read = f.prices-read;
      period-given = number_is c.in-Ok.found ∙ given-count checked _ _ told 0 a.period.now;
    }
