-- `crr_month_later`.
use mathlib.Core.Path.{sym, ap, ◌∙◌}
use Rattle.tariff.proofs.Answers.{refused_answers, refused_keeps, given-answers, given-count}
use Rattle.dates.specs.Date.{date_for}
use Rattle.dates.specs.MonthLater.{date_values, date_outcome, later_year, later_month, later_day, month_later_of, month_later_checked}
use Rattle.c_dates.proofs.crr_month_later.Goals as goal

pub returns-in-Err : goal.returns-in-Err
returns-in-Err c =
    let f = c.month_later.ensures in
    let a = c.args in
    let date = date_for a.year a.month a.day in
    let checked = month_later_checked date in
    let r = c.in-Err.refusal in
    let told = sym (ap date_outcome c.in-Err.is) ∙ f.date_given in
    record {
      refusal-number = refused_answers checked (date_values (month_later_of date)) r told c.number.ensures;
      year_given = refused_keeps checked (date_values (month_later_of date)) r told (later_year date) a.later_year.now;
      month_given = refused_keeps checked (date_values (month_later_of date)) r told (later_month date) a.later_month.now;
      day_given = refused_keeps checked (date_values (month_later_of date)) r told (later_day date) a.later_day.now;
    }

pub returns-in-Ok : goal.returns-in-Ok
returns-in-Ok c =
    let f = c.month_later.ensures in
    let a = c.args in
    let date = date_for a.year a.month a.day in
    let checked = month_later_checked date in
    let told = sym (ap date_outcome c.in-Ok.is) ∙ f.date_given in
    record {
      refusal-number = given-answers checked (date_values (month_later_of date)) _ told;
      year_given = given-count checked (date_values (month_later_of date)) _ told 0 a.later_year.now;
      month_given = given-count checked (date_values (month_later_of date)) _ told 1 a.later_month.now;
      day_given = given-count checked (date_values (month_later_of date)) _ told 2 a.later_day.now;
    }
