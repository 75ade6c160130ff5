-- `crr_weekday`.
use mathlib.Core.Path.{◌≡◌, refl, ◌∙◌}
use Prim.Native.Nat.{ℕ}
use Rattle.std.specs.Prelude.{Ok, Err}
use Rattle.tariff.specs.Refusals.{number_in, found_or, cell_after, number_after}
use Rattle.tariff.proofs.Answers.{refused_answers, refused_keeps, given-answers, given-count}
use Rattle.dates.specs.declared.Date.{Date}
use Rattle.dates.specs.Date.{date_for}
use Rattle.dates.specs.Weekday.{WeekdayAnswer, TellsWeekday, weekday_checked, weekday_is}
use Rattle.c_dates.proofs.crr_weekday.Goals as goal

module _ (date : Date) where
  number-told : (answer : WeekdayAnswer) → TellsWeekday date answer → number_in answer ≡ number_after (weekday_checked date)
  number-told (Ok n) told = given-answers (weekday_checked date) _ _ told.weekday_given
  number-told (Err r) told = refused_answers (weekday_checked date) _ r told.weekday_given refl

  cell_told : (answer : WeekdayAnswer) (entry : ℕ) → TellsWeekday date answer → found_or answer entry ≡ cell_after (weekday_checked date) (weekday_is date) entry
  cell_told (Ok n) entry told = given-count (weekday_checked date) _ _ told.weekday_given 0 entry
  cell_told (Err r) entry told = refused_keeps (weekday_checked date) _ r told.weekday_given (weekday_is date) entry

pub returns : goal.returns
returns c =
    let a = c.args in
    let date = date_for a.year a.month a.day in
    let told = c.weekday.ensures in
    record {
      refusal-number = c.answer_cell.ensures.number ∙ number-told date c.weekday.result told;
      weekday_given = c.answer_cell.ensures.cell ∙ cell_told date c.weekday.result a.weekday.now told;
    }
