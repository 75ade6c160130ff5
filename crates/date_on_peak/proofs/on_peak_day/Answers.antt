-- `on_peak_day`: a law of Rule.antt for each way out.
use mathlib.Core.Path.{◌≡◌, sym, ◌∙◌}
use mathlib.Core.Bool.{Bool, true, false, not}
use Prim.Native.Nat.{ℕ, ◌-◌}
use borrow.Author.Tests.{ne_eqb}
use Rattle.date_rules.specs.Dates.{weekday_of}
use Rattle.date_rules.specs.Inner.{holiday_by_days, on_peak_by_days_of}
use Rattle.date_rules.proofs.Rule.{sunday, on_holiday, moved, free_monday, free_day}
use Rattle.date_on_peak.proofs.on_peak_day.Goals as goal

-- a Monday that is no holiday, where b says whether the day before is one
monday_is : (y m d : ℕ) (b : Bool) → weekday_of y m d ≡ 1 → holiday_by_days y m d ≡ false → holiday_by_days y m (d - 1) ≡ b → not b ≡ on_peak_by_days_of y m d
monday_is y m d true = moved y m d
monday_is y m d false = free_monday y m d

pub returns-then-weekday-eq7 : goal.returns-then-weekday-eq7
returns-then-weekday-eq7 c = let a = c.args in sunday a.month.year a.month.month a.day (sym c.weekday-weekday.ensures ∙ c.if-weekday-eq7.true)

pub returns-then-is_holiday : goal.returns-then-is_holiday
returns-then-is_holiday c =
    let a = c.args in
    on_holiday a.month.year a.month.month a.day (λ e. c.if-weekday-eq7.false (c.weekday-weekday.ensures ∙ e)) (sym c.is_holiday.ensures ∙ c.if-is_holiday.true)

pub returns-then-weekday-ne1 : goal.returns-then-weekday-ne1
returns-then-weekday-ne1 c =
    let a = c.args in
    let e = c.weekday-weekday.ensures in
    rw (ne_eqb c.weekday-weekday.result 1 c.if-weekday-ne1.true)
    (free_day a.month.year a.month.month a.day (λ k. c.if-weekday-eq7.false (e ∙ k)) (λ k. c.if-weekday-ne1.true (e ∙ k)) (sym c.is_holiday.ensures ∙ c.if-is_holiday.false))

pub returns-else-weekday-ne1 : goal.returns-else-weekday-ne1
returns-else-weekday-ne1 c =
    let a = c.args in
    let monday = sym c.weekday-weekday.ensures ∙ c.if-weekday-ne1.false in
    let free = sym c.is_holiday.ensures ∙ c.if-is_holiday.false in
    monday_is a.month.year a.month.month a.day c.is_holiday-else-weekday-ne1.result monday free (sym c.is_holiday-else-weekday-ne1.ensures)
