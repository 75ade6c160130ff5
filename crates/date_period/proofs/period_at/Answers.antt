-- `period_at`: the hour, then the day.
use mathlib.Core.Path.{◌≡◌, sym, ◌∙◌}
use mathlib.Core.Bool.{true, false}
use native.Mathlib.Omega.{arith}
use Rattle.date_rules.proofs.Months.{date_in}
use Rattle.date_laws.proofs.ByDays.{on_peak_by_days}
use Rattle.date_period.specs.HourPeriod.{peak_hour, period_is}
use Rattle.date_period.proofs.period_at.Goals as goal
use Rattle.date_period.proofs.period_at.Goals.{else-is_within-via-then-is_within+else-on_peak_day, else-is_within-via-else-is_within}

pub invariant_of-month : goal.invariant_of-month
invariant_of-month c =
    let d = c.args.date in
    let i = date_in d.year d.month d.day c.requires in
    record { reached = (omega (arith, i.month_there), i.month_there.year_high, i.month_there.month_high) }

pub on_peak_day-requires : goal.on_peak_day-requires
on_peak_day-requires c =
    let d = c.args.date in
    let i = date_in d.year d.month d.day c.requires in
    (i.day_low, i.day_high)

-- the hour is a peak hour, and the day is on-peak
pub returns-then-on_peak_day : goal.returns-then-on_peak_day
unfolding period_is
returns-then-on_peak_day c =
    let d = c.args.date in
    let day = sym (on_peak_by_days d.year d.month d.day c.requires) ∙ sym c.on_peak_day.ensures ∙ c.if-on_peak_day.true in
    let hour : peak_hour c.args.hour ≡ true = sym c.is_within.ensures ∙ c.if-is_within.true in
    rw (hour, day)

pub returns-else-is_within : goal.returns-else-is_within
unfolding period_is
returns-else-is_within c =
    let d = c.args.date in
    elim c.else-is_within.branch [
      | else-is_within-via-then-is_within+else-on_peak_day w ↦
          let day = sym (on_peak_by_days d.year d.month d.day c.requires) ∙ sym w.on_peak_day.ensures ∙ w.if-on_peak_day.false in
          let hour : peak_hour c.args.hour ≡ true = sym c.is_within.ensures ∙ w.if-is_within.true in
          rw (hour, day)
      | else-is_within-via-else-is_within w ↦
          let hour : peak_hour c.args.hour ≡ false = sym c.is_within.ensures ∙ w.if-is_within.false in
          rw hour
    ]
