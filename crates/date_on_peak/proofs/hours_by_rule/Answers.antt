-- `hours_by_rule`: the loop counts the on-peak days passed.
use mathlib.Core.Path.{◌≡◌, sym, ◌∙◌}
use Prim.Native.Nat.{suc}
use native.Mathlib.Omega.{arith}
use Rattle.date_rules.specs.Dates.{month_days_of}
use Rattle.date_rules.specs.Inner.{on_peak_by_days_of}
use Rattle.date_rules.proofs.Months.{month_in}
use Rattle.date_rules.proofs.Rule.{count_none, count-on, count-off, count-done}
use Rattle.date_laws.proofs.ByDays.{hours_by_days}
use Rattle.date_on_peak.proofs.hours_by_rule.Goals as goal
use Rattle.date_on_peak.proofs.hours_by_rule.Goals.{then-on_peak_day, else-on_peak_day}

pub month_days-day-end-requires : goal.month_days-day-end-requires
month_days-day-end-requires c = (month_in c.args.year c.args.month c.requires).month_high

pub loop-day-init : goal.loop-day-init
loop-day-init c = let a = c.args in (omega arith, count_none (λ k. on_peak_by_days_of a.year a.month (suc k)))

pub invariant_of-given : goal.invariant_of-given
invariant_of-given c =
    let i = month_in c.args.year c.args.month c.requires in
    record { reached = (omega (arith, i), i.year_high, i.month_high) }

pub on_peak_day-requires : goal.on_peak_day-requires
on_peak_day-requires c = (omega arith, omega (arith, c.month_days-day-end.ensures))

pub overflow_add-count : goal.overflow_add-count
overflow_add-count c = omega (arith, c.month_days-day-end.ensures)

pub loop-day-preserved : goal.loop-day-preserved
loop-day-preserved c =
    let s = c in
    let a = s.args in
    let on = sym c.on_peak_day.ensures in
    elim c.if-on_peak_day.branch [
      | then-on_peak_day w ↦ (omega arith, w.count-is ∙ count-on a.year a.month s.loop-day.day s.loop-day.count s.loop-day.invariant.1 (on ∙ w.if-on_peak_day.true))
      | else-on_peak_day w ↦ (omega arith, w.count-is ∙ count-off a.year a.month s.loop-day.day s.loop-day.count s.loop-day.invariant.1 (on ∙ w.if-on_peak_day.false))
    ]

pub overflow_mul-result : goal.overflow_mul-result
overflow_mul-result c = omega (arith, c.month_days-day-end.ensures)

pub returns : goal.returns
returns c =
    let s = c in
    let a = s.args in
    let all : s.loop-day.day ≡ month_days_of a.year a.month = omega (arith, s.month_days-day-end.ensures) in
    (count-done a.year a.month s.loop-day.day s.loop-day.count s.loop-day.invariant.1 all ∙ hours_by_days a.year a.month s.requires, omega (arith, s.month_days-day-end.ensures))
