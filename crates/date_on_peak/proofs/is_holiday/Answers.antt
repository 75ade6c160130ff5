-- `is_holiday`: a law of Rule.antt for each month that has a holiday.
use mathlib.Core.Path.{◌∙◌}
use native.Mathlib.Omega.{arith}
use Rattle.date_rules.proofs.Rule.{january, may, july, september, november, december, none}
use Rattle.date_on_peak.proofs.is_holiday.Goals as goal

pub returns-in-1 : goal.returns-in-1
returns-in-1 c = let a = c.args in january a.month.year a.month.month a.day c.in-1.is

pub returns-in-5 : goal.returns-in-5
returns-in-5 c = let a = c.args in c.is_between.ensures ∙ may a.month.year a.month.month a.day c.in-5.is

pub returns-in-7 : goal.returns-in-7
returns-in-7 c = let a = c.args in july a.month.year a.month.month a.day c.in-7.is

pub returns-in-9 : goal.returns-in-9
returns-in-9 c = let a = c.args in c.is_between-in-9.ensures ∙ september a.month.year a.month.month a.day c.in-9.is

pub returns-in-11 : goal.returns-in-11
returns-in-11 c = let a = c.args in c.is_between-in-11.ensures ∙ november a.month.year a.month.month a.day c.in-11.is

pub returns-in-12 : goal.returns-in-12
returns-in-12 c = let a = c.args in december a.month.year a.month.month a.day c.in-12.is

pub returns-in_default : goal.returns-in_default
returns-in_default c =
    let a = c.args in
    none a.month.year a.month.month a.day (λ e. omega arith) (λ e. omega arith) (λ e. omega arith) (λ e. omega arith) (λ e. omega arith) (λ e. omega arith)
