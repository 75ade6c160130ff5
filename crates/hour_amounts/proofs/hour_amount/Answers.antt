-- `hour_amount`: nothing for the other period's.
use mathlib.Core.Path.{refl, subst, ◌∙◌}
use lib.IntN.{ℤ}
use Rattle.grid_tables.specs.Hours.{factors_by, prices_by}
use Rattle.hour_rules.proofs.Amounts.{counts, counts-not, period_told}
use Rattle.hour_amounts.specs.Inner.{SettledAs}
use Rattle.hour_amounts.proofs.Cents.{no_priced, no_amount, none-settled}
use Rattle.hour_amounts.proofs.hour_amount.Goals as goal

pub returns-then-eq : goal.returns-then-eq
returns-then-eq c =
    let a = c.args in
    let f = factors_by a.hour.tables in
    let p = prices_by a.hour.tables in
    let hour = counts f p a.hour.period a.c _ (c.eq.ensures ∙ period_told a.c.period a.hour.period) c.amount_of.result c.if-eq.true c.amount_of.ensures in
    record {
      amount-is = subst (λ (z : ℤ). SettledAs z c.settled.result) hour.amount-is c.settled.ensures.0;
      priced-is = c.settled.ensures.1 ∙ hour.priced-is;
    }

pub returns-else-eq : goal.returns-else-eq
returns-else-eq c =
    let a = c.args in
    let f = factors_by a.hour.tables in
    let p = prices_by a.hour.tables in
    let hour = counts-not f p a.hour.period a.c _ (c.eq.ensures ∙ period_told a.c.period a.hour.period) no_priced c.if-eq.false refl refl in
    record { amount-is = subst (λ (z : ℤ). SettledAs z no_amount) hour.amount-is none-settled; priced-is = hour.priced-is }
