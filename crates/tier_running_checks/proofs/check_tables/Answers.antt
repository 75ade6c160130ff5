-- `check_tables`: where a count is refused the tables' checks say so; else a short buffer comes before what is in the tables.
use mathlib.Core.Path.{sym, ap, ◌∙◌}
use mathlib.Core.Bool.{Bool}
use mathlib.Core.List.{[], ◌∷◌}
use Rattle.tariff.specs.Refusals.{first}
use Rattle.tier_rules.specs.Checks.{running_checks}
use Rattle.tier_running_rules.specs.Inner.{short_if}
use Rattle.tier_running_rules.proofs.Checking.{counts-first, buffers_long, buffers_short}
use Rattle.tier_running_checks.proofs.check_tables.Goals as goal

pub returns-then-counts_bad : goal.returns-then-counts_bad
returns-then-counts_bad c =
    let k = c in
    let a = k.args in
    let t = a.asked in
    c.check_tables.ensures
    ∙ counts-first t.nodes t.constraints t.process t.period a.limits.now a.factors.now
    (sym k.counts_bad.ensures ∙ c.if-counts_bad.true) a.short

pub returns-then-short : goal.returns-then-short
returns-then-short c =
    let a = c.args in
    let t = a.asked in
    buffers_short t.nodes t.constraints t.process t.period a.limits.now a.factors.now (sym c.counts_bad.ensures ∙ c.if-counts_bad.false)
    ∙ ap (λ (b : Bool). first (running_checks t.nodes t.constraints t.process t.period a.limits.now a.factors.now (short_if b ∷ []))) (sym c.if-short.true)

pub returns : goal.returns
returns c =
    let a = c.args in
    let t = a.asked in
    c.check_tables-2.ensures
    ∙ buffers_long t.nodes t.constraints t.process t.period a.limits.now a.factors.now
    ∙ ap (λ (b : Bool). first (running_checks t.nodes t.constraints t.process t.period a.limits.now a.factors.now (short_if b ∷ []))) (sym c.if-short.false)
