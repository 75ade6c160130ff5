-- `check_numbers`.
use mathlib.Core.Path.{sym, ◌∙◌}
use native.Mathlib.Omega.{arith}
use Rattle.tariff.specs.Refusals.{first}
use Rattle.book_rules.proofs.Checking.{end_refused, ends-passed}
use Rattle.book_checks.proofs.check_numbers.Goals as goal

pub returns-then-nodes-max : goal.returns-then-nodes-max
unfolding first
returns-then-nodes-max c =
    let a = c.args in
    rw (end_refused a.nodes a.source a.sink (omega (arith, c.if-nodes-max.true, c.max.ensures)))

-- past the first test both ends are nodes
pub returns-then-quantity_bad : goal.returns-then-quantity_bad
unfolding first
returns-then-quantity_bad c =
    let a = c.args in
    rw (ends-passed a.nodes a.source a.sink (omega (arith, c.if-nodes-max.false, c.max.ensures)), sym c.quantity_bad.ensures ∙ c.if-quantity_bad.true)

pub returns : goal.returns
unfolding first
returns c =
    let a = c.args in
    rw (ends-passed a.nodes a.source a.sink (omega (arith, c.if-nodes-max.false, c.max.ensures)), sym c.quantity_bad.ensures ∙ c.if-quantity_bad.false)
