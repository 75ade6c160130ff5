-- `put_own`.
use mathlib.Core.Path.{◌≡◌, refl, ◌∙◌}
use denote.Enum.Bare.{sameb}
use native.Mathlib.Omega.{arith}
use Rattle.tariff.specs.contracts.contracts.Period.{the_type}
use Rattle.tariff.specs.declared.contracts.Period.{Period}
use Rattle.tariff.specs.declared.contracts.Period.TheVariants.{OffPeak, OnPeak}
use Rattle.tariff.specs.ContractRules.{same_period}
use Rattle.text_format.proofs.Putting.{puts_none, puts_same}
use Rattle.text_statement_lines.proofs.Figures.{own_line, no_line}
use Rattle.text_statement_lines.proofs.put_own.Goals as goal

-- the derived test is the definition's
same_is : (a b : Period) → sameb the_type a b ≡ same_period a b
same_is OffPeak OffPeak = refl
same_is OffPeak OnPeak = refl
same_is OnPeak OffPeak = refl
same_is OnPeak OnPeak = refl

pub returns-then-eq-clause-put : goal.returns-then-eq-clause-put
returns-then-eq-clause-put c =
    let period = c.args.period in
    let line = c.args.line in
    puts_same (own_line period line.number line.contract line.cents line.priced c.eq.result (c.eq.ensures ∙ same_is line.contract.period period) c.if-eq.true)
    c.put_contract.ensures.put

pub returns-else-eq-clause-put : goal.returns-else-eq-clause-put
returns-else-eq-clause-put c =
    let period = c.args.period in
    let line = c.args.line in
    puts_same (no_line period line.number line.contract line.cents line.priced c.eq.result (c.eq.ensures ∙ same_is line.contract.period period) c.if-eq.false)
    (puts_none (omega (arith, c.requires)))
