-- `check_at`.
use mathlib.Core.Path.{sym, ap, ◌∙◌}
use Rattle.tariff.specs.declared.contracts.Contract.{Contract}
use Rattle.tariff.specs.Refusals.{first}
use Rattle.book_rules.specs.BookChecks.{contract_checks}
use Rattle.book_checks.proofs.check_at.Goals as goal

pub returns-in-Narrow : goal.returns-in-Narrow
returns-in-Narrow c =
    let told = rw c.in-Narrow.is at c.bits_at.ensures in
    rw c.in-Narrow.is (c.check_bits.ensures ∙ ap (λ (x : Contract). first (contract_checks c.args.nodes x)) (sym told))

pub returns-in-Wide : goal.returns-in-Wide
returns-in-Wide c =
    let told = rw c.in-Wide.is at c.bits_at-in-Wide.ensures in
    rw c.in-Wide.is (c.check_bits-in-Wide.ensures ∙ ap (λ (x : Contract). first (contract_checks c.args.nodes x)) (sym told))
