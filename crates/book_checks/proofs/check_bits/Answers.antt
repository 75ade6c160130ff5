-- `check_bits`.
use mathlib.Core.Path.{◌∙◌}
use Rattle.tariff.specs.Refusals.{first}
use Rattle.book_rules.specs.BookChecks.{contract_checks}
use Rattle.book_rules.specs.Inner.{number_checks}
use Rattle.book_checks.proofs.check_bits.Goals as goal

pub returns : goal.returns
unfolding contract_checks
returns c =
    let q = c in
    let n = q.args.nodes in
    c.check_numbers.ensures
    ∙ (λ t. first (number_checks n (q.source_in.ensures.0 t) (q.sink_in.ensures.0 t) (q.quantity_in.ensures.0 t)))
