-- `price_writing::check_write`: each return by the tests that led there.
use mathlib.Core.Path.{sym, ◌∙◌}
use borrow.Author.Tests.{lt-ltb, le-ltb}
use Rattle.tariff.proofs.Checks.{first_passes, first-refuses, last-passes}
use Rattle.price_rules.specs.WritePrices.{write_prices_checks}
use Rattle.price_rules.proofs.PriceLaws.{then_place}
use Rattle.price_writing.proofs.check_write.Goals as goal

pub returns-then-period-gt1 : goal.returns-then-period-gt1
unfolding write_prices_checks
returns-then-period-gt1 c = sym (first-refuses _ _ (lt-ltb _ _ c.if-period-gt1.true))

pub returns-then-constraints-gt-MAX_CONSTRAINTS : goal.returns-then-constraints-gt-MAX_CONSTRAINTS
unfolding write_prices_checks
returns-then-constraints-gt-MAX_CONSTRAINTS c =
    sym (first_passes _ _ (le-ltb _ _ c.if-period-gt1.false) ∙ first-refuses _ _ (lt-ltb _ _ c.if-constraints-gt-MAX_CONSTRAINTS.true))

pub returns-then-prices-constraints : goal.returns-then-prices-constraints
unfolding write_prices_checks
returns-then-prices-constraints c =
    sym (first_passes _ _ (le-ltb _ _ c.if-period-gt1.false) ∙ first_passes _ _ (le-ltb _ _ c.if-constraints-gt-MAX_CONSTRAINTS.false)
    ∙ first-refuses _ _ (lt-ltb _ _ c.if-prices-constraints.true))

pub returns-then-cell_above : goal.returns-then-cell_above
unfolding write_prices_checks
returns-then-cell_above c =
    sym (first_passes _ _ (le-ltb _ _ c.if-period-gt1.false) ∙ first_passes _ _ (le-ltb _ _ c.if-constraints-gt-MAX_CONSTRAINTS.false)
    ∙ first_passes _ _ (le-ltb _ _ c.if-prices-constraints.false)
    ∙ first-refuses _ _ (sym c.cell_above.ensures ∙ c.if-cell_above.true))

pub returns-then-file-file_bytes : goal.returns-then-file-file_bytes
returns-then-file-file_bytes c =
    sym (then_place _ _ _ _ c.if-period-gt1.false c.if-constraints-gt-MAX_CONSTRAINTS.false c.if-prices-constraints.false (sym c.cell_above.ensures
    ∙ c.if-cell_above.false)
    ∙ first-refuses _ _ ((rw c.file_bytes.ensures at (lt-ltb _ _ c.if-file-file_bytes.true))))

pub returns : goal.returns
returns c =
    sym (then_place _ _ _ _ c.if-period-gt1.false c.if-constraints-gt-MAX_CONSTRAINTS.false c.if-prices-constraints.false (sym c.cell_above.ensures
    ∙ c.if-cell_above.false)
    ∙ last-passes _ ((rw c.file_bytes.ensures at (le-ltb _ _ c.if-file-file_bytes.false))))
