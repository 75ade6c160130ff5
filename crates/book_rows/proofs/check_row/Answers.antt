-- `check_row`.
use mathlib.Core.Path.{◌∙◌}
use borrow.Author.Tests.{lt-ltb, le-ltb}
use Rattle.tariff.specs.Refusals.{first}
use Rattle.layouts.specs.BookTable.{row_from}
use Rattle.book_rules.specs.BookChecks.{contract_checks}
use Rattle.book_rules.specs.WriteBook.{row_checks}
use Rattle.book_rows.proofs.check_row.Goals.{then-cells-at-gt1-via-then-cells-at-gt1, then-cells-at-gt1-via-else-cells-at-gt1+then-cells-at-gt1-2}
use Rattle.book_rows.proofs.check_row.Goals as goal

pub returns : goal.returns
unfolding first row_checks contract_checks row_from
returns c =
    c.check_numbers.ensures
    ∙ rw (le-ltb _ _ c.if-cells-at-gt1.false, le-ltb _ _ c.if-cells-at-gt1-2.false, le-ltb _ _ c.if-cells-at-gt-MAX_HOLDER.false)

pub returns-then-cells-at-gt1 : goal.returns-then-cells-at-gt1
unfolding first row_checks
returns-then-cells-at-gt1 c =
    elim c.then-cells-at-gt1.branch [
      | then-cells-at-gt1-via-then-cells-at-gt1 w ↦ rw (lt-ltb _ _ w.if-cells-at-gt1.true)
      | then-cells-at-gt1-via-else-cells-at-gt1+then-cells-at-gt1-2 w ↦ rw (le-ltb _ _ w.if-cells-at-gt1.false, lt-ltb _ _ w.if-cells-at-gt1-2.true)
    ]

pub returns-then-cells-at-gt-MAX_HOLDER : goal.returns-then-cells-at-gt-MAX_HOLDER
unfolding first row_checks
returns-then-cells-at-gt-MAX_HOLDER c = rw (le-ltb _ _ c.if-cells-at-gt1.false, le-ltb _ _ c.if-cells-at-gt1-2.false, lt-ltb _ _ c.if-cells-at-gt-MAX_HOLDER.true)
