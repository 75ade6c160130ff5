-- `price_reading::check_read`: each return by the tests that led there.
use mathlib.Core.Path.{sym, ◌∙◌}
use borrow.Author.Rules.{rules}
use borrow.Author.Tests.{lt-ltb, le-ltb}
use Rattle.tariff.proofs.Checks.{first_passes, first-refuses, differs, same}
use Rattle.price_rules.specs.ReadPrices.{price_file_checks, read_prices_checks}
use Rattle.price_reading.proofs.check_read.Goals as goal

pub returns-then-constraints-gt-MAX_CONSTRAINTS : goal.returns-then-constraints-gt-MAX_CONSTRAINTS
unfolding price_file_checks read_prices_checks
returns-then-constraints-gt-MAX_CONSTRAINTS c = sym (first-refuses _ _ (lt-ltb _ _ c.if-constraints-gt-MAX_CONSTRAINTS.true))

pub returns-then-is_empty : goal.returns-then-is_empty
unfolding price_file_checks read_prices_checks
returns-then-is_empty c = sym (first_passes _ _ (le-ltb _ _ c.if-constraints-gt-MAX_CONSTRAINTS.false) ∙ first-refuses _ _ (lt-ltb _ _ (search rules)))

pub returns-then-field-constraints : goal.returns-then-field-constraints
unfolding price_file_checks read_prices_checks
returns-then-field-constraints c =
    sym (first_passes _ _ (le-ltb _ _ c.if-constraints-gt-MAX_CONSTRAINTS.false) ∙ first_passes _ _ (le-ltb _ _ (search rules))
    ∙ first-refuses _ _ (differs _ _ (rw c.field.ensures.0 at c.if-field-constraints.true)))

pub returns-then-file-file_bytes : goal.returns-then-file-file_bytes
unfolding price_file_checks read_prices_checks
returns-then-file-file_bytes c =
    let b = c in
    sym (first_passes _ _ (le-ltb _ _ b.if-constraints-gt-MAX_CONSTRAINTS.false) ∙ first_passes _ _ (le-ltb _ _ (search rules))
    ∙ first_passes _ _ (same _ _ (sym b.field.ensures.0 ∙ b.if-field-constraints.false))
    ∙ first-refuses _ _ (differs _ _ (rw c.file_bytes.ensures at c.if-file-file_bytes.true)))

pub returns : goal.returns
unfolding price_file_checks read_prices_checks
returns c =
    let f = c in
    let b = f in
    (c.check_figures.ensures
    ∙ sym (first_passes _ _ (le-ltb _ _ b.if-constraints-gt-MAX_CONSTRAINTS.false) ∙ first_passes _ _ (le-ltb _ _ (search rules))
    ∙ first_passes _ _ (same _ _ (sym b.field.ensures.0 ∙ b.if-field-constraints.false))
    ∙ first_passes _ _ (same _ _ (f.if-file-file_bytes.false ∙ f.file_bytes.ensures))))
