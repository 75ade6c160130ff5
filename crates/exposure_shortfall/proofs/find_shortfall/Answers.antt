-- `find_shortfall`: where no check refuses, what is found is given.
use Rattle.std.proofs.Common.{refl, sym, ap, ap₂, ◌∙◌, subst, List, ℕ, take}
use Rattle.std.proofs.lemmas.Result.{err_from_is_err_and}
use Rattle.tariff.specs.declared.contracts.Period.{Period}
use Rattle.tariff.specs.Units.{max_price}
use Rattle.tariff.specs.ContractRules.{of_period}
use Rattle.layouts.specs.BookFile.{book_in}
use Rattle.grid_tables.specs.Inner.{GoodCells}
use Rattle.test_terms.specs.Calls.{asked_test}
use Rattle.exposure_shortfall.proofs.Checking.{tables-refuse, then_book, both_pass, Asked, asked}
use Rattle.exposure_shortfall.proofs.Meaning.{costs-kept, refuses, finds}
use Rattle.exposure_shortfall.proofs.find_shortfall.Goals as goal

pub returns-in_err-check_tables : goal.returns-in_err-check_tables
returns-in_err-check_tables c =
    let a = c.args in
    let q = asked_test a.asked a.limits.now a.factors.now a.book.now in
    let refused = tables-refuse q a.prices.now c.check_tables.result c.check_tables.ensures _ c.in_err-check_tables.was in
    let p = err_from_is_err_and c.from_residual.result c.from_residual.ensures.1 in
    rw (p.1, p.2) (refuses q a.prices.now _ refused _ refl)

pub returns-in_err-check_book : goal.returns-in_err-check_book
returns-in_err-check_book c =
    let a = c.args in
    let q = asked_test a.asked a.limits.now a.factors.now a.book.now in
    let own = then_book q a.prices.now c.check_tables.result c.check_tables.ensures c.in_ok-check_tables.was in
    let p = err_from_is_err_and c.from_residual-in_err-check_book.result c.from_residual-in_err-check_book.ensures.1 in
    rw (p.1, p.2) (refuses q a.prices.now _ (sym c.in_err-check_book.was ∙ c.check_book.ensures ∙ own) _ refl)

pub of-requires : goal.of-requires
of-requires c =
    let a = c.args in
    let q = asked_test a.asked a.limits.now a.factors.now a.book.now in
    let ok : Asked q a.prices.now = asked q a.prices.now (sym (both_pass q a.prices.now _ c.check_tables.ensures c.in_ok-check_tables.was _ c.check_book.ensures c.in_ok-check_book.was)) in
    let t = ok.as_tested in record { tables = (t.tables.good-limits, t.tables.good-factors); others = (t.tables.process-number, t.book) }

pub shortfall_at-requires : goal.shortfall_at-requires
shortfall_at-requires c =
    let a = c.args in
    let q = asked_test a.asked a.limits.now a.factors.now a.book.now in
    let ok : Asked q a.prices.now = asked q a.prices.now (sym (both_pass q a.prices.now _ c.check_tables.ensures c.in_ok-check_tables.was _ c.check_book.ensures c.in_ok-check_book.was)) in
    subst (λ (k : ℕ). GoodCells max_price k a.prices.now) (sym c.of.ensures.constraints_kept) ok.good-prices

pub returns : goal.returns
returns c =
    let a = c.args in
    let q = asked_test a.asked a.limits.now a.factors.now a.book.now in
    let of = c.of.ensures in
    let costs = costs-kept of.grid_kept of.process_kept (ap₂ (λ (t : Period) (book : List ℕ). of_period t (book_in book)) of.period_kept of.book_kept)
    (ap (λ (k : ℕ). take k a.prices.now) of.constraints_kept) c.shortfall_at.result c.shortfall_at.ensures in
    finds q a.prices.now _ (both_pass q a.prices.now _ c.check_tables.ensures c.in_ok-check_tables.was _ c.check_book.ensures c.in_ok-check_book.was) refl
    c.shortfall_at.result costs
