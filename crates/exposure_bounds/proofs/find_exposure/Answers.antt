-- `find_exposure`: where neither the test's checks nor the place refuses, what is found is given.
use Rattle.std.proofs.Common.{refl, sym, ap₂, ◌∙◌, arith, List, ℕ}
use Rattle.std.proofs.lemmas.Result.{err_from_is_err_and}
use Rattle.tariff.specs.declared.refusals.Refusal.TheVariants.{ShortTable}
use Rattle.tariff.specs.declared.contracts.Period.{Period}
use Rattle.tariff.specs.ContractRules.{of_period}
use Rattle.layouts.specs.BookFile.{book_in}
use Rattle.test_rules.proofs.Checking.{tested}
use Rattle.test_terms.specs.Calls.{asked_test}
use Rattle.exposure_bounds.proofs.Entry.{test-refuses, no_room, all-fits, exposed-kept, refuses, finds}
use Rattle.exposure_bounds.proofs.find_exposure.Goals as goal

pub returns-in_err-check_test : goal.returns-in_err-check_test
returns-in_err-check_test c =
    let a = c.args in
    let q = asked_test a.asked a.limits.now a.factors.now a.book.now in
    let k = c.check_test in
    let refused = test-refuses q a.prices.now k.result k.ensures _ c.in_err-check_test.was in
    let p = err_from_is_err_and c.from_residual.result c.from_residual.ensures.1 in
    rw (p.1, p.2) (refuses q _ _ refused _ refl refl)

pub returns-then-prices-asked : goal.returns-then-prices-asked
returns-then-prices-asked c =
    let a = c.args in
    let q = asked_test a.asked a.limits.now a.factors.now a.book.now in
    let k = c.check_test in
    let refused = no_room q a.prices.now k.result k.ensures c.in_ok-check_test.was (omega arith) in
    refuses q _ _ refused ShortTable refl refl

pub of-requires : goal.of-requires
of-requires c =
    let a = c.args in
    let q = asked_test a.asked a.limits.now a.factors.now a.book.now in
    let t = tested q (sym c.check_test.ensures ∙ c.in_ok-check_test.was) in
    record { tables = (t.tables.good-limits, t.tables.good-factors); others = (t.tables.process-number, t.book) }

pub expose-requires : goal.expose-requires
expose-requires c = omega (arith, c.of.ensures.constraints_kept)

pub returns : goal.returns
returns c =
    let a = c.args in
    let q = asked_test a.asked a.limits.now a.factors.now a.book.now in
    let k = c.check_test in
    let x = c.expose in
    let of = c.of.ensures in
    let given = exposed-kept of.grid_kept of.process_kept (ap₂ (λ (t : Period) (book : List ℕ). of_period t (book_in book)) of.period_kept of.book_kept)
    a.prices.now x.new.prices x.result x.ensures in
    let passed = all-fits q a.prices.now k.result k.ensures c.in_ok-check_test.was (omega arith) in
    finds q _ _ passed refl x.result given
