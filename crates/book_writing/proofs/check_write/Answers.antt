-- `check_write`: each return by the tests that led there.
-- what the row checks come behind
use Rattle.std.proofs.lemmas.Result.{err_from_is_err_and}
use mathlib.Core.Path.{◌≡◌, sym, ◌∙◌}
use Prim.Native.Nat.{◌<◌, ◌≤◌}
use native.Mathlib.Omega.{arith}
use borrow.Author.Tests.{lt-ltb, le-ltb}
use lib.ListN.{length}
use Rattle.tariff.specs.Refusals.{first}
use Rattle.tariff.proofs.Checks.{first_passes, first-refuses, last-passes, append_refuses, append_passes}
use Rattle.layouts.specs.Forms.{ends_below_of}
use Rattle.layouts.specs.BookFile.{book_bytes_of}
use Rattle.book_rules.specs.BookChecks.{checks_to}
use Rattle.book_rules.specs.WriteBook.{write_book_call, row_checks, write_book_checks}
use Rattle.book_rules.proofs.Passing.{then_rows}
use Rattle.book_writing.proofs.check_write.Goals as goal

pub returns-then-nodes_bad : goal.returns-then-nodes_bad
unfolding write_book_checks
returns-then-nodes_bad c = λ place e. sym (first-refuses _ _ (sym c.nodes_bad.ensures ∙ c.if-nodes_bad.true))

pub returns-then-contracts-gt-MAX_CONTRACTS : goal.returns-then-contracts-gt-MAX_CONTRACTS
unfolding write_book_checks
returns-then-contracts-gt-MAX_CONTRACTS c = λ place e.
    sym (first_passes _ _ (sym c.nodes_bad.ensures ∙ c.if-nodes_bad.false) ∙ first-refuses _ _ (lt-ltb _ _ c.if-contracts-gt-MAX_CONTRACTS.true))

pub returns-then-book-contracts : goal.returns-then-book-contracts
unfolding write_book_checks
returns-then-book-contracts c = λ place e.
    sym (first_passes _ _ (sym c.nodes_bad.ensures ∙ c.if-nodes_bad.false) ∙ first_passes _ _ (le-ltb _ _ c.if-contracts-gt-MAX_CONTRACTS.false) ∙ first-refuses _ _ (lt-ltb _ _ c.if-book-contracts.true))

pub returns-in_err-check_rows : goal.returns-in_err-check_rows
returns-in_err-check_rows c = λ place e.
    let a = c.args in
    let rows = then_rows (write_book_call a.form a.nodes a.contracts a.book.now place) (sym c.nodes_bad.ensures ∙ c.if-nodes_bad.false) c.if-contracts-gt-MAX_CONTRACTS.false c.if-book-contracts.false in
    let told : c.check_rows.result ≡ first (checks_to a.contracts (row_checks (ends_below_of a.form a.nodes) a.book.now)) = rw (← c.ends_below.ensures) c.check_rows.ensures in
    let p = err_from_is_err_and c.from_residual.result c.from_residual.ensures.1 in
    rw (p.1, p.2) (sym (rows ∙ append_refuses _ _ _ (sym told ∙ c.in_err-check_rows.was)))

pub returns-then-bytes-book_bytes : goal.returns-then-bytes-book_bytes
returns-then-bytes-book_bytes c = λ place e.
    let a = c.args in
    let room : length place < book_bytes_of a.form a.contracts = omega (arith, c.book_bytes.ensures) in
    let rows = then_rows (write_book_call a.form a.nodes a.contracts a.book.now place) (sym c.nodes_bad.ensures ∙ c.if-nodes_bad.false) c.if-contracts-gt-MAX_CONTRACTS.false c.if-book-contracts.false in
    let told : c.check_rows.result ≡ first (checks_to a.contracts (row_checks (ends_below_of a.form a.nodes) a.book.now)) = rw (← c.ends_below.ensures) c.check_rows.ensures in
    sym (rows ∙ append_passes _ _ (sym told ∙ c.in_ok-check_rows.was) ∙ first-refuses _ _ (lt-ltb _ _ room))

pub returns : goal.returns
returns c = λ place e.
    let a = c.args in
    let room : book_bytes_of a.form a.contracts ≤ length place = omega (arith, c.book_bytes.ensures) in
    let rows = then_rows (write_book_call a.form a.nodes a.contracts a.book.now place) (sym c.nodes_bad.ensures ∙ c.if-nodes_bad.false) c.if-contracts-gt-MAX_CONTRACTS.false c.if-book-contracts.false in
    let told : c.check_rows.result ≡ first (checks_to a.contracts (row_checks (ends_below_of a.form a.nodes) a.book.now)) = rw (← c.ends_below.ensures) c.check_rows.ensures in
    sym (rows ∙ append_passes _ _ (sym told ∙ c.in_ok-check_rows.was) ∙ last-passes _ (le-ltb _ _ room))
