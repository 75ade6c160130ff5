-- `put_priced`: where the prices are read, an hour is settled.
use mathlib.Core.List.{List}
use Prim.Native.Nat.{ℕ}
use lib.ListN.{length-replicate}
use Rattle.text_format.proofs.Putting.{puts_same}
use Rattle.tariff.specs.declared.contracts.Period.{Period}
use Rattle.tariff.specs.Units.{factors_of, max_constraints}
use Rattle.layouts.specs.BookFile.{book_in}
use Rattle.price_rules.proofs.PriceLaws.{period-of_number}
use Rattle.price_rules.proofs.Taken.{prices-taken}
use Rattle.text_files.proofs.WithFiles.{prices-refused, prices-text}
use Rattle.text_statement_lines.specs.Lines.{lines}
use Rattle.text_statement.proofs.put_priced.Goals as goal

pub of-hour-requires : goal.of-hour-requires
of-hour-requires c =
    let a = c.args in
    let taken = prices-taken a.grid.constraints a.price_file.now _ _ _ (rw c.in-Ok.is at c.read_prices.ensures) in
    record { good-factors = a.grid.good; good-prices = taken.good-prices }

pub returns-in-Err : goal.returns-in-Err
returns-in-Err c =
    puts_same (prices-refused _ _ _ _ (length-replicate {A = ℕ} max_constraints 0) _ _ (rw c.in-Err.is at c.read_prices.ensures)) c.put_refused.ensures

pub returns-in-Ok : goal.returns-in-Ok
returns-in-Ok c =
    let kept = c.of-hour.ensures in
    let r = c.read_prices in
    let a = c.args in
    let taken = prices-taken a.grid.constraints a.price_file.now _ _ _ (rw c.in-Ok.is at r.ensures) in
    let text : Period → List ℕ → List ℕ = λ t p. lines (factors_of a.grid.nodes a.grid.constraints a.grid.cells.now) p t (book_in a.book.now) in
    puts_same (rw (period-of_number c.in-Ok.period) at (prices-text a.grid.constraints a.price_file.now text _ _ taken))
    (rw (kept.nodes_kept, kept.constraints_kept, kept.factors_kept, kept.prices_kept) at c.put_settled.ensures)
