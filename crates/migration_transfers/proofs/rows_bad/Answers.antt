-- `rows_bad`: a search by the rows' numbers is one of the rows.
use mathlib.Core.Path.{◌≡◌, refl, sym, ap, ◌∙◌}
use Prim.Native.Nat.{◌+◌}
use native.Mathlib.Omega.{arith}
use borrow.Author.Rules.{rules}
use borrow.Author.Tests.{tests}
use lib.ListN.{length}
use Rattle.std.proofs.lemmas.Iterator.{YieldsList-from_range}
use Rattle.std.proofs.lemmas.Iterator.Search.{any_from_yields_List}
use Rattle.std.specs.List.{list_any, range_with_len}
use Rattle.lists.specs.Lists.{any_of}
use Rattle.migration_rules.specs.Transfers.{row, rows_of, row_bad_of}
use Rattle.migration_transfers.specs.Inner.{migration_row_at}
use Rattle.migration_transfers.proofs.Rows.{rows-many, rows_at, search_list}
use Rattle.migration_transfers.proofs.rows_bad.Goals as goal

pub returns : goal.returns
returns c =
    let a = c.args.lists in
    let bad = row_bad_of c.args.entities in
    let at = migration_row_at a.customers.now a.rates.now a.olds.now a.news.now in
    let rows = rows_of a.customers.now a.rates.now a.olds.now a.news.now in
    let n = length a.customers.now in
    let many = rows-many a.customers.now a.rates.now a.olds.now a.news.now in
    let by_number : c.any.result ≡ list_any (λ i. bad (at i)) (range_with_len 0 n) =
    any_from_yields_List (λ i. bad (at i)) _ _ c.any.result c.any.ensures.ran (YieldsList-from_range 0 n n refl (omega arith)) (λ x b q k. search (rules, tests)) in
    let by_row : list_any (λ i. bad (at i)) (range_with_len 0 (length rows)) ≡ any_of bad rows =
    search_list bad at rows (row 0 0 0 0) 0 (λ j h. let same : 0 + j ≡ j = omega arith in rows_at a.customers.now a.rates.now a.olds.now a.news.now j (row 0 0 0 0) (omega (arith, many)) ∙ ap at (sym same)) in
    by_number ∙ rw many at by_row
