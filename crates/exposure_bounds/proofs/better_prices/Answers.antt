-- `better_prices`: all overloaded constraints, unless the largest excess alone costs more.
use mathlib.Core.Path.{◌≡◌}
use native.Mathlib.Omega.{arith}
use lib.ListN.{length}
use lib.IntN.{pos, ◌*ℤ◌}
use Rattle.lists.specs.Lent.{overwrite}
use Rattle.tariff.specs.Units.{max_price}
use Rattle.layouts.specs.BookFile.{book_in}
use Rattle.test_excesses.specs.Inner.{cell_at}
use Rattle.exposure_rules.specs.Exposure.{highest_where, largest_of}
use Rattle.exposure_figures.specs.Inner.{Exactly}
use Rattle.exposure_figures.proofs.Figures.{order-is}
use Rattle.exposure_prices.specs.Inner.{chosen_in, top_in}
use Rattle.exposure_bounds.proofs.Meaning.{filled-good, all-kept, alone_taken, largest_few}
use Rattle.exposure_bounds.proofs.better_prices.Goals as goal

pub shortfall_at-requires : goal.shortfall_at-requires
shortfall_at-requires c =
    let a = c.args in
    let t = a.tested in
    let g = t.grid in
    let k = g.factors.constraints in
    let cells = a.excesses.cells.now in
    let long = c.requires.are_excesses.0 in
    let largest = c.largest_cell-largest.result in
    let largest_is : largest ≡ largest_of k (cell_at cells) = rw long at c.largest_cell-largest.ensures in
    let fills : c.fill_prices.new.prices ≡ overwrite (highest_where k (chosen_in cells 0 k)) a.prices.now = rw long at c.fill_prices.ensures in
    -- the highest price stands on every overloaded constraint
    filled-good g.factors.nodes k g.limits.now g.factors.cells.now t.process t.period (book_in t.book.now) cells c.requires.are_excesses.1 largest largest_is
    a.prices.now _ fills c.requires.room

pub overflow_add-largest : goal.overflow_add-largest
overflow_add-largest c =
    let cells = c.args.excesses.cells.now in
    let largest = c.largest_cell-largest in
    omega (arith, largest_few (length cells) (cell_at cells) largest.result largest.ensures, c.args.excesses.sized.few)

pub returns-then-lt : goal.returns-then-lt
returns-then-lt c =
    let a = c.args in
    let t = a.tested in
    let g = t.grid in
    let k = g.factors.constraints in
    let cells = a.excesses.cells.now in
    let long = c.requires.are_excesses.0 in
    let largest = c.largest_cell-largest.result in
    let largest_is : largest ≡ largest_of k (cell_at cells) = rw long at c.largest_cell-largest.ensures in
    let fills : c.fill_prices.new.prices ≡ overwrite (highest_where k (chosen_in cells 0 k)) a.prices.now = rw long at c.fill_prices.ensures in
    let alone = c.alone_shortfall-alone.result in
    let costs : Exactly (top_in k cells largest *ℤ pos max_price) alone = rw long at c.alone_shortfall-alone.ensures in
    let all = c.shortfall_at.result.shortfall in
    let all-costs = c.shortfall_at.ensures.shortfall-is in
    alone_taken g.factors.nodes k g.limits.now g.factors.cells.now t.process t.period (book_in t.book.now) cells c.requires.are_excesses.1 largest largest_is
    a.prices.now _ fills alone all costs all-costs c.lt.result
    (order-is all alone all-costs.parts-small costs.parts-small c.lt.result c.lt.ensures) c.if-lt.true _ (rw long at c.fill_prices-then-lt.ensures)

pub returns-else-lt : goal.returns-else-lt
returns-else-lt c =
    let a = c.args in
    let t = a.tested in
    let g = t.grid in
    let k = g.factors.constraints in
    let cells = a.excesses.cells.now in
    let long = c.requires.are_excesses.0 in
    let largest = c.largest_cell-largest.result in
    let largest_is : largest ≡ largest_of k (cell_at cells) = rw long at c.largest_cell-largest.ensures in
    let fills : c.fill_prices.new.prices ≡ overwrite (highest_where k (chosen_in cells 0 k)) a.prices.now = rw long at c.fill_prices.ensures in
    let alone = c.alone_shortfall-alone.result in
    let costs : Exactly (top_in k cells largest *ℤ pos max_price) alone = rw long at c.alone_shortfall-alone.ensures in
    let all = c.shortfall_at.result.shortfall in
    let all-costs = c.shortfall_at.ensures.shortfall-is in
    all-kept g.factors.nodes k g.limits.now g.factors.cells.now t.process t.period (book_in t.book.now) cells c.requires.are_excesses.1 largest largest_is
    a.prices.now _ fills alone all costs all-costs c.lt.result
    (order-is all alone all-costs.parts-small costs.parts-small c.lt.result c.lt.ensures) c.if-lt.false
