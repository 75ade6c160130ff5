-- `price_reading::read_prices`: where no check refuses, the file has its length and the table its cells.
use mathlib.Core.Path.{◌≡◌, refl, sym, ◌∙◌}
use mathlib.Core.List.{◌++◌}
use native.Mathlib.Omega.{arith}
use lib.ListN.{drop}
use lib.Seq.{length-take-le}
use Rattle.bits.specs.Bits.{fields}
use Rattle.bits.proofs.Fields.{length_fields}
use Rattle.tariff.proofs.Answers.{answer-passed, cells-passed}
use Rattle.lists.specs.Lent.{overwrite}
use Rattle.layouts.specs.PriceFile.{prices_in, price_width}
use Rattle.price_rules.proofs.PriceLaws.{readable, number-of_period}
use Rattle.price_reading.proofs.read_prices.Goals as goal

pub slice_bounds-read_run-end : goal.slice_bounds-read_run-end
slice_bounds-read_run-end c = (readable _ _ _ (sym c.check_read.ensures ∙ c.in_ok-check_read.was)).room

pub slice_bounds-read_run-end-2 : goal.slice_bounds-read_run-end-2
slice_bounds-read_run-end-2 c = sym (length-take-le c.args.constraints c.args.prices.now (readable _ _ _ (sym c.check_read.ensures ∙ c.in_ok-check_read.was)).room)

pub read_run-requires-clause-run_bound : goal.read_run-requires-clause-run_bound
read_run-requires-clause-run_bound c =
    let r = readable _ _ _ (sym c.check_read.ensures ∙ c.in_ok-check_read.was) in
    rw (length-take-le c.args.constraints c.args.prices.now r.room) (omega arith)

pub read_run-requires-clause-width_bound : goal.read_run-requires-clause-width_bound
read_run-requires-clause-width_bound c = let r = readable _ _ _ (sym c.check_read.ensures ∙ c.in_ok-check_read.was) in (omega arith, omega arith)

pub field-requires-clause-width_bound : goal.field-requires-clause-width_bound
field-requires-clause-width_bound c = let r = readable _ _ _ (sym c.check_read.ensures ∙ c.in_ok-check_read.was) in omega arith

pub returns : goal.returns
unfolding prices_in
returns c =
    let a = c.args in
    let told = c.in_ok-check_read.was in
    let prices = fields a.file.now 8 price_width a.constraints in
    let cut = length-take-le a.constraints a.prices.now (readable _ _ _ (sym c.check_read.ensures ∙ told)).room in
    let is : c.read_run.new.out ≡ prices = rw cut at c.read_run.ensures in
    let read : c.read_run.new.out ++ drop a.constraints a.prices.now ≡ overwrite prices a.prices.now =
    rw (is, length_fields) refl in
    record {
      period-given = rw (c.from.ensures, number-of_period c.field.result c.field.ensures.1, c.field.ensures.0) (answer-passed _ _ c.check_read.ensures told _);
      prices-read = cells-passed _ _ c.check_read.ensures told (prices_in a.constraints a.file.now) a.prices.now _ read;
    }
