-- `add_contract`: where it is of the period, an obligation's figures or an option's sums.
use mathlib.Core.Path.{◌≡◌, sym, ◌∙◌}
use native.Mathlib.Omega.{arith}
use lib.ListN.{length}
use lib.Seq.{length-take-le}
use Rattle.tariff.specs.declared.contracts.Kind.TheVariants.{Option}
use Rattle.tariff.specs.Inner.{max_released}
use Rattle.hour_rules.proofs.Amounts.{period_told}
use Rattle.exposure_sets.specs.Inner.{cell_in_of, Sums}
use Rattle.exposure_sets.proofs.Laws.{sums_small, no_obligation, option_added, front-ready, front-added}
use Rattle.exposure_sets.proofs.add_contract.Goals as goal

pub add_counted-requires-in-Option : goal.add_counted-requires-in-Option
add_counted-requires-in-Option c =
    let a = c.args in
    let f = c.fill_spreads.ensures in
    let x = c.set_sums.ensures in
    let n = c.set_count in
    let few = c.args.listing.chosen.few in
    let count = length a.listing.over.now in
    let figures = c.fill_spreads.new.figures in
    let long : length figures ≡ count = f.length-kept ∙ length-take-le count _ few in
    let sums : Sums count (cell_in_of figures) c.set_sums.new.sums = rw long at x in
    let small = sums_small max_released count n.result (cell_in_of figures) c.set_sums.new.sums n.ensures.0 few f.sized sums in
    front-ready n.result c.set_sums.new.sums a.costs.now n.ensures.2 (omega arith) (omega arith) (λ m h. omega (arith, small m h))
    (λ m h. c.requires.small.1 m (rw n.ensures.0 at h))

pub returns-in-Option : goal.returns-in-Option
returns-in-Option c =
    let a = c.args in
    let own = sym (c.eq.ensures ∙ period_told a.c.period a.listing.tested.period) ∙ c.if-eq.true in
    let f = c.fill_spreads.ensures in
    let kind = c.in-Option.is in
    let x = c.set_sums.ensures in
    let n = c.set_count in
    let few = c.args.listing.chosen.few in
    let count = length a.listing.over.now in
    let figures = c.fill_spreads.new.figures in
    let long : length figures ≡ count = f.length-kept ∙ length-take-le count _ few in
    let sums : Sums count (cell_in_of figures) c.set_sums.new.sums = rw long at x in
    let added = front-added Option n.result c.set_sums.new.sums a.costs.now _ (omega (arith, n.ensures.2)) c.add_counted-in-Option.ensures in (
      no_obligation a.listing.tested.grid.factors.constraints a.listing.tested.grid.factors.cells.now a.listing.over.now count a.listing.tested.period a.c own _ _ f kind max_released a.row.now,
      rw n.ensures.0 at (option_added a.listing.tested.grid.factors.constraints a.listing.tested.grid.factors.cells.now a.listing.over.now count a.listing.tested.period a.c own _ _ f kind n.result
          c.set_sums.new.sums a.costs.now _ n.ensures.0 few sums added),
    )
