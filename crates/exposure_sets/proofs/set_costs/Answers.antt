-- `set_costs`: the rents, then the book's contracts, then what adds up by constraint on each set.
use mathlib.Core.Path.{◌≡◌, ◌∙◌}
use Prim.Native.Nat.{◌<◌}
use native.Mathlib.Omega.{arith}
use lib.ListN.{length}
use lib.Seq.{length-take-le}
use Rattle.integers.proofs.Sizes.{nat_abs_add}
use Rattle.tariff.specs.declared.contracts.Kind.TheVariants.{Obligation}
use Rattle.book_rules.proofs.Accepted.{book-accepted}
use Rattle.exposure_sets.specs.Inner.{cell_in_of, max_row, Sums}
use Rattle.exposure_sets.proofs.Laws.{sums_small, unit_is, front-ready, front-added}
use Rattle.exposure_sets.proofs.set_costs.Goals as goal

pub add_counted-requires : goal.add_counted-requires
add_counted-requires c =
    let over = c.args.listing.over.now in
    let chosen = c.args.listing.chosen in
    let e = c.add_book.ensures in
    let x = c.set_sums.ensures in
    let n = c.set_count in
    let count = length over in
    let row = c.add_book.new.row in
    let long : length row ≡ count = e.added.0.length-kept ∙ c.fill_rents.ensures.length-kept ∙ length-take-le count _ chosen.few in
    let sums : Sums count (cell_in_of row) c.set_sums.new.sums = rw long at x in
    front-ready n.result c.set_sums.new.sums c.add_book.new.costs n.ensures.2 (omega arith) (omega arith)
    (sums_small max_row count n.result (cell_in_of row) c.set_sums.new.sums n.ensures.0 chosen.few e.added.1 sums)
    (λ m h. omega (arith, e.added_2.1 m (rw n.ensures.0 at h)))

pub returns : goal.returns
returns c =
    let a = c.args in
    let t = a.listing.tested in
    let over = a.listing.over.now in
    let chosen = c.args.listing.chosen in
    let f = c.fill_rents in
    let e = c.add_book in
    let x = c.set_sums in
    let n = c.set_count in
    let count = length over in
    let rents = cell_in_of f.new.figures in
    let row = cell_in_of e.new.row in
    let options = cell_in_of e.new.costs in
    let long : length e.new.row ≡ count = e.ensures.added.0.length-kept ∙ f.ensures.length-kept ∙ length-take-le count _ chosen.few in
    let sums : Sums count row x.new.sums = rw long at x.ensures in
    let added = front-added Obligation n.result x.new.sums e.new.costs _ (omega (arith, n.ensures.2)) c.add_counted.ensures in
    let small = sums_small max_row count n.result row x.new.sums n.ensures.0 chosen.few e.ensures.added.1 sums in
    let each = (book-accepted t.grid.factors.nodes t.book.now t.accepted).each in
    record {
      each = λ m h.
          let l : m < n.result = rw n.ensures.0 h in
          unit_is t.grid.factors.nodes t.grid.factors.constraints t.grid.limits.now t.grid.factors.cells.now t.process t.period t.book.now over
          count chosen each m rents row _ _ _ _ f.ensures.each e.ensures.added.0.each
          (c.requires m (omega (arith, l, n.ensures.2))) (e.ensures.added_2.0.each m h) (sums m h) (added.each m l);
      sized = λ m h.
          let l : m < n.result = rw n.ensures.0 h in
          rw (added.each m l) (omega (arith, nat_abs_add (options m) (cell_in_of x.new.sums m), e.ensures.added_2.1 m h, small m l));
      length-is = omega arith;
    }
