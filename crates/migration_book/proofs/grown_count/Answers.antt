-- `grown_count`: what follows the first i contracts is counted.
use mathlib.Core.Path.{◌≡◌, ap, ◌∙◌}
use native.Mathlib.Omega.{arith}
use lib.ListN.{length}
use Rattle.migration_pairs.proofs.Pairs.{new-by_row}
use Rattle.migration_book.proofs.Growing.{none-new, length_more}
use Rattle.migration_book.proofs.grown_count.Goals as goal

pub losers_of-losers-requires : goal.losers_of-losers-requires
losers_of-losers-requires c = let ready = c.requires in (ready.size, ready.few)

pub loop-i-init : goal.loop-i-init
loop-i-init c =
    let a = c.args in
    (omega (arith, ap length (none-new a.migration.contracts.form a.migration.contracts.file.now a.migration.period a.square a.migration.loads.now)), omega arith)

pub new_count-grown-requires : goal.new_count-grown-requires
new_count-grown-requires c =
    let own = c.row_of-place in (
      rw c.at-contract.ensures (c.args.migration.readable.quantities c.loop-i.i (omega arith)),
      c.losers_of-losers.ensures.each own.result own.ensures.0,
    )

pub overflow_add-grown : goal.overflow_add-grown
overflow_add-grown c =
    let s = c in
    record { fits = omega (arith, s.args.migration.readable.few, c.new_count-grown.ensures.1, c.loop-i.invariant) }

pub loop-i-preserved : goal.loop-i-preserved
loop-i-preserved c =
    let s = c in
    let l = c.loop-i in
    let a = s.args in
    let k = c.at-contract in
    let own = c.row_of-place in
    let same = new-by_row a.square a.migration.loads.now s.requires k.result own.result own.ensures.1 a.migration.period in
    let new = rw k.ensures at (c.new_count-grown.ensures.0 ∙ ap length same) in (
      omega (arith, new, l.invariant.0, length_more a.migration.contracts.form a.migration.contracts.file.now a.migration.period a.square a.migration.loads.now l.i),
      omega (arith, l.invariant.1, c.new_count-grown.ensures.1),
    )

pub returns : goal.returns
returns c =
    let a = c.args in
    let l = c.loop-i in
    let last : l.i ≡ a.migration.contracts.count = omega arith in
    rw last at l.invariant.0
