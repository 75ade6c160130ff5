-- `read_contracts`: after i turns the first cells are those of the first i contracts.
use mathlib.Core.Path.{◌≡◌, refl, ◌∙◌}
use mathlib.Core.List.{flat_map}
use native.Mathlib.Omega.{arith}
use Rattle.lists.specs.Lists.{list_to}
use Rattle.layouts.specs.BookFile.{contract_in}
use Rattle.book_rules.proofs.Rows.{rows_more}
use Rattle.book_reading.proofs.read_contracts.Goals as goal

pub loop-i-init : goal.loop-i-init
unfolding list_to flat_map
loop-i-init c = (refl, refl)

pub store_row-requires : goal.store_row-requires
store_row-requires c = omega (arith, c.loop-i.invariant.0)

pub loop-i-preserved : goal.loop-i-preserved
loop-i-preserved c =
    let s = c in
    let a = s.args in
    let l = s.loop-i in
    let stored = c.store_row in (
      stored.auto.book ∙ l.invariant.0,
      rows_more (contract_in a.contracts.form a.contracts.file.now) l.i a.book.now l.book _ l.invariant.1 (rw (← c.at-c.ensures) stored.ensures),
    )

pub returns : goal.returns
returns c =
    let l = c.loop-i in
    let last : l.i ≡ c.args.contracts.count = omega arith in
    rw last at l.invariant.1
