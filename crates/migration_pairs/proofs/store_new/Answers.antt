-- `store_new`.
use mathlib.Core.Path.{sym, ◌∙◌}
use Rattle.migration_transfers.specs.Squares.{row_losses}
use Rattle.book_growth.proofs.Appending.{none-appended}
use Rattle.migration_pairs.proofs.Pairs.{new-some, new_none, base_held}
use Rattle.migration_pairs.proofs.store_new.Goals as goal

pub store_pairs-requires : goal.store_pairs-requires
store_pairs-requires c =
    let s = c in
    let lost = row_losses s.args.base.row.now in record { held = base_held lost s.args.base.loads.now s.args.period s.args.base.contract (sym c.migrates.ensures ∙ c.if-migrates.true) s.requires.quantity-most; basis = rw (new-some lost s.args.base.loads.now s.args.period s.args.base.contract (sym c.migrates.ensures ∙ c.if-migrates.true)) at s.requires }

pub returns-then-migrates : goal.returns-then-migrates
returns-then-migrates c =
    let a = c.args in
    rw (new-some (row_losses a.base.row.now) a.base.loads.now a.period a.base.contract (sym c.migrates.ensures ∙ c.if-migrates.true)) c.store_pairs.ensures

pub returns : goal.returns
returns c =
    let a = c.args in
    rw (new_none (row_losses a.base.row.now) a.base.loads.now a.period a.base.contract (sym c.migrates.ensures ∙ c.if-migrates.false))
    (none-appended a.form a.at a.file.now)
