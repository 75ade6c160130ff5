-- `new_count`.
use mathlib.Core.Path.{sym, ap, ◌∙◌}
use native.Mathlib.Omega.{arith}
use lib.ListN.{length}
use Rattle.migration_transfers.specs.Squares.{row_losses}
use Rattle.migration_pairs.proofs.Pairs.{new-some, new_none, base_held}
use Rattle.migration_pairs.proofs.new_count.Goals as goal

pub base_count-requires : goal.base_count-requires
base_count-requires c =
    let s = c in
    (base_held (row_losses s.args.base.row.now) s.args.base.loads.now s.args.period s.args.base.contract (sym c.migrates.ensures ∙ c.if-migrates.true) s.requires.0, s.requires.1)

pub returns-then-migrates : goal.returns-then-migrates
returns-then-migrates c =
    let a = c.args in
    (c.base_count.ensures.0 ∙ sym (ap length (new-some (row_losses a.base.row.now) a.base.loads.now a.period a.base.contract (sym c.migrates.ensures ∙ c.if-migrates.true))), c.base_count.ensures.1)

pub returns : goal.returns
returns c =
    let a = c.args in
    (sym (ap length (new_none (row_losses a.base.row.now) a.base.loads.now a.period a.base.contract (sym c.migrates.ensures ∙ c.if-migrates.false))), omega arith)
