-- `check_nets`: the rows' checks, then the place.
use mathlib.Core.Path.{sym, ◌∙◌}
use native.Mathlib.Nat.{mul-le-mul}
use native.Mathlib.Omega.{arith}
use borrow.Author.Tests.{lt-ltb, le-ltb}
use Rattle.std.proofs.lemmas.Result.{err_from_is_err_and}
use Rattle.tariff.proofs.Checks.{first-refuses, last-passes, append_refuses, append_passes}
use Rattle.migration_rules.specs.Transfers.{migration_row_checks}
use Rattle.migration_transfers.specs.Inner.{lists_of}
use Rattle.migration_transfers.proofs.Rows.{rowed}
use Rattle.migration_square.specs.NetTransfers.{net_transfers_checks}
use Rattle.migration_square.proofs.check_nets.Goals as goal

pub returns-in_err-check_rows : goal.returns-in_err-check_rows
unfolding net_transfers_checks
returns-in_err-check_rows c =
    let p = err_from_is_err_and c.from_residual.result c.from_residual.ensures.1 in
    rw (p.1, p.2) (sym (append_refuses (migration_row_checks _ _) _ _ (sym c.check_rows.ensures ∙ c.in_err-check_rows.was)))

pub overflow_mul-entities : goal.overflow_mul-entities
overflow_mul-entities c =
    let a = c.args in
    let few = (rowed a.entities (lists_of a.lists) (sym c.check_rows.ensures ∙ c.in_ok-check_rows.was)).few in
    record { fits = omega (arith, mul-le-mul few few) }

pub returns-then-place-entities : goal.returns-then-place-entities
unfolding net_transfers_checks
returns-then-place-entities c = sym (append_passes (migration_row_checks _ _) _ (sym c.check_rows.ensures ∙ c.in_ok-check_rows.was) ∙ first-refuses _ _ (lt-ltb _ _ c.if-place-entities.true))

pub returns : goal.returns
unfolding net_transfers_checks
returns c = sym (append_passes (migration_row_checks _ _) _ (sym c.check_rows.ensures ∙ c.in_ok-check_rows.was) ∙ last-passes _ (le-ltb _ _ c.if-place-entities.false))
