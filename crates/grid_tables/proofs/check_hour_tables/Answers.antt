-- `check_hour_tables`: each return by the tests that led there.
use mathlib.Core.Path.{sym, ◌∙◌}
use borrow.Author.Tests.{lt-ltb, le-ltb}
use Rattle.tariff.proofs.Checks.{first_passes, first-refuses, nodes-few_of}
use Rattle.grid_tables.specs.Inner.{hour_table_checks}
use borrow.Author.Rules.{rules}
use Rattle.grid_tables.proofs.check_hour_tables.Goals as goal

pub returns-then-period-gt1 : goal.returns-then-period-gt1
unfolding hour_table_checks
returns-then-period-gt1 c =
    let n = c in
    sym (first_passes _ _ (sym n.nodes_bad.ensures ∙ n.if-nodes_bad.false) ∙ first_passes _ _ (le-ltb _ _ c.if-constraints-gt-MAX_CONSTRAINTS.false)
    ∙ first-refuses _ _ (lt-ltb _ _ c.if-period-gt1.true))

pub check_hour_cells-requires : goal.check_hour_cells-requires
check_hour_cells-requires c = let n = c in (nodes-few_of _ (sym n.nodes_bad.ensures ∙ n.if-nodes_bad.false), search rules)

pub returns : goal.returns
unfolding hour_table_checks
returns c =
    let p = c in
    let n = p in
    c.check_hour_cells.ensures
    ∙ sym (first_passes _ _ (sym n.nodes_bad.ensures ∙ n.if-nodes_bad.false) ∙ first_passes _ _ (le-ltb _ _ p.if-constraints-gt-MAX_CONSTRAINTS.false)
    ∙ first_passes _ _ (le-ltb _ _ p.if-period-gt1.false))

pub returns-then-nodes_bad : goal.returns-then-nodes_bad
unfolding hour_table_checks
returns-then-nodes_bad c = sym (first-refuses _ _ (sym c.nodes_bad.ensures ∙ c.if-nodes_bad.true))

pub returns-then-constraints-gt-MAX_CONSTRAINTS : goal.returns-then-constraints-gt-MAX_CONSTRAINTS
unfolding hour_table_checks
returns-then-constraints-gt-MAX_CONSTRAINTS c =
    sym (first_passes _ _ (sym c.nodes_bad.ensures ∙ c.if-nodes_bad.false) ∙ first-refuses _ _ (lt-ltb _ _ c.if-constraints-gt-MAX_CONSTRAINTS.true))
