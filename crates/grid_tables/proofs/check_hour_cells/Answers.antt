-- `check_hour_cells`: each return by the tests that led there.
use mathlib.Core.Path.{sym, ◌∙◌}
use native.Mathlib.Omega.{arith}
use borrow.Author.Tests.{lt-ltb, le-ltb}
use Rattle.tariff.proofs.Checks.{first_passes, first-refuses, last-passes}
use Rattle.grid_tables.proofs.Factors.{count_fits}
use Rattle.grid_tables.proofs.check_hour_cells.Goals as goal

pub returns-then-prices-constraints : goal.returns-then-prices-constraints
returns-then-prices-constraints c = sym (first_passes _ _ (le-ltb _ _ c.if-factors-cells.false) ∙ first-refuses _ _ (lt-ltb _ _ c.if-prices-constraints.true))

pub returns-then-place-nodes : goal.returns-then-place-nodes
returns-then-place-nodes c =
    sym (first_passes _ _ (le-ltb _ _ c.if-factors-cells.false) ∙ first_passes _ _ (le-ltb _ _ c.if-prices-constraints.false)
    ∙ first-refuses _ _ (lt-ltb _ _ c.if-place-nodes.true))

pub returns-then-factor_out_of_range : goal.returns-then-factor_out_of_range
returns-then-factor_out_of_range c =
    let t = c in
    sym (first_passes _ _ (le-ltb _ _ t.if-factors-cells.false) ∙ first_passes _ _ (le-ltb _ _ t.if-prices-constraints.false)
    ∙ first_passes _ _ (le-ltb _ _ t.if-place-nodes.false)
    ∙ first-refuses _ _ (sym c.factor_out_of_range.ensures ∙ c.if-factor_out_of_range.true))

pub returns-then-cell_above : goal.returns-then-cell_above
returns-then-cell_above c =
    let f = c in
    let t = f in
    sym (first_passes _ _ (le-ltb _ _ t.if-factors-cells.false) ∙ first_passes _ _ (le-ltb _ _ t.if-prices-constraints.false)
    ∙ first_passes _ _ (le-ltb _ _ t.if-place-nodes.false)
    ∙ first_passes _ _ (sym f.factor_out_of_range.ensures ∙ f.if-factor_out_of_range.false) ∙ first-refuses _ _ (sym c.cell_above.ensures ∙ c.if-cell_above.true))

pub returns : goal.returns
returns c =
    let f = c in
    let t = f in
    sym (first_passes _ _ (le-ltb _ _ t.if-factors-cells.false) ∙ first_passes _ _ (le-ltb _ _ t.if-prices-constraints.false)
    ∙ first_passes _ _ (le-ltb _ _ t.if-place-nodes.false)
    ∙ first_passes _ _ (sym f.factor_out_of_range.ensures ∙ f.if-factor_out_of_range.false) ∙ last-passes _ (sym c.cell_above.ensures ∙ c.if-cell_above.false))

pub overflow_mul-cells : goal.overflow_mul-cells
overflow_mul-cells c = record { fits = omega (arith, count_fits _ _ c.requires.0 c.requires.1) }

pub returns-then-factors-cells : goal.returns-then-factors-cells
returns-then-factors-cells c = sym (first-refuses _ _ (lt-ltb _ _ c.if-factors-cells.true))
