-- `check_cells`: each return by the tests that led there.
use mathlib.Core.Path.{sym, ◌∙◌}
use borrow.Author.Tests.{lt-ltb, le-ltb}
use Rattle.tariff.proofs.Checks.{first_passes, first-refuses, last-passes}
use Rattle.exposure_shortfall.proofs.check_cells.Goals as goal

pub returns-then-prices-constraints : goal.returns-then-prices-constraints
returns-then-prices-constraints c =
    sym (first_passes _ _ (le-ltb _ _ c.if-limits-constraints.false) ∙ first_passes _ _ (le-ltb _ _ c.if-factors-cells.false) ∙ first-refuses _ _
    (lt-ltb _ _ c.if-prices-constraints.true))

pub returns-then-factor_out_of_range : goal.returns-then-factor_out_of_range
returns-then-factor_out_of_range c =
    sym (first_passes _ _ (le-ltb _ _ c.if-limits-constraints.false) ∙ first_passes _ _ (le-ltb _ _ c.if-factors-cells.false)
    ∙ first_passes _ _ (le-ltb _ _ c.if-prices-constraints.false) ∙ first_passes _ _ (sym c.cell_above.ensures ∙ c.if-cell_above.false)
    ∙ first-refuses _ _ (sym c.factor_out_of_range.ensures ∙ c.if-factor_out_of_range.true))

pub returns-then-limits-constraints : goal.returns-then-limits-constraints
returns-then-limits-constraints c = sym (first-refuses _ _ (lt-ltb _ _ c.if-limits-constraints.true))

pub returns-then-factors-cells : goal.returns-then-factors-cells
returns-then-factors-cells c = sym (first_passes _ _ (le-ltb _ _ c.if-limits-constraints.false) ∙ first-refuses _ _ (lt-ltb _ _ c.if-factors-cells.true))

pub returns-then-cell_above : goal.returns-then-cell_above
returns-then-cell_above c = sym (first_passes _ _ (le-ltb _ _ c.if-limits-constraints.false) ∙ first_passes _ _ (le-ltb _ _ c.if-factors-cells.false)
    ∙ first_passes _ _ (le-ltb _ _ c.if-prices-constraints.false) ∙ first-refuses _ _ (sym c.cell_above.ensures ∙ c.if-cell_above.true))

pub returns-then-cell_above-2 : goal.returns-then-cell_above-2
returns-then-cell_above-2 c = sym (first_passes _ _ (le-ltb _ _ c.if-limits-constraints.false) ∙ first_passes _ _ (le-ltb _ _ c.if-factors-cells.false)
    ∙ first_passes _ _ (le-ltb _ _ c.if-prices-constraints.false)
    ∙ first_passes _ _ (sym c.cell_above.ensures ∙ c.if-cell_above.false)
    ∙ first_passes _ _ (sym c.factor_out_of_range.ensures ∙ c.if-factor_out_of_range.false) ∙ first-refuses _ _ (sym c.cell_above-2.ensures ∙ c.if-cell_above-2.true))

pub returns : goal.returns
returns c = sym (first_passes _ _ (le-ltb _ _ c.if-limits-constraints.false) ∙ first_passes _ _ (le-ltb _ _ c.if-factors-cells.false)
    ∙ first_passes _ _ (le-ltb _ _ c.if-prices-constraints.false)
    ∙ first_passes _ _ (sym c.cell_above.ensures ∙ c.if-cell_above.false)
    ∙ first_passes _ _ (sym c.factor_out_of_range.ensures ∙ c.if-factor_out_of_range.false) ∙ last-passes _ (sym c.cell_above-2.ensures ∙ c.if-cell_above-2.false))
