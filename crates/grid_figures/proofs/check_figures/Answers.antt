-- `check_figures`: each return by the tests that led there.
-- the limits searched are the file's, and the bits behind the factors its padding
use Rattle.bits.specs.Bits.{field, fields}
use mathlib.Core.Bool.{Bool}
use mathlib.Core.Path.{◌≡◌, sym, ◌∙◌}
use mathlib.Core.List.{List}
use Prim.Native.Nat.{ℕ, ◌-◌, ◌*◌}
use borrow.Author.Tests.{lt-ltb, le-ltb}
use lib.ListN.{length}
use Rattle.lists.specs.Lists.{any_of}
use Rattle.tariff.specs.Checks.{limit_bad}
use Rattle.tariff.proofs.Checks.{first_passes, first-refuses, differs, same, last-passes}
use Rattle.layouts.specs.GridFile.{limits_in, grid_pad_in, limit_width, bits_behind}
use Rattle.grid_rules.specs.Inner.{figure_checks, Counted}
use Rattle.grid_rules.proofs.Passing.{limits-are, pad_is}
use Rattle.grid_figures.proofs.check_figures.Goals as goal

module _ (s : List ℕ) (header nodes constraints : ℕ) (counted : Counted s header nodes constraints) where
  limit : {above : Bool} → above ≡ any_of limit_bad (fields s header limit_width constraints) → above ≡ any_of limit_bad (limits_in s)
  limit is = rw (limits-are s header nodes constraints counted) at is

  pad : (used bits : ℕ) → used ≡ bits_behind header nodes constraints → bits ≡ field s used (8 * length s - used) → bits ≡ grid_pad_in s
  pad used bits here is = is ∙ pad_is s header nodes constraints counted used here

pub returns-then-field_above : goal.returns-then-field_above
unfolding figure_checks
returns-then-field_above c = sym
    (first-refuses _ _ (sym (limit c.args.grid.bytes.now c.args.grid.size.header c.args.grid.size.nodes c.args.grid.size.constraints c.args.grid.counted c.field_above.ensures) ∙ c.if-field_above.true))

pub returns-then-factor_bad_in : goal.returns-then-factor_bad_in
unfolding figure_checks
returns-then-factor_bad_in c = sym
    (first_passes _ _ (sym (limit c.args.grid.bytes.now c.args.grid.size.header c.args.grid.size.nodes c.args.grid.size.constraints c.args.grid.counted c.field_above.ensures) ∙ c.if-field_above.false)
    ∙ first-refuses _ _ (sym c.factor_bad_in.ensures ∙ c.if-factor_bad_in.true))

pub returns-then-field-ne0 : goal.returns-then-field-ne0
unfolding figure_checks
returns-then-field-ne0 c = sym (first_passes _ _ (sym (limit c.args.grid.bytes.now c.args.grid.size.header c.args.grid.size.nodes c.args.grid.size.constraints c.args.grid.counted c.field_above.ensures)
    ∙ c.if-field_above.false)
    ∙ first_passes _ _ (sym c.factor_bad_in.ensures ∙ c.if-factor_bad_in.false)
    ∙ first-refuses _ _ (differs _ _ (rw
    (pad c.args.grid.bytes.now c.args.grid.size.header c.args.grid.size.nodes c.args.grid.size.constraints c.args.grid.counted _ _ c.used_bits-used.ensures.0 c.field.ensures.0) at c.if-field-ne0.true)))

pub returns-then-limits-size : goal.returns-then-limits-size
unfolding figure_checks
returns-then-limits-size c =
    sym (first_passes _ _ (sym (limit c.args.grid.bytes.now c.args.grid.size.header c.args.grid.size.nodes c.args.grid.size.constraints c.args.grid.counted c.field_above.ensures) ∙ c.if-field_above.false)
    ∙ first_passes _ _ (sym c.factor_bad_in.ensures ∙ c.if-factor_bad_in.false)
    ∙ first_passes _ _ (same _ _ (sym (pad c.args.grid.bytes.now c.args.grid.size.header c.args.grid.size.nodes c.args.grid.size.constraints c.args.grid.counted _ _ c.used_bits-used.ensures.0 c.field.ensures.0)
    ∙ c.if-field-ne0.false))
    ∙ first-refuses _ _ (lt-ltb _ _ (rw c.args.grid.counted.constraints at c.if-limits-size.true)))

pub returns-then-factors : goal.returns-then-factors
unfolding figure_checks
returns-then-factors c =
    sym (first_passes _ _ (sym (limit c.args.grid.bytes.now c.args.grid.size.header c.args.grid.size.nodes c.args.grid.size.constraints c.args.grid.counted c.field_above.ensures) ∙ c.if-field_above.false)
    ∙ first_passes _ _ (sym c.factor_bad_in.ensures ∙ c.if-factor_bad_in.false)
    ∙ first_passes _ _ (same _ _ (sym (pad c.args.grid.bytes.now c.args.grid.size.header c.args.grid.size.nodes c.args.grid.size.constraints c.args.grid.counted _ _ c.used_bits-used.ensures.0 c.field.ensures.0)
    ∙ c.if-field-ne0.false))
    ∙ first_passes _ _ (le-ltb _ _ (rw c.args.grid.counted.constraints at c.if-limits-size.false))
    ∙ first-refuses _ _ (lt-ltb _ _ (rw (c.factors.ensures.0, c.args.grid.counted.nodes, c.args.grid.counted.constraints) at c.if-factors.true)))

pub returns : goal.returns
unfolding figure_checks
returns c = sym (first_passes _ _ (sym (limit c.args.grid.bytes.now c.args.grid.size.header c.args.grid.size.nodes c.args.grid.size.constraints c.args.grid.counted c.field_above.ensures)
    ∙ c.if-field_above.false)
    ∙ first_passes _ _ (sym c.factor_bad_in.ensures ∙ c.if-factor_bad_in.false)
    ∙ first_passes _ _ (same _ _ (sym (pad c.args.grid.bytes.now c.args.grid.size.header c.args.grid.size.nodes c.args.grid.size.constraints c.args.grid.counted _ _ c.used_bits-used.ensures.0 c.field.ensures.0)
    ∙ c.if-field-ne0.false))
    ∙ first_passes _ _ (le-ltb _ _ (rw c.args.grid.counted.constraints at c.if-limits-size.false))
    ∙ last-passes _ (le-ltb _ _ (rw (c.factors.ensures.0, c.args.grid.counted.nodes, c.args.grid.counted.constraints) at c.if-factors.false)))
