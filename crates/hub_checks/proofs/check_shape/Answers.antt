-- `check_shape`: 24, 25.
use mathlib.Core.Path.{sym, ◌∙◌}
use Rattle.tariff.proofs.Checks.{first-refuses, first_passes, last-passes}
use Rattle.hub_checks.proofs.check_shape.Goals as goal

pub returns-then-shape_bad : goal.returns-then-shape_bad
returns-then-shape_bad c = sym (first-refuses _ _ (sym c.shape_bad.ensures ∙ c.if-shape_bad.true))

pub returns-then-listed_twice : goal.returns-then-listed_twice
returns-then-listed_twice c =
    let s = c in
    sym (first_passes _ _ (sym s.shape_bad.ensures ∙ s.if-shape_bad.false) ∙ first-refuses _ _ (sym c.listed_twice.ensures ∙ c.if-listed_twice.true))

pub returns : goal.returns
returns c =
    let s = c in
    sym (first_passes _ _ (sym s.shape_bad.ensures ∙ s.if-shape_bad.false) ∙ last-passes _ (sym c.listed_twice.ensures ∙ c.if-listed_twice.false))
