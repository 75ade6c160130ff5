-- `form_in`: by the node field and the spare bit.
use mathlib.Core.Path.{sym, ◌∙◌}
use Rattle.layouts.proofs.GridHeader.{form-is_wide, form-by_nodes, form-by_spare}
use Rattle.grid_checks.proofs.form_in.Goals.{else-field-eq0-via-then-field-eq0+else-field-eq1, else-field-eq0-via-else-field-eq0}
use Rattle.grid_checks.proofs.form_in.Goals as goal

pub returns-then-field-eq1 : goal.returns-then-field-eq1
returns-then-field-eq1 c = form-is_wide _ (sym c.field.ensures.0 ∙ c.if-field-eq0.true) (sym c.field-then-field-eq0.ensures.0 ∙ c.if-field-eq1.true)

pub returns-else-field-eq0 : goal.returns-else-field-eq0
returns-else-field-eq0 c =
    elim c.else-field-eq0.branch [
      | else-field-eq0-via-then-field-eq0+else-field-eq1 w ↦ form-by_spare _ (λ e. w.if-field-eq1.false (w.field-then-field-eq0.ensures.0 ∙ e))
      | else-field-eq0-via-else-field-eq0 w ↦ form-by_nodes _ (λ e. w.if-field-eq0.false (c.field.ensures.0 ∙ e))
    ]
