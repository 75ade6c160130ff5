-- `book_form`.
use mathlib.Core.Path.{sym, ◌∙◌}
use Rattle.layouts.specs.declared.forms.Form.TheVariants.{Wide}
use Rattle.layouts.proofs.BookFile.{form-is, form-narrow}
use Rattle.book_bits.proofs.book_form.Goals as goal

pub returns-then-spare_bits-eq63 : goal.returns-then-spare_bits-eq63
returns-then-spare_bits-eq63 c = sym (form-is Wide c.args.file.now (sym c.spare_bits.ensures ∙ c.if-spare_bits-eq63.true))

pub returns-else-spare_bits-eq63 : goal.returns-else-spare_bits-eq63
returns-else-spare_bits-eq63 c = sym (form-narrow c.args.file.now (λ e. c.if-spare_bits-eq63.false (c.spare_bits.ensures ∙ e)))
