-- `check_terms`: each return by the tests that led there.
use mathlib.Core.Path.{sym, ◌∙◌}
use Rattle.tariff.proofs.Checks.{first-refuses, last-passes}
use Rattle.hub_book.proofs.Checking.{kind-refused, period-refused, holder-refused, nodes-refused, sink-refused, ends-good}
use Rattle.hub_book.proofs.check_terms.Goals as goal

pub returns-then-terms-gt1 : goal.returns-then-terms-gt1
returns-then-terms-gt1 c = kind-refused _ _ _ _ c.if-terms-gt1.true

pub returns-then-terms-gt1-2 : goal.returns-then-terms-gt1-2
returns-then-terms-gt1-2 c = period-refused _ _ _ _ c.if-terms-gt1.false c.if-terms-gt1-2.true

pub returns-then-terms-gt-MAX_HOLDER : goal.returns-then-terms-gt-MAX_HOLDER
returns-then-terms-gt-MAX_HOLDER c = holder-refused _ _ _ _ c.if-terms-gt1.false c.if-terms-gt1-2.false c.if-terms-gt-MAX_HOLDER.true

pub returns-then-listed_outside : goal.returns-then-listed_outside
returns-then-listed_outside c =
    nodes-refused _ _ _ _ c.if-terms-gt1.false c.if-terms-gt1-2.false c.if-terms-gt-MAX_HOLDER.false (sym c.listed_outside.ensures ∙ c.if-listed_outside.true)

pub returns-then-below-terms : goal.returns-then-below-terms
returns-then-below-terms c =
    let listed = sym c.listed_outside.ensures ∙ c.if-listed_outside.false in
    sink-refused _ _ _ _ c.if-terms-gt1.false c.if-terms-gt1-2.false c.if-terms-gt-MAX_HOLDER.false listed c.if-below-terms.true

-- past the fifth only the quantity's check is left
pub returns-then-quantity_bad : goal.returns-then-quantity_bad
returns-then-quantity_bad c =
    let a = c.args in
    let listed = sym c.listed_outside.ensures ∙ c.if-listed_outside.false in
    let left = ends-good a.below a.terms a.hub.now a.quantity c.if-terms-gt1.false c.if-terms-gt1-2.false c.if-terms-gt-MAX_HOLDER.false listed c.if-below-terms.false in
    sym (left ∙ first-refuses _ _ (sym c.quantity_bad.ensures ∙ c.if-quantity_bad.true))

pub returns : goal.returns
returns c =
    let a = c.args in
    let listed = sym c.listed_outside.ensures ∙ c.if-listed_outside.false in
    let left = ends-good a.below a.terms a.hub.now a.quantity c.if-terms-gt1.false c.if-terms-gt1-2.false c.if-terms-gt-MAX_HOLDER.false listed c.if-below-terms.false in
    sym (left ∙ last-passes _ (sym c.quantity_bad.ensures ∙ c.if-quantity_bad.false))
