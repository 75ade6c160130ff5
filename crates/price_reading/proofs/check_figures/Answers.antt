-- `price_reading::check_figures`: each return by the tests that led there.
use mathlib.Core.Path.{◌≡◌, sym, ap, ◌∙◌}
use mathlib.Core.List.{List}
use Prim.Native.Nat.{ℕ, ◌-◌, ◌*◌}
use lib.ListN.{length}
use Rattle.bits.specs.Bits.{field}
use borrow.Author.Tests.{lt-ltb, le-ltb}
use Rattle.tariff.proofs.Checks.{first_passes, first-refuses, differs, same, last-passes}
use Rattle.layouts.specs.PriceFile.{price_bits, price_bytes, prices_in, price_pad_in}
use Rattle.price_reading.proofs.check_figures.Goals as goal

-- the bits behind the prices are the padding
padded : (k : ℕ) (s : List ℕ) {bits : ℕ} → bits ≡ field s (price_bits k) (8 * length s - price_bits k) → length s ≡ price_bytes k → bits ≡ price_pad_in k s
padded k s is size = is ∙ ap (λ (n : ℕ). field s (price_bits k) (8 * n - price_bits k)) size

pub returns-then-field_above : goal.returns-then-field_above
unfolding prices_in
returns-then-field_above c = sym (first-refuses _ _ (sym c.field_above.ensures ∙ c.if-field_above.true))

pub returns-then-field-ne0 : goal.returns-then-field-ne0
unfolding prices_in
returns-then-field-ne0 c =
    sym (first_passes _ _ (sym c.field_above.ensures ∙ c.if-field_above.false)
    ∙ first-refuses _ _ (differs _ _ (rw (padded c.args.constraints c.args.file.now c.field.ensures.0 c.requires.1) at c.if-field-ne0.true)))

pub returns-then-prices-constraints : goal.returns-then-prices-constraints
unfolding prices_in
returns-then-prices-constraints c =
    sym (first_passes _ _ (sym c.field_above.ensures ∙ c.if-field_above.false)
    ∙ first_passes _ _ (same _ _ (sym (padded c.args.constraints c.args.file.now c.field.ensures.0 c.requires.1) ∙ c.if-field-ne0.false))
    ∙ first-refuses _ _ (lt-ltb _ _ c.if-prices-constraints.true))

pub returns : goal.returns
unfolding prices_in
returns c =
    sym (first_passes _ _ (sym c.field_above.ensures ∙ c.if-field_above.false)
    ∙ first_passes _ _ (same _ _ (sym (padded c.args.constraints c.args.file.now c.field.ensures.0 c.requires.1) ∙ c.if-field-ne0.false))
    ∙ last-passes _ (le-ltb _ _ c.if-prices-constraints.false))
