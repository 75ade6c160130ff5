-- `crr_write_statement`.
use mathlib.Core.Path.{◌≡◌, refl, ◌∙◌}
use Prim.Native.Nat.{ℕ}
use Rattle.std.specs.Prelude.{Ok, Err}
use Rattle.tariff.specs.Refusals.{number_in, found_or}
use Rattle.layouts.specs.Writing.{WriteAnswer, write_outcome}
use Rattle.layouts.specs.Inner.{length_after}
use Rattle.layouts.proofs.Writing.{writes_for_c}
use Rattle.c_text.proofs.crr_write_statement.Goals as goal

-- C's figures are the answer's
number-is : (answer : WriteAnswer) → number_in answer ≡ (write_outcome answer).number
number-is (Ok n) = refl
number-is (Err r) = refl

length_is : (answer : WriteAnswer) (entry : ℕ) → found_or answer entry ≡ length_after answer entry
length_is (Ok n) entry = refl
length_is (Err r) entry = refl

pub returns : goal.returns
returns c = writes_for_c _ _ _ _ _ c.write_statement-answer.ensures _ _ _ (c.answer_cell.ensures.number ∙ number-is c.write_statement-answer.result) (c.answer_cell.ensures.cell ∙ length_is c.write_statement-answer.result _)
