-- `crr_add_hub_contract`.
use mathlib.Core.Path.{◌≡◌, refl, ◌∙◌}
use Prim.Native.Nat.{ℕ}
use Rattle.std.specs.Prelude.{Ok, Err}
use Rattle.tariff.specs.Refusals.{number_in, found_or}
use Rattle.layouts.specs.Inner.{length_after}
use Rattle.layouts.specs.Writing.{WriteAnswer, write_outcome}
use Rattle.layouts.proofs.Writing.{writes_for_c}
use Rattle.c_hub_book.proofs.crr_add_hub_contract.Goals as goal

number_told : (answer : WriteAnswer) → number_in answer ≡ (write_outcome answer).number
number_told (Ok n) = refl
number_told (Err r) = refl

length_told : (answer : WriteAnswer) (bytes : ℕ) → found_or answer bytes ≡ length_after answer bytes
length_told (Ok n) bytes = refl
length_told (Err r) bytes = refl

pub returns : goal.returns
returns c =
    let w = c.add_hub_contract-answer in
    let told = c.answer_cell.ensures in
    writes_for_c _ _ _ _ _ w.ensures _ _ _ (told.number ∙ number_told w.result) (told.cell ∙ length_told w.result _)
