-- What the theorem on settling at both widths (document 02, paper 9) speaks of.
use Rattle.std.specs.Prelude.{◌≡◌, List, ℕ, ℤ}
use Rattle.tariff.specs.declared.contracts.Contract.{Contract}
use Rattle.layouts.specs.declared.forms.Form.{Form}
use Rattle.layouts.specs.BookFile.{book_file}
use Rattle.lists.specs.Lent.{Lent, after}
use Rattle.hour_rules.specs.SettleHour.{SettleAnswer}
use Rattle.hour_rules.specs.SettleHour.{HourCall, hour_call, settle_outcome}

-- two hours settled alike: the answer, the cents and the sets
pub record SettledAlike (a b : SettleAnswer) (cents cents₂ : Lent (List ℤ)) (sets sets₂ : Lent (List ℕ)) : Type 0 where
  pub outcome : settle_outcome a ≡ settle_outcome b
  pub cents-alike : after cents ≡ after cents₂
  pub sets-alike : after sets ≡ after sets₂

-- a call with the contracts' file in a form
abbrev pub hour_for : ℕ → ℕ → ℕ → List ℤ → List ℕ → List Contract → Form → HourCall
hour_for n k period factors prices cs f = hour_call n k period factors prices (book_file f cs)
