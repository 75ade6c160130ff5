-- Writing the sentence of a refusal's number into lent bytes. Beyond the papers, which have no such
-- operation; 9, for a place that is too short, is theirs (document 01, "When input is turned down").
use Rattle.std.specs.Prelude.{List, [], ◌∷◌, ℕ, length}
use Rattle.lists.specs.Lent.{Lent, before, after}
use Rattle.tariff.specs.Refusals.{Checked}
use Rattle.tariff.specs.Refusals.{Check, first}
use Rattle.tariff.specs.Checks.{short_table}
use Rattle.layouts.specs.Writing.{WriteAnswer}
use Rattle.layouts.specs.Writing.{Writes, WritesForC}
use Rattle.text_refusals.specs.Sentences.{meaning}

-- a place of so many bytes holds every sentence
abbrev pub text_room : ℕ
text_room = 128

-- the number, and the place for its sentence as it is at entry
pub record TextCall : Type 0 where
  pub number : ℕ
  pub place : List ℕ

abbrev pub text_call : ℕ → List ℕ → TextCall
text_call number place = record { number = number; place = place }

module _ (q : TextCall) where
  -- 9 where the sentence does not fit
  unfoldable pub text_checks : List Check
  text_checks = short_table (length q.place) (length (meaning q.number)) ∷ []

  abbrev pub text_checked : Checked
  text_checked = first text_checks

-- the promise: the sentence's length, and the place at exit
abbrev pub WritesText : TextCall → WriteAnswer → List ℕ → Type 0
WritesText q answer exit = Writes (text_checked q) (meaning q.number) q.place answer exit

abbrev pub WritesTextForC : TextCall → ℕ → List ℕ → Lent ℕ → Type 0
WritesTextForC q number exit bytes = WritesForC (text_checked q) (meaning q.number) q.place (before bytes) number exit (after bytes)
