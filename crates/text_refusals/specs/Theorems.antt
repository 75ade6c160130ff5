-- What is proved of the table: a sentence for every refusal, none for a number beyond them, and the room that is enough for any.
use Rattle.std.specs.Prelude.{◌≡◌, [], ℕ, ◌≤◌, ◌<◌, length}
use Rattle.tariff.specs.declared.refusals.Refusal.{Refusal}
use Rattle.tariff.specs.Refusals.{number_of}
use Rattle.text_refusals.specs.Sentences.{meaning}
use Rattle.text_refusals.specs.RefusalText.{text_room}

pub record SentencesTold : Type 0 where
  pub each-refusal : (r : Refusal) → 1 ≤ length (meaning (number_of r))
  pub none-beyond : (n : ℕ) → 27 < n → meaning n ≡ []
  pub none-for_12 : meaning 12 ≡ []
  pub room-enough : (n : ℕ) → length (meaning n) ≤ text_room
