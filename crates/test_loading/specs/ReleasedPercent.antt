-- The released share of a process by its number (001, 8.3; 003, 36.4.1), so that no caller writes a rule's figure down again.
use Rattle.std.specs.Prelude.{◌≡◌, List, [], ◌∷◌, ℕ, pos, Ok, Err, Result}
use Rattle.lists.specs.Lent.{Lent, before, after}
use Rattle.tariff.specs.Refusals.{Checked}
use Rattle.tariff.specs.Processes.{process_of, percent}
use Rattle.tariff.specs.Refusals.{Check, first, Outcome, given, refused_by, answered, cell_after, number_after}
use Rattle.tariff.specs.Checks.{process_number}
use Rattle.tariff.specs.declared.refusals.Refusal.{Refusal}

-- the released share in percent, or the refusal
abbrev pub PercentAnswer : Type 0
PercentAnswer = Result ℕ Refusal

-- the share in percent
abbrev pub percent_outcome : PercentAnswer → Outcome
percent_outcome (Ok share) = given (pos share ∷ [])
percent_outcome (Err r) = refused_by r

module _ (process : ℕ) where
  -- "16: process not 0 to 2"
  unfoldable pub percent_checks : List Check
  percent_checks = process_number process ∷ []

  abbrev pub percent_checked : Checked
  percent_checked = first percent_checks

  -- the promise
  pub record ReleasesPercent (answer : PercentAnswer) : Type 0 where
    pub percent-given : percent_outcome answer ≡ answered percent_checked (pos (percent (process_of process)) ∷ [])

  -- the same for C
  pub record ReleasesPercentForC (number : ℕ) (share : Lent ℕ) : Type 0 where
    pub refusal-number : number ≡ number_after percent_checked
    pub percent-given : after share ≡ cell_after percent_checked (percent (process_of process)) (before share)
