-- What writing a file promises, whichever file it is.
use Rattle.std.specs.Prelude.{◌≡◌, List, [], ◌∷◌, ℕ, length, pos, Ok, Err, Result}
use Rattle.lists.specs.Lent.{overwrite}
use Rattle.tariff.specs.Refusals.{Checked}
use Rattle.tariff.specs.Refusals.{Outcome, given, refused_by, answered, cells_after, cell_after, number_after}
use Rattle.tariff.specs.declared.refusals.Refusal.{Refusal}

-- what writing a file answers: its length, or the refusal
abbrev pub WriteAnswer : Type 0
WriteAnswer = Result ℕ Refusal

-- a writer's answer by the paper's figures: the length written
abbrev pub write_outcome : WriteAnswer → Outcome
write_outcome (Ok n) = given (pos n ∷ [])
write_outcome (Err r) = refused_by r

-- by what the checks found: the answer gives the file's length, and the place holds its bytes at the front
pub record Writes (checked : Checked) (file place : List ℕ) (answer : WriteAnswer) (exit : List ℕ) : Type 0 where
  pub length-given : write_outcome answer ≡ answered checked (pos (length file) ∷ [])
  pub bytes-written : exit ≡ cells_after checked file place

-- the same for C: the refusal's number, and the length in a lent figure
pub record WritesForC (checked : Checked) (file place : List ℕ) (bytes : ℕ) (number : ℕ) (exit : List ℕ) (bytes-exit : ℕ) : Type 0 where
  pub refusal-number : number ≡ number_after checked
  pub bytes-written : exit ≡ cells_after checked file place
  pub length-given : bytes-exit ≡ cell_after checked (length file) bytes

-- the file was written: its length is given, its bytes stand at the front of the place, and the others are as they were
pub record IsWritten (file place : List ℕ) (answer : WriteAnswer) (exit : List ℕ) : Type 0 where
  pub length-is : answer ≡ Ok (length file)
  pub bytes-are : exit ≡ overwrite file place
