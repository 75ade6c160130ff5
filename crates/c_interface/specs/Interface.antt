-- The interface's number. Beyond the papers: a program that loads the library compares it with the
-- number of the header that it was made with, so that no call is made by another's declarations.
use Rattle.std.specs.Prelude.{◌≡◌, ℕ}

abbrev pub interface : ℕ
interface = 2

-- the promise: the number is the interface's
pub record TellsInterface (number : ℕ) : Type 0 where
  pub number-told : number ≡ interface
