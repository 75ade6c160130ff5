-- A refusal's number as text, and what an operation's answer says of a text that is its refusal's line or another.
use mathlib.Core.Path.{◌≡◌, sym, ap}
use mathlib.Core.List.{List, ◌++◌}
use Prim.Native.Nat.{ℕ, ◌≤◌}
use native.Mathlib.Omega.{arith}
use lib.ListN.{length}
use lib.IntN.{ℤ}
use Rattle.tariff.specs.declared.refusals.Refusal.{Refusal}
use Rattle.tariff.specs.Refusals.{Checked}
use Rattle.std.specs.Prelude.{Ok, Err}
use Rattle.tariff.specs.Refusals.{Outcome, number_of, refused_by, decided, answered}
use Rattle.tariff.proofs.Answers.{number_is, never_given}
use Rattle.text_format.specs.Ascii.{ascii}
use Rattle.text_format.specs.Decimal.{decimal}
use Rattle.text_format.specs.RefusedLine.{refused_line_of}
use Rattle.text_format.proofs.Digits.{decimal-below}

-- every refusal's number has at most two digits
pub number_short : (n : ℕ) (r : Refusal) → n ≡ number_of r → length (decimal n) ≤ 2
number_short n r e = decimal-below 2 n (omega arith) (rw e (number_is r).two_digits)

-- a refusal was given: the text is its line
pub refused_line : (checked : Checked) (vs : List ℤ) (r : Refusal) → refused_by r ≡ answered checked vs → (file rest : List ℕ) → decided checked (refused_line_of file) rest ≡ refused_line_of file r
unfolding refused_line_of
refused_line (Ok _) vs r e file rest = absurd (never_given r vs e)
refused_line (Err q) vs r e file rest = ap (λ (n : ℕ). ascii "refused," ++ file ++ ascii "," ++ decimal n ++ ascii "\n") (sym (ap (λ (o : Outcome). o.number) e))
