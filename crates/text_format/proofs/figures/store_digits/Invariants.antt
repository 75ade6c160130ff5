-- The invariant of `text_format::figures.store_digits`.
use mathlib.Core.Path.{◌≡◌}
use Prim.Native.Nat.{◌≤◌}
use lib.ListN.{length}
use lib.Seq.{sets}
use Rattle.text_format.specs.Decimal.{decimal}
use Rattle.text_format.proofs.Digits.{left}
use Rattle.text_format.proofs.figures.store_digits.Given as goal

abbrev pub invariant-loop-k : goal.invariant-loop-k
invariant-loop-k l = (l.rest ≤ l.n) × (length l.place ≡ length l.initial.place) × (length (left l.k l.rest) ≡ l.k) × (sets l.place 0 (left l.k l.rest) ≡ decimal l.n)
