-- The invariant of `book_growth::keep_contracts`: the bytes passed are the book's, those behind are as they were.
use mathlib.Core.Path.{◌≡◌}
use lib.ListN.{length, take, drop}
use Rattle.book_growth.proofs.keep_contracts.Given as goal

abbrev pub invariant-loop-i : goal.invariant-loop-i
invariant-loop-i l = (length l.file ≡ length l.initial.file) × (take l.i l.file ≡ take l.i l.book) × (drop l.i l.file ≡ drop l.i l.initial.file)
