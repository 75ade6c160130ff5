-- The invariant of `canonical_numbers::fill_numbers`.
use Rattle.std.proofs.Common.{◌≡◌, take}
use Rattle.lists.specs.Lists.{list_to}
use Rattle.layouts.specs.BookFile.{contract_in}
use Rattle.canonical_rules.specs.Inner.{row_number}
use Rattle.canonical_numbers.proofs.fill_numbers.Given as goal

abbrev pub invariant-loop-i : goal.invariant-loop-i
invariant-loop-i l = take l.i l.cells ≡ list_to l.i (λ j. row_number (contract_in l.contracts.form l.contracts.file.now j))
