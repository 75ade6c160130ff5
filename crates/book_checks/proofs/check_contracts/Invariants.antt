-- The invariants and measures of `book_checks::check_contracts`.
use mathlib.Core.Path.{◌≡◌}
use Rattle.tariff.specs.Refusals.{first, passed}
use Rattle.layouts.specs.BookFile.{contract_in}
use Rattle.book_rules.specs.BookChecks.{checks_to, contract_checks}
use Rattle.book_checks.proofs.check_contracts.Given as goal

abbrev pub invariant-loop-i : goal.invariant-loop-i
invariant-loop-i l = first (checks_to l.i (λ j. contract_checks l.nodes (contract_in l.contracts.form l.contracts.file.now j))) ≡ passed
