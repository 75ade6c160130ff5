-- THE THEOREM of document 02, paper 9, on testing: "The same test and prices hold at both widths". For contracts that fit both forms.
use mathlib.Core.Path.{◌≡◌, sym, ap, ◌∙◌}
use mathlib.Core.List.{List}
use Prim.Native.Nat.{ℕ, ◌≤◌}
use lib.ListN.{length}
use lib.IntN.{ℤ}
use Rattle.lists.specs.Lists.{Each}
use Rattle.tariff.specs.declared.contracts.Contract.{Contract}
use Rattle.std.specs.Prelude.{Err}
use Rattle.tariff.specs.Units.{max_contracts}
use Rattle.tariff.specs.ContractRules.{period_of, of_period}
use Rattle.tariff.specs.Refusals.{first, decided, answered}
use Rattle.tariff.proofs.Checks.{first-append}
use Rattle.layouts.specs.declared.forms.Form.{Form}
use Rattle.layouts.specs.declared.forms.Form.TheVariants.{Narrow, Wide}
use Rattle.layouts.specs.BookFile.{book_file, book_in}
use Rattle.layouts.specs.BookTable.{ContractFits}
use Rattle.grid_tables.specs.TableChecks.{grid_table_checks}
use Rattle.book_rules.specs.BookChecks.{book_checks}
use Rattle.book_rules.proofs.Theorems.{both-forms_alike, both-forms_checked_alike}
use Rattle.test_rules.specs.TestBook.{TestAnswer}
use Rattle.test_rules.specs.TestBook.{TestCall, test_outcome, test_checks, test_checked, tested_grid, tested_process, test_values, TestsBook}
use Rattle.test_rules.specs.Theorems.{test_of}

module _ (n k process period : ℕ) (limits : List ℕ) (factors : List ℤ) (cs : List Contract) (few : length cs ≤ max_contracts) (fits : Each (ContractFits 8) cs) where
  abbrev tested : Form → TestCall
  tested = test_of n k process period limits factors cs

  checked_alike : test_checked (tested Narrow) ≡ test_checked (tested Wide)
  unfolding test_checks
  checked_alike =
      let tables = grid_table_checks n k process period limits factors in
      first-append tables (book_checks n (book_file Narrow cs)) ∙ ap (decided (first tables) Err) (both-forms_checked_alike cs few fits n)
      ∙ sym (first-append tables (book_checks n (book_file Wide cs)))

  contracts-alike : book_in (book_file Narrow cs) ≡ book_in (book_file Wide cs)
  contracts-alike = (both-forms_alike cs few fits).0 ∙ sym (both-forms_alike cs few fits).1

  -- whatever the test answers on the two, its outcome is the same
  pub tested_alike : (a b : TestAnswer) → TestsBook (test_of n k process period limits factors cs Narrow) a
      → TestsBook (test_of n k process period limits factors cs Wide) b → test_outcome a ≡ test_outcome b
  tested_alike a b narrow wide =
      narrow.figures
      ∙ (λ t. answered (checked_alike t) (test_values (tested_grid (tested Narrow)) (tested_process (tested Narrow)) (of_period (period_of period) (contracts-alike t))))
      ∙ sym wide.figures
