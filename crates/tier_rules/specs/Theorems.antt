-- Document 02, paper 4: what the theorems say of the awards held as a book.
use Rattle.std.specs.Prelude.{◌≡◌, List, [], ℕ, ◌<◌, Ok}
use Rattle.tariff.specs.declared.contracts.Contract.{Contract}
use Rattle.tariff.specs.Refusals.{passed}
use Rattle.layouts.specs.declared.forms.Form.{Form}
use Rattle.layouts.specs.Forms.{ends_below_of}
use Rattle.layouts.specs.BookFile.{book_in}
use Rattle.test_rules.specs.TestBook.{TestCall, test_checked, test_values, tested_grid, tested_process, tested_contracts}

-- ends that a book in the form can have for n nodes: in a narrow one none above 255
pub record EndsFit (f : Form) (n : ℕ) (c : Contract) : Type 0 where
  pub source_fits : c.source < ends_below_of f n
  pub sink-fits : c.sink < ends_below_of f n

-- a book of awards that the test accepts and passes
pub record HeldBook (q : TestCall) (awards : List Contract) : Type 0 where
  pub accepted : test_checked q ≡ passed
  pub reads_back : book_in q.book ≡ awards
  pub passes : test_values (tested_grid q) (tested_process q) (tested_contracts q) ≡ []
