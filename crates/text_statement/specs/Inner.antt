-- The statement's text from where a grid is accepted on, and from where a book is too.
use Rattle.std.specs.Prelude.{List, ℕ}
use Rattle.tariff.specs.declared.contracts.Contract.{Contract}
use Rattle.tariff.specs.Units.{Factors}
use Rattle.text_files.specs.WithFiles.{with_book, with_prices}
use Rattle.text_statement_lines.specs.Lines.{lines}

abbrev pub priced_text : Factors → List Contract → List ℕ → List ℕ
priced_text f book price_file = with_prices f.constraints price_file (λ t p. lines f p t book)

abbrev pub booked_text : Factors → List ℕ → List ℕ → List ℕ
booked_text f book_file price_file = with_book f.nodes book_file (λ book. priced_text f book price_file)
