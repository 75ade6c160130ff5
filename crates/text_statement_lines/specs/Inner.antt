-- The statement's lines as they are put one behind the other, by a table of cents and one of sets.
use Rattle.std.specs.Prelude.{List, [], ◌++◌, ℕ, zero, suc, ◌+◌, ◌*◌, get_or, ℤ, pos}
use Rattle.std.specs.Int.Count.{ones}
use Rattle.tariff.specs.declared.contracts.Period.{Period}
use Rattle.tariff.specs.declared.contracts.Contract.{Contract}
use Rattle.tariff.specs.Units.{max_contracts}
use Rattle.tariff.specs.Inner.{max_cents}
use Rattle.layouts.specs.BookFile.{contract_in}
use Rattle.hour_rules.specs.declared.Totals.{Totals}
use Rattle.text_statement_lines.specs.declared.book.SettledBook.{SettledBook}
use Rattle.text_statement_lines.specs.Lines.{heading, line_of, sum_line, exact_line}

-- the largest totals that are told in a line
abbrev pub max_line_total : ℕ
max_line_total = (max_cents + 1) * max_contracts

-- the lines of contracts 0 to m − 1
unfoldable pub lines_to : Period → (ℕ → Contract) → List ℤ → List ℕ → ℕ → List ℕ
lines_to t f cells sets zero = []
lines_to t f cells sets (suc m) = lines_to t f cells sets m ++ line_of t m (f m) (get_or cells m (pos 0)) (ones (get_or sets m 0))

-- those of a settled book
abbrev pub lines_by : Period → SettledBook → List ℕ
lines_by t b = lines_to t (contract_in b.contracts.form b.contracts.file.now) b.cents.now b.priced.now b.contracts.count

unfoldable pub settled_lines_of : Period → SettledBook → Totals → List ℕ
settled_lines_of t b r = heading ++ lines_by t b ++ sum_line r.sum ++ exact_line r.whole r.parts
