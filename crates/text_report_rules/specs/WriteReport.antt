-- Writing the feasibility report of a grid's file and a book's file into lent bytes.
use Rattle.std.specs.Prelude.{List, [], ◌∷◌, ℕ, length}
use Rattle.lists.specs.Lent.{Lent, before, after}
use Rattle.tariff.specs.Refusals.{Checked}
use Rattle.tariff.specs.Refusals.{Check, first}
use Rattle.tariff.specs.Checks.{short_table}
use Rattle.layouts.specs.Writing.{WriteAnswer}
use Rattle.layouts.specs.Writing.{Writes, WritesForC}
use Rattle.text_files.specs.WithFiles.{with_grid, with_book}
use Rattle.text_report_rules.specs.Report.{report_lines}

-- the text for every two files
unfoldable pub report : List ℕ → List ℕ → List ℕ
report grid_file book_file = with_grid grid_file (λ g. with_book g.factors.nodes book_file (report_lines g))

-- a place of so many bytes holds every report
abbrev pub report_room : ℕ
report_room = 2048

-- the two files, and the place for the text as it is at entry
pub record ReportCall : Type 0 where
  pub grid : List ℕ
  pub book : List ℕ
  pub place : List ℕ

abbrev pub report_call : List ℕ → List ℕ → List ℕ → ReportCall
report_call grid book place = record { grid = grid; book = book; place = place }

module _ (q : ReportCall) where
  -- 9 for the place alone: a file that is turned down is told by the text
  unfoldable pub report_checks : List Check
  report_checks = short_table (length q.place) report_room ∷ []

  abbrev pub report_checked : Checked
  report_checked = first report_checks

  abbrev pub report_written : List ℕ
  report_written = report q.grid q.book

-- the promise: the answer, and the place at exit
abbrev pub WritesReport : ReportCall → WriteAnswer → List ℕ → Type 0
WritesReport q answer exit = Writes (report_checked q) (report_written q) q.place answer exit

abbrev pub WritesReportForC : ReportCall → ℕ → List ℕ → Lent ℕ → Type 0
WritesReportForC q number exit bytes = WritesForC (report_checked q) (report_written q) q.place (before bytes) number exit (after bytes)
