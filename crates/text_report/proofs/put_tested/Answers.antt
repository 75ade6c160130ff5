-- `put_tested`.
use mathlib.Core.Path.{sym, ◌∙◌}
use Rattle.text_format.proofs.Putting.{puts_same}
use Rattle.text_files.proofs.WithFiles.{book-refused, book-text}
use Rattle.text_report.proofs.put_tested.Goals as goal

pub returns-in-Err : goal.returns-in-Err
returns-in-Err c = puts_same (book-refused _ _ _ _ (sym c.check_book.ensures ∙ c.in-Err.is)) c.put_refused.ensures

pub returns-in-Ok : goal.returns-in-Ok
returns-in-Ok c = puts_same (book-text _ _ _ (sym c.check_book.ensures ∙ c.in-Ok.is)) c.put_lines.ensures
