-- The invariant of `text_statement_lines::put_contracts`.
use Prim.Native.Nat.{◌+◌, ◌*◌, ◌≤◌}
use Rattle.text_format.specs.Inner.{Puts}
use Rattle.layouts.specs.BookFile.{contract_in}
use Rattle.text_statement_lines.specs.Lines.{longest_line}
use Rattle.text_statement_lines.specs.Inner.{lines_to}
use Rattle.text_statement_lines.proofs.put_contracts.Given as goal

abbrev pub invariant-loop-i : goal.invariant-loop-i
invariant-loop-i l =
    let b = l.book in
    Puts l.initial.text (lines_to l.period (contract_in b.contracts.form b.contracts.file.now) b.cents.now b.priced.now l.i) l.text
    × (l.text.at ≤ l.initial.text.at + longest_line * l.i)
