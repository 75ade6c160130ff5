-- The invariant of `date_text::put_table`.
use Prim.Native.Nat.{◌*◌, ◌≤◌}
use Rattle.text_format.specs.Inner.{Puts}
use Rattle.date_text.proofs.Lines.{lines_to}
use Rattle.date_text.proofs.put_table.Given as goal

abbrev pub invariant-loop-k : goal.invariant-loop-k
invariant-loop-k l = Puts l.initial.text (lines_to l.k) l.text × (l.text.at ≤ 4 * l.k)
