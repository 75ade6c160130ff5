-- The invariant of `text_report_figures::put_numbers`.
use Prim.Native.Nat.{◌+◌, ◌*◌, ◌≤◌}
use Rattle.text_format.specs.Inner.{Puts}
use Rattle.text_report_rules.specs.Report.{numbers_to}
use Rattle.text_report_rules.specs.Inner.{in_set, member_room}
use Rattle.text_report_figures.proofs.put_numbers.Given as goal

abbrev pub invariant-loop-k : goal.invariant-loop-k
invariant-loop-k l = Puts l.initial.text (numbers_to l.k (in_set l.set)) l.text × (l.text.at ≤ l.initial.text.at + member_room * l.k)
