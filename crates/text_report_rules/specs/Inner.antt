-- What inner functions and proofs say of the report: its parts as they are put one behind the other, and their longest texts.
use Rattle.std.specs.Prelude.{Bool, cond, List, [], ◌++◌, ℕ, ◌+◌, ◌*◌, ◌/◌, ◌%◌, ◌^◌, eqb, length, ℤ}
use Rattle.text_format.specs.Ascii.{ascii}
use Rattle.text_format.specs.Decimal.{decimal, decimal_z}
use Rattle.tariff.specs.declared.contracts.Period.{Period}
use Rattle.tariff.specs.declared.processes.Process.{Process}
use Rattle.tariff.specs.Units.{max_constraints}
use Rattle.test_rules.specs.declared.Verdict.{Verdict}
use Rattle.test_rules.specs.declared.Verdict.TheVariants.{Pass, Fail}
use Rattle.text_report_rules.specs.Report.{period_word, process_word, numbers_to}

-- bit k of a set
abbrev pub in_set : ℕ → ℕ → Bool
in_set set k = eqb (set / 2 ^ k % 2) 1

-- member k of a list of numbers that begins at place `at`, put at place `next`: a blank before it unless it is the first
unfoldable pub member : ℕ → ℕ → ℕ → List ℕ
member at next k = cond (eqb next at) [] (ascii " ") ++ decimal k

unfoldable pub failed : ℕ → ℕ → ℕ → ℕ → ℤ → List ℕ
failed constraints set count lowest over =
    ascii "fail," ++ decimal count ++ ascii "," ++ decimal lowest ++ ascii "," ++ decimal_z over ++ ascii "," ++ numbers_to constraints (in_set set)

-- the figures of a verdict
abbrev pub answer_figures : ℕ → Verdict → List ℕ
answer_figures constraints Pass = ascii "pass,0,,,"
answer_figures constraints (Fail set count lowest over) = failed constraints set count lowest over.0

-- its line
abbrev pub answer_line : ℕ → Period → Process → Verdict → List ℕ
answer_line constraints period process verdict =
    period_word period ++ ascii "," ++ (process_word process ++ ascii ",") ++ answer_figures constraints verdict ++ ascii "\n"

-- ---- the most characters of each part, where a figure is any of 64 bits

abbrev pub period_room : ℕ
period_room = length (ascii "off-peak,")

abbrev pub process_room : ℕ
process_room = length (ascii "monthly,")

-- a constraint in a list
abbrev pub member_room : ℕ
member_room = length (ascii " 63")

abbrev pub numbers_room : ℕ
numbers_room = max_constraints * member_room

abbrev pub figures_room : ℕ
figures_room = length (ascii "fail,18446744073709551615,18446744073709551615,-18446744073709551615,") + numbers_room

abbrev pub line_room : ℕ
line_room = period_room + process_room + figures_room + length (ascii "\n")

abbrev pub period_lines_room : ℕ
period_lines_room = 3 * line_room
