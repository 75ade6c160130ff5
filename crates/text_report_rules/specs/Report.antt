-- The feasibility report's text: a heading and a line for each period and process.
use Rattle.std.specs.Prelude.{Bool, cond, List, [], ◌++◌, ℕ, zero, suc, eqb, length}
use Rattle.text_format.specs.Ascii.{ascii}
use Rattle.text_format.specs.Decimal.{decimal, decimal_z}
use Rattle.tariff.specs.declared.contracts.Contract.{Contract}
use Rattle.tariff.specs.declared.contracts.Period.{Period}
use Rattle.tariff.specs.declared.contracts.Period.TheVariants.{OffPeak, OnPeak}
use Rattle.tariff.specs.declared.processes.Process.{Process}
use Rattle.tariff.specs.declared.processes.Process.TheVariants.{Annual, TierLt, Monthly}
use Rattle.tariff.specs.Units.{Grid}
use Rattle.tariff.specs.ContractRules.{of_period}
use Rattle.tariff.specs.Feasibility.{excess, overloaded, overload_set, overload_count, lowest_overload}

abbrev pub report_heading : List ℕ
report_heading = ascii "period,process,verdict,overloaded,lowest,excess,constraints\n"

abbrev pub period_word : Period → List ℕ
period_word OffPeak = ascii "off-peak"
period_word OnPeak = ascii "on-peak"

abbrev pub process_word : Process → List ℕ
process_word Annual = ascii "annual"
process_word TierLt = ascii "lt"
process_word Monthly = ascii "monthly"

-- a blank behind what stands there already
unfoldable pub blank_after : List ℕ → List ℕ
blank_after text = cond (eqb (length text) 0) [] (ascii " ")

-- the numbers below n that f holds of, separated by blanks
unfoldable pub numbers_to : ℕ → (ℕ → Bool) → List ℕ
numbers_to zero f = []
numbers_to (suc k) f = numbers_to k f ++ cond (f k) (blank_after (numbers_to k f) ++ decimal k) []

module _ (g : Grid) (process : Process) (cs : List Contract) where
  -- verdict, count, lowest, excess, constraints
  unfoldable pub figures : List ℕ
  figures =
      cond (eqb (overload_set g process cs) 0) (ascii "pass,0,,,")
      (ascii "fail," ++ decimal (overload_count g process cs) ++ ascii "," ++ decimal (lowest_overload g process cs) ++ ascii ","
      ++ decimal_z (excess g process cs (lowest_overload g process cs)) ++ ascii "," ++ numbers_to g.factors.constraints (overloaded g process cs))

unfoldable pub line : Grid → List Contract → Period → Process → List ℕ
line g book period process = period_word period ++ ascii "," ++ process_word process ++ ascii "," ++ figures g process (of_period period book) ++ ascii "\n"

unfoldable pub period_lines : Grid → List Contract → Period → List ℕ
period_lines g book period = line g book period Annual ++ line g book period TierLt ++ line g book period Monthly

unfoldable pub report_lines : Grid → List Contract → List ℕ
report_lines g book = report_heading ++ period_lines g book OffPeak ++ period_lines g book OnPeak
