-- What the test's answer says of a line of the report.
use mathlib.Core.Path.{◌≡◌, refl, sym, ap, ◌∙◌}
use mathlib.Core.Bool.{Bool, true, false, cond}
use mathlib.Core.List.{List, [], ◌∷◌, ◌++◌, append_assoc}
use Prim.Native.Nat.{ℕ}
use native.Mathlib.Omega.{arith}
use lib.Dec.{eqb}
use lib.IntN.{ℤ, pos}
use Rattle.text_format.specs.Ascii.{ascii}
use Rattle.text_format.specs.Decimal.{decimal, decimal_z}
use Rattle.tariff.specs.declared.contracts.Contract.{Contract}
use Rattle.tariff.specs.declared.contracts.Period.{Period}
use Rattle.tariff.specs.declared.processes.Process.{Process}
use Rattle.tariff.specs.Refusals.{Outcome, given}
use Rattle.tariff.specs.Units.{Grid, grid_of}
use Rattle.tariff.specs.ContractRules.{of_period}
use Rattle.tariff.specs.Feasibility.{excess, overloaded, overload_set, overload_count, lowest_overload}
use Rattle.layouts.specs.BookFile.{book_in}
use Rattle.test_rules.specs.declared.Verdict.{Verdict}
use Rattle.std.specs.Prelude.{Ok}
use Rattle.test_rules.specs.declared.Verdict.TheVariants.{Pass, Fail}
use Rattle.test_rules.specs.TestBook.{test_outcome, test_values}
use Rattle.test_rules.specs.Inner.{Judges}
use Rattle.text_report_rules.specs.Report.{period_word, process_word, numbers_to, figures, line}
use Rattle.text_report_rules.specs.Inner.{in_set, failed, answer_figures, answer_line}
use Rattle.text_report_rules.proofs.Members.{numbers-set}

-- ---- the answer's figures

module _ (g : Grid) (process : Process) (cs : List Contract) where
  -- where the test fails
  abbrev values : List ℤ
  values = pos (overload_set g process cs) ∷ pos (overload_count g process cs) ∷ pos (lowest_overload g process cs) ∷ excess g process cs (lowest_overload g process cs) ∷ []

  record Failed (set count lowest : ℕ) (over : ℤ) : Type 0 where
    set_is : set ≡ overload_set g process cs
    count-is : count ≡ overload_count g process cs
    lowest-is : lowest ≡ lowest_overload g process cs
    over-is : over ≡ excess g process cs (lowest_overload g process cs)
    some_set : eqb (overload_set g process cs) 0 ≡ false

  fail_values : (b : Bool) → eqb (overload_set g process cs) 0 ≡ b → (set count lowest : ℕ) (over : ℤ)
      → pos set ∷ pos count ∷ pos lowest ∷ over ∷ [] ≡ cond b [] values → Failed set count lowest over
  fail_values true t set count lowest over e = let z : ◌≡◌ {A = ℕ} 0 1 = cc in absurd (omega arith)
  fail_values false t set count lowest over e = record { set_is = cc; count-is = cc; lowest-is = cc; over-is = cc; some_set = t }

  fail_told : (set count lowest : ℕ) (over : ℤ) → given (pos set ∷ pos count ∷ pos lowest ∷ over ∷ []) ≡ given (test_values g process cs) → Failed set count lowest over
  unfolding test_values
  fail_told set count lowest over e = fail_values (eqb (overload_set g process cs) 0) refl set count lowest over (ap (λ (o : Outcome). o.values) e)

  pass_values : (b : Bool) → [] ≡ cond b [] values → b ≡ true
  pass_values true e = refl
  pass_values false e = let z : ◌≡◌ {A = ℕ} 0 1 = cc in absurd (omega arith)

  pass_told : given [] ≡ given (test_values g process cs) → eqb (overload_set g process cs) 0 ≡ true
  unfolding test_values
  pass_told e = pass_values (eqb (overload_set g process cs) 0) (ap (λ (o : Outcome). o.values) e)

  numbers-are : (set : ℕ) → set ≡ overload_set g process cs → numbers_to g.factors.constraints (in_set set) ≡ numbers_to g.factors.constraints (overloaded g process cs)
  unfolding overload_set
  numbers-are set e = ap (λ (s : ℕ). numbers_to g.factors.constraints (in_set s)) e ∙ numbers-set g.factors.constraints (overloaded g process cs)

  answer-figures : (v : Verdict) → test_outcome (Ok v) ≡ given (test_values g process cs) → answer_figures g.factors.constraints v ≡ figures g process cs
  unfolding figures failed
  answer-figures Pass e = rw (pass_told e)
  answer-figures (Fail set count lowest over) e =
      let f = fail_told set count lowest over.0 e in
      rw f.some_set
      (λ t. ascii "fail," ++ decimal (f.count-is t) ++ ascii "," ++ decimal (f.lowest-is t) ++ ascii "," ++ decimal_z (f.over-is t) ++ ascii "," ++ numbers-are set f.set_is t)

-- ---- one line

module _ (n k : ℕ) (ls : List ℕ) (fs : List ℤ) (book : List ℕ) (process : Process) (period : Period) (v : Verdict)
    (h : Judges (grid_of n k ls fs) process (of_period period (book_in book)) (Ok v)) where
  pub line-text : line (grid_of n k ls fs) (book_in book) period process ≡ answer_line k period process v
  unfolding line
  line-text i =
      append_assoc (period_word period ++ ascii ",") (process_word process) (ascii ",") i
      ++ sym (answer-figures (grid_of n k ls fs) process (of_period period (book_in book)) v h.figures) i
      ++ ascii "\n"
