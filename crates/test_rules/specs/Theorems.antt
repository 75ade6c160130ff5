-- What theorems on the test speak of: two lists of contracts of which it says the same, and a call with a book in a form (document 02, paper 9).
use Rattle.std.specs.Prelude.{◌≡◌, ◌↔◌, List, ℕ, ℤ}
use Rattle.tariff.specs.declared.contracts.Contract.{Contract}
use Rattle.tariff.specs.declared.processes.Process.{Process}
use Rattle.tariff.specs.Units.{Grid}
use Rattle.tariff.specs.Feasibility.{total_flow, Passes, excess, overload_set, overload_count, lowest_overload}
use Rattle.layouts.specs.declared.forms.Form.{Form}
use Rattle.layouts.specs.BookFile.{book_file}
use Rattle.test_rules.specs.TestBook.{TestCall, test_call, test_values}

-- the same flow on every constraint, and so the same overload set, count, lowest, excess anywhere, verdict, and figures given
pub record SameTest (g : Grid) (process : Process) (cs ds : List Contract) : Type 0 where
  pub flows-same : (k : ℕ) → total_flow g.factors cs k ≡ total_flow g.factors ds k
  pub set_same : overload_set g process cs ≡ overload_set g process ds
  pub count_same : overload_count g process cs ≡ overload_count g process ds
  pub lowest-same : lowest_overload g process cs ≡ lowest_overload g process ds
  pub excess-same : (k : ℕ) → excess g process cs k ≡ excess g process ds k
  pub verdict_same : Passes g process cs ↔ Passes g process ds
  pub figures-same : test_values g process cs ≡ test_values g process ds

-- a call with the contracts' file in a form
abbrev pub test_of : ℕ → ℕ → ℕ → ℕ → List ℕ → List ℤ → List Contract → Form → TestCall
test_of n k process period limits factors cs f = test_call n k process period limits factors (book_file f cs)
