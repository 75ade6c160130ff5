-- Testing a book's bytes against grid tables (document 01, "The rules", "Terms of the third demand" and "When input is turned down").
use Rattle.std.specs.Prelude.{◌≡◌, ◌↔◌, cond, List, [], ◌∷◌, ◌++◌, ℕ, ◌<◌, eqb, ℤ, pos, ◌<ℤ◌, Ok, Err, Result}
use Rattle.lists.specs.Lent.{Lent, before, after}
use Rattle.tariff.specs.declared.contracts.Contract.{Contract}
use Rattle.tariff.specs.declared.processes.Process.{Process}
use Rattle.tariff.specs.declared.units.Flow.{Flow}
use Rattle.tariff.specs.Refusals.{Checked, passed}
use Rattle.tariff.specs.Units.{Grid, grid_of}
use Rattle.tariff.specs.ContractRules.{period_of, of_period}
use Rattle.tariff.specs.Processes.{process_of}
use Rattle.tariff.specs.Refusals.{Check, first, Outcome, given, refused_by, answered, cell_after, number_after}
use Rattle.tariff.specs.Feasibility.{excess, overload_set, overload_count, lowest_overload}
use Rattle.tariff.specs.Shortfall.{PriceList, shortfall, one_cent, IsWorst}
use Rattle.layouts.specs.BookFile.{book_in}
use Rattle.grid_tables.specs.TableChecks.{grid_table_checks}
use Rattle.book_rules.specs.BookChecks.{book_checks}
use Rattle.tariff.specs.declared.refusals.Refusal.{Refusal}
use Rattle.test_rules.specs.declared.Verdict.{Verdict}
use Rattle.test_rules.specs.declared.Verdict.TheVariants.{Pass, Fail}

-- the counts, process and period by number, the grid's tables, the book's bytes
pub record TestCall : Type 0 where
  pub nodes : ℕ
  pub constraints : ℕ
  pub process : ℕ
  pub period : ℕ
  pub limits : List ℕ
  pub factors : List ℤ
  pub book : List ℕ

abbrev pub test_call : ℕ → ℕ → ℕ → ℕ → List ℕ → List ℤ → List ℕ → TestCall
test_call n k process period limits factors book =
    record { nodes = n; constraints = k; process = process; period = period; limits = limits; factors = factors; book = book }

-- what the test answers: its verdict, or the refusal
abbrev pub TestAnswer : Type 0
TestAnswer = Result Verdict Refusal

abbrev pub pass : TestAnswer
pass = Ok Pass

abbrev pub fail : ℕ → ℕ → ℕ → Flow → TestAnswer
fail set count lowest over = Ok (Fail set count lowest over)

-- pass gives no figure; fail gives the set of overloaded constraints, how many, the lowest of them, and the excess there
abbrev pub test_outcome : TestAnswer → Outcome
test_outcome (Ok Pass) = given []
test_outcome (Ok (Fail set count lowest over)) = given (pos set ∷ pos count ∷ pos lowest ∷ over.0 ∷ [])
test_outcome (Err r) = refused_by r

module _ (q : TestCall) where
  -- "2, 3. 16: process not 0 to 2. 17: period not 0 or 1. 9, 6, 7, then the book's own from 1 to 13."
  unfoldable pub test_checks : List Check
  test_checks = grid_table_checks q.nodes q.constraints q.process q.period q.limits q.factors ++ book_checks q.nodes q.book

  abbrev pub test_checked : Checked
  test_checked = first test_checks

  -- what is tested: the grid, the process, and the book's contracts of the period
  abbrev pub tested_grid : Grid
  tested_grid = grid_of q.nodes q.constraints q.limits q.factors

  abbrev pub tested_process : Process
  tested_process = process_of q.process

  abbrev pub tested_contracts : List Contract
  tested_contracts = of_period (period_of q.period) (book_in q.book)

module _ (g : Grid) (process : Process) (cs : List Contract) where
  -- the figures: none on a pass
  unfoldable pub test_values : List ℤ
  test_values =
      cond (eqb (overload_set g process cs) 0) []
      (pos (overload_set g process cs)
      ∷ pos (overload_count g process cs)
      ∷ pos (lowest_overload g process cs)
      ∷ excess g process cs (lowest_overload g process cs)
      ∷ [])

  -- Demand 3: pass exactly when the worst shortfall is 0; on fail the constraint named is one of the grid's, and the list with one cent there has as its
  -- shortfall the excess given, above 0
  pub record Demand3 (answer : TestAnswer) : Type 0 where
    pub pass_is_worst_zero : (answer ≡ pass) ↔ IsWorst g process cs (pos 0)
    pub fail_is_of_the_grid : (set count lowest : ℕ) (over : Flow) → answer ≡ fail set count lowest over → lowest < g.factors.constraints
    pub fail_is_a_list : (set count lowest : ℕ) (over : Flow) → answer ≡ fail set count lowest over
        → PriceList g.factors.constraints (one_cent g.factors.constraints lowest)
    pub fail_is_its_shortfall : (set count lowest : ℕ) (over : Flow) → answer ≡ fail set count lowest over
        → shortfall g process cs (one_cent g.factors.constraints lowest) ≡ over.0
    pub fail_is_above_zero : (set count lowest : ℕ) (over : Flow) → answer ≡ fail set count lowest over → pos 0 <ℤ over.0

-- the promise
pub record TestsBook (q : TestCall) (answer : TestAnswer) : Type 0 where
  pub figures : test_outcome answer ≡ answered (test_checked q) (test_values (tested_grid q) (tested_process q) (tested_contracts q))
  pub demand3 : test_checked q ≡ passed → Demand3 (tested_grid q) (tested_process q) (tested_contracts q) answer

-- ---- for C: the figures in lent cells, all 0 on a pass

pub record TestCells : Type 0 where
  pub set : ℕ
  pub count : ℕ
  pub lowest : ℕ
  pub over : ℤ

abbrev pub pass_cells_of : TestCells
pass_cells_of = record { set = 0; count = 0; lowest = 0; over = pos 0 }

module _ (g : Grid) (process : Process) (cs : List Contract) where
  abbrev pub fail_cells_of : TestCells
  fail_cells_of =
      record {
        set = overload_set g process cs;
        count = overload_count g process cs;
        lowest = lowest_overload g process cs;
        over = excess g process cs (lowest_overload g process cs);
      }

  unfoldable pub test_cells : TestCells
  test_cells = cond (eqb (overload_set g process cs) 0) pass_cells_of fail_cells_of

  -- Demand 3 of the cells: the set is empty exactly when the worst shortfall is 0; else as above
  pub record Demand3OfCells (set lowest : ℕ) (over : ℤ) : Type 0 where
    pub empty_is_worst_zero : (set ≡ 0) ↔ IsWorst g process cs (pos 0)
    pub named_is_of_the_grid : (set ≡ 0 → ⊥) → lowest < g.factors.constraints
    pub named_is_a_list : (set ≡ 0 → ⊥) → PriceList g.factors.constraints (one_cent g.factors.constraints lowest)
    pub named_is_its_shortfall : (set ≡ 0 → ⊥) → shortfall g process cs (one_cent g.factors.constraints lowest) ≡ over
    pub named_is_above_zero : (set ≡ 0 → ⊥) → pos 0 <ℤ over

abbrev pub tested_cells : TestCall → TestCells
tested_cells q = test_cells (tested_grid q) (tested_process q) (tested_contracts q)

pub record TestsBookForC (q : TestCall) (number : ℕ) (set count lowest : Lent ℕ) (excess : Lent ℤ) : Type 0 where
  pub refusal-number : number ≡ number_after (test_checked q)
  pub set_given : after set ≡ cell_after (test_checked q) (tested_cells q).set (before set)
  pub count-given : after count ≡ cell_after (test_checked q) (tested_cells q).count (before count)
  pub lowest-given : after lowest ≡ cell_after (test_checked q) (tested_cells q).lowest (before lowest)
  pub excess-given : after excess ≡ cell_after (test_checked q) (tested_cells q).over (before excess)
  pub demand3 : test_checked q ≡ passed → Demand3OfCells (tested_grid q) (tested_process q) (tested_contracts q) (after set) (after lowest) (after excess)
