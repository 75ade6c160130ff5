-- Finding the flow on each constraint: the left side of the test of document 01, "The rules", for those who want to see how full a constraint is.
use Rattle.std.specs.Prelude.{◌≡◌, List, [], ◌∷◌, ◌++◌, ℕ, ◌*◌, length, take, ℤ, pos, Ok, Err, Result}
use Rattle.lists.specs.Lists.{list_to}
use Rattle.lists.specs.Lent.{Lent, before, after}
use Rattle.tariff.specs.declared.contracts.Contract.{Contract}
use Rattle.tariff.specs.Refusals.{Checked}
use Rattle.tariff.specs.Units.{factors_of}
use Rattle.tariff.specs.ContractRules.{period_of, of_period}
use Rattle.tariff.specs.Refusals.{Check, first, Outcome, given, refused_by, answered, cells_after, cell_after, number_after}
use Rattle.tariff.specs.Checks.{node_count, constraint_count, period_number, short_table, limit_range, factor_range}
use Rattle.tariff.specs.Feasibility.{total_flow}
use Rattle.layouts.specs.BookFile.{book_in}
use Rattle.book_rules.specs.BookChecks.{book_checks}
use Rattle.test_terms.specs.declared.AskedFlows.{AskedFlows}
use Rattle.tariff.specs.declared.refusals.Refusal.{Refusal}

-- the counts, the period by number, the grid's tables, the book's bytes, and the place for the answer as it is at entry
pub record FlowsCall : Type 0 where
  pub nodes : ℕ
  pub constraints : ℕ
  pub period : ℕ
  pub limits : List ℕ
  pub factors : List ℤ
  pub book : List ℕ
  pub place : List ℤ

abbrev pub flows_call : ℕ → ℕ → ℕ → List ℕ → List ℤ → List ℕ → List ℤ → FlowsCall
flows_call n k period limits factors book place =
    record { nodes = n; constraints = k; period = period; limits = limits; factors = factors; book = book; place = place }

-- by what is asked
abbrev pub asked_flows : AskedFlows → List ℕ → List ℤ → List ℕ → List ℤ → FlowsCall
asked_flows a = flows_call a.nodes a.constraints a.period

-- what finding flows answers beside the cells: how many contracts were counted, or the refusal
abbrev pub FlowsAnswer : Type 0
FlowsAnswer = Result ℕ Refusal

-- beside the cells, how many contracts were counted
abbrev pub flows_outcome : FlowsAnswer → Outcome
flows_outcome (Ok counted) = given (pos counted ∷ [])
flows_outcome (Err r) = refused_by r

module _ (q : FlowsCall) where
  -- as testing a book, the process apart: "2, 3. .. 17: period not 0 or 1. 9, 6, 7, then the book's own from 1 to 13"; then 9 for fewer cells than constraints
  unfoldable pub find_flows_checks : List Check
  find_flows_checks =
      (node_count q.nodes
      ∷ constraint_count q.constraints
      ∷ period_number q.period
      ∷ short_table (length q.limits) q.constraints
      ∷ short_table (length q.factors) (q.nodes * q.constraints)
      ∷ limit_range (take q.constraints q.limits)
      ∷ factor_range (take (q.nodes * q.constraints) q.factors)
      ∷ book_checks q.nodes q.book)
      ++ short_table (length q.place) q.constraints
      ∷ []

  abbrev pub find_flows_checked : Checked
  find_flows_checked = first find_flows_checks

  -- the book's contracts of the period
  abbrev pub counted_contracts : List Contract
  counted_contracts = of_period (period_of q.period) (book_in q.book)

  -- one cell for each constraint
  abbrev pub flow_cells : List ℤ
  flow_cells = list_to q.constraints (total_flow (factors_of q.nodes q.constraints q.factors) counted_contracts)

-- the promise: the answer, and the place at exit
pub record FindsFlows (q : FlowsCall) (answer : FlowsAnswer) (exit : List ℤ) : Type 0 where
  pub counted-given : flows_outcome answer ≡ answered (find_flows_checked q) (pos (length (counted_contracts q)) ∷ [])
  pub flows-found : exit ≡ cells_after (find_flows_checked q) (flow_cells q) q.place

-- the same for C
pub record FindsFlowsForC (q : FlowsCall) (number : ℕ) (exit : List ℤ) (counted : Lent ℕ) : Type 0 where
  pub refusal-number : number ≡ number_after (find_flows_checked q)
  pub flows-found : exit ≡ cells_after (find_flows_checked q) (flow_cells q) q.place
  pub counted-given : after counted ≡ cell_after (find_flows_checked q) (length (counted_contracts q)) (before counted)
