-- Document 02, paper 4: "the verdict is always pass and the shortfall guarantee covers each state reached", of the awards held as a book: what `write_book` writes
-- from the rows of a running test's cells passes `test_book` under the opening's tables. Over what the entries and the C functions promise. Statements only.
use Rattle.std.specs.Prelude.{◌≡◌, List, [], ◌∷◌, ℕ, ◌≤◌, ◌<◌, length, get_or, take, ℤ, pos, Ok}
use Rattle.lists.specs.Lists.{Each}
use Rattle.lists.specs.Lent.{Lent, after}
use Rattle.tariff.specs.Refusals.{given}
use Rattle.layouts.specs.Writing.{WriteAnswer}
use Rattle.layouts.specs.declared.forms.Form.{Form}
use Rattle.layouts.specs.declared.forms.Form.TheVariants.{Wide}
use Rattle.layouts.specs.Forms.{form_of}
use Rattle.layouts.specs.BookFile.{book_bytes_of}
use Rattle.book_rules.specs.WriteBook.{WriteBookCall, write_book_call, WritesBook, WritesBookForC}
use Rattle.test_rules.specs.TestBook.{TestAnswer, pass}
use Rattle.test_rules.specs.TestBook.{TestCall, test_call, TestsBook, TestsBookForC}
use Rattle.test_loading.specs.FindFlows.{FlowsAnswer}
use Rattle.test_loading.specs.FindFlows.{FlowsCall, flows_call, flows_outcome, FindsFlows, FindsFlowsForC}
use Rattle.tier_rules.specs.Tiers.{Tiers}
use Rattle.tier_rules.specs.Cells.{held_in, counted_in, StateCells}
use Rattle.tier_rules.specs.Theorems.{EndsFit}
use Rattle.tier_running_rules.specs.OpenRunning.{OpenRunningCall}
use Rattle.tier_calls.specs.Runs.{CellRun}

-- the awards held, written "from the rows as they stand"
abbrev pub write_held : OpenRunningCall → StateCells → Form → List ℕ → WriteBookCall
write_held q cells f place = write_book_call f q.nodes (held_in cells.numbers) cells.awards place

-- a book tested under the opening's tables
abbrev pub test_by_opening : OpenRunningCall → List ℕ → TestCall
test_by_opening q book = test_call q.nodes q.constraints q.process q.period q.limits q.factors book

abbrev pub flows_by_opening : OpenRunningCall → List ℕ → List ℤ → FlowsCall
flows_by_opening q book place = flows_call q.nodes q.constraints q.period q.limits q.factors book place

-- THE STATEMENTS, of the state s and the cells that any run of calls has come to from the opening q
pub record HeldBooks : Type 0 where
  -- into a place that is long enough they are written in every form that can hold their ends
  pub held_written : (q : OpenRunningCall) (s : Tiers) (cells : StateCells) → CellRun q s cells → (f : Form) → Each (EndsFit f q.nodes) s.awards
      → (place : List ℕ) → book_bytes_of f (held_in cells.numbers) ≤ length place → (a : WriteAnswer) (x : List ℕ) → WritesBook (write_held q cells f place) a x
      → a ≡ Ok (book_bytes_of f (held_in cells.numbers))
  -- the wide form can
  pub wide-ends_fit : (q : OpenRunningCall) (s : Tiers) (cells : StateCells) → CellRun q s cells → Each (EndsFit Wide q.nodes) s.awards
  -- and what is written passes
  pub held_passes : (q : OpenRunningCall) (s : Tiers) (cells : StateCells) → CellRun q s cells → (f : Form) (place : List ℕ) (m : ℕ) (x : List ℕ)
      → WritesBook (write_held q cells f place) (Ok m) x → (b : TestAnswer) → TestsBook (test_by_opening q (take m x)) b → b ≡ pass
  -- its flows are those in the cells, and its count the count there: "flows, count and verdict equal those worked out afresh over the awards still held"
  pub held_flows : (q : OpenRunningCall) (s : Tiers) (cells : StateCells) → CellRun q s cells → (f : Form) (place : List ℕ) (m : ℕ) (x : List ℕ)
      → WritesBook (write_held q cells f place) (Ok m) x → (room : List ℤ) → q.constraints ≤ length room → (b : FlowsAnswer) (y : List ℤ)
      → FindsFlows (flows_by_opening q (take m x) room) b y
      → (flows_outcome b ≡ given (pos (counted_in cells.numbers) ∷ [])) × ((k : ℕ) → k < q.constraints → get_or y k (pos 0) ≡ get_or cells.flows k (pos 0))
  -- the same of the C functions, where the form is told by a number
  pub crr_held_written : (q : OpenRunningCall) (s : Tiers) (cells : StateCells) → CellRun q s cells → (form : ℕ)
      → Each (EndsFit (form_of form) q.nodes) s.awards → (place : List ℕ) → book_bytes_of (form_of form) (held_in cells.numbers) ≤ length place
      → (number : ℕ) (x : List ℕ) (bytes : Lent ℕ)
      → WritesBookForC (write_held q cells (form_of form) place) number x bytes → (number ≡ 0) × (after bytes ≡ book_bytes_of (form_of form) (held_in cells.numbers))
  pub crr_held_passes : (q : OpenRunningCall) (s : Tiers) (cells : StateCells) → CellRun q s cells → (form : ℕ) (place x : List ℕ) (bytes : Lent ℕ)
      → WritesBookForC (write_held q cells (form_of form) place) 0 x bytes → (number : ℕ) (set count lowest : Lent ℕ) (excess : Lent ℤ)
      → TestsBookForC (test_by_opening q (take (after bytes) x)) number set count lowest excess → (number ≡ 0) × (after set ≡ 0)
  pub crr_held_flows : (q : OpenRunningCall) (s : Tiers) (cells : StateCells) → CellRun q s cells → (form : ℕ) (place x : List ℕ) (bytes : Lent ℕ)
      → WritesBookForC (write_held q cells (form_of form) place) 0 x bytes → (room : List ℤ) → q.constraints ≤ length room
      → (number : ℕ) (y : List ℤ) (counted : Lent ℕ) → FindsFlowsForC (flows_by_opening q (take (after bytes) x) room) number y counted
      → (number ≡ 0) × (after counted ≡ counted_in cells.numbers) × ((k : ℕ) → k < q.constraints → get_or y k (pos 0) ≡ get_or cells.flows k (pos 0))
