-- Listing the least cuts that clear a book (document 02, paper 12).
use Rattle.std.specs.Prelude.{◌≡◌, List, [], ◌∷◌, ◌++◌, map, ℕ, length, get_or, pos, Ok, Err, Result}
use Rattle.lists.specs.Lists.{list_to}
use Rattle.lists.specs.Lent.{Lent, before, after}
use Rattle.tariff.specs.declared.contracts.Period.{Period}
use Rattle.tariff.specs.Refusals.{Checked, passed}
use Rattle.tariff.specs.ContractRules.{period_of}
use Rattle.tariff.specs.Refusals.{Check, first, Outcome, given, refused_by, answered, cells_after, cell_after, number_after}
use Rattle.tariff.specs.Checks.{short_table}
use Rattle.layouts.specs.BookFile.{book_in}
use Rattle.test_rules.specs.TestBook.{TestCall, test_checks, tested_grid, tested_process}
use Rattle.cut_rules.specs.Cuts.{CutRow, least_cuts}
use Rattle.cut_rules.specs.Theorems.{LeastCuts}
use Rattle.tariff.specs.declared.refusals.Refusal.{Refusal}

-- what the test is handed, and the places for the rows' numbers and cuts as they are at entry
pub record CutsCall : Type 0 where
  pub test : TestCall
  pub numbers : List ℕ
  pub cuts : List ℕ

-- what listing cuts answers beside the cells: how many rows there are, or the refusal
abbrev pub CutsAnswer : Type 0
CutsAnswer = Result ℕ Refusal

-- beside the cells, how many rows there are
abbrev pub cuts_outcome : CutsAnswer → Outcome
cuts_outcome (Ok listed) = given (pos listed ∷ [])
cuts_outcome (Err r) = refused_by r

-- rows as they stand in two tables
abbrev pub cut_rows_in : ℕ → List ℕ → List ℕ → List CutRow
cut_rows_in listed numbers cuts = list_to listed (λ (j : ℕ). record { number = get_or numbers j 0; cut = get_or cuts j 0 })

module _ (q : CutsCall) where
  abbrev pub tested_period : Period
  tested_period = period_of q.test.period

  -- the rows, in order
  abbrev pub listed_rows : List CutRow
  listed_rows = least_cuts (tested_grid q.test) (tested_process q.test) tested_period (book_in q.test.book)

  -- "then 9": a place with fewer cells than there are rows
  abbrev pub cut_room_checks : List Check
  cut_room_checks = short_table (length q.numbers) (length listed_rows) ∷ short_table (length q.cuts) (length listed_rows) ∷ []

  -- "It checks as the test does, then 9."
  unfoldable pub find_cuts_checks : List Check
  find_cuts_checks = test_checks q.test ++ cut_room_checks

  abbrev pub find_cuts_checked : Checked
  find_cuts_checked = first find_cuts_checks

  -- a cell of either place for each row
  abbrev pub number_cells : List ℕ
  number_cells = map (λ (r : CutRow). r.number) listed_rows

  abbrev pub cut_cells_of : List ℕ
  cut_cells_of = map (λ (r : CutRow). r.cut) listed_rows

  -- so many rows in these tables are what the paper says
  abbrev pub HoldLeastCuts : ℕ → List ℕ → List ℕ → Type 0
  HoldLeastCuts listed numbers cuts =
      LeastCuts (tested_grid q.test) (tested_process q.test) tested_period (book_in q.test.book) (cut_rows_in listed numbers cuts)

module _ (test : TestCall) (numbers cuts : Lent (List ℕ)) where
  abbrev pub cuts_call : CutsCall
  cuts_call = record { test = test; numbers = before numbers; cuts = before cuts }

  -- both places at exit
  abbrev pub numbers_after : List ℕ
  numbers_after = cells_after (find_cuts_checked cuts_call) (number_cells cuts_call) (before numbers)

  abbrev pub cuts_after : List ℕ
  cuts_after = cells_after (find_cuts_checked cuts_call) (cut_cells_of cuts_call) (before cuts)

  -- the promise: the answer, and both places
  pub record FindsCuts (answer : CutsAnswer) : Type 0 where
    pub listed-given : cuts_outcome answer ≡ answered (find_cuts_checked cuts_call) (pos (length (listed_rows cuts_call)) ∷ [])
    pub numbers-listed : after numbers ≡ numbers_after
    pub cuts-listed : after cuts ≡ cuts_after
    pub least-cuts : find_cuts_checked cuts_call ≡ passed → HoldLeastCuts cuts_call (length (listed_rows cuts_call)) (after numbers) (after cuts)

  -- the same for C
  pub record FindsCutsForC (number : ℕ) (listed : Lent ℕ) : Type 0 where
    pub refusal-number : number ≡ number_after (find_cuts_checked cuts_call)
    pub listed-given : after listed ≡ cell_after (find_cuts_checked cuts_call) (length (listed_rows cuts_call)) (before listed)
    pub numbers-listed : after numbers ≡ numbers_after
    pub cuts-listed : after cuts ≡ cuts_after
    pub least-cuts : find_cuts_checked cuts_call ≡ passed → HoldLeastCuts cuts_call (after listed) (after numbers) (after cuts)
