-- What paper 12 says of the list, as predicates: `LeastCuts` is proved of the rows that the definition gives, for every grid, process, period and book.
use Rattle.std.specs.Prelude.{◌≡◌, ◌↔◌, true, false, List, [], ℕ, ◌<◌, ◌≤◌, eqb, length, get_or}
use Rattle.lists.specs.Lists.{any_of, Each}
use Rattle.tariff.specs.declared.contracts.Contract.{Contract}
use Rattle.tariff.specs.declared.contracts.Period.{Period}
use Rattle.tariff.specs.declared.processes.Process.{Process}
use Rattle.tariff.specs.Units.{Grid}
use Rattle.tariff.specs.ContractRules.{of_period}
use Rattle.tariff.specs.Feasibility.{Passes}
use Rattle.cut_rules.specs.Cuts.{nth_contract, quantity_of, lowered, CutRow, precedes}

-- no row is contract i's
abbrev pub Absent : ℕ → List CutRow → Type 0
Absent i rows = any_of (λ (r : CutRow). eqb r.number i) rows ≡ false

-- row j, counted from 0
abbrev pub cut_row_at : List CutRow → ℕ → CutRow
cut_row_at rows j = get_or rows j (record { number = 0; cut = 0 })

module _ (g : Grid) (process : Process) (period : Period) (cs : List Contract) where
  -- the book passes; it passes with contract i's quantity lowered by t
  abbrev pub BookPasses : Type 0
  BookPasses = Passes g process (of_period period cs)

  abbrev pub CutPasses : ℕ → ℕ → Type 0
  CutPasses i t = Passes g process (of_period period (lowered i t cs))

  -- a row that is right: a contract of that period, a cut of 1 to its quantity, with which the book passes, and with no smaller one
  pub record IsLeastCut (r : CutRow) : Type 0 where
    pub in_book : r.number < length cs
    pub of-period : (nth_contract cs r.number).period ≡ period
    pub some_cut : 0 < r.cut
    pub at-most_all : r.cut ≤ quantity_of cs r.number
    pub clears-book : CutPasses r.number r.cut
    pub none-smaller : (t : ℕ) → t < r.cut → CutPasses r.number t → ⊥

  pub record LeastCuts (rows : List CutRow) : Type 0 where
    -- "list every contract of that period whose quantity, lowered alone, would make it pass, .. with the smallest such cut"
    pub each-least : (BookPasses → ⊥) → Each IsLeastCut rows
    -- "From a failing book a contract is absent exactly when no cut of it clears the book."
    pub absent_exactly : (BookPasses → ⊥) → (i : ℕ) → i < length cs → Absent i rows ↔ ((t : ℕ) → t ≤ quantity_of cs i → CutPasses i t → ⊥)
    -- "Order by cut, then contract number."
    pub ordered : (j k : ℕ) → j < k → k < length rows → precedes (cut_row_at rows j) (cut_row_at rows k) ≡ true
    -- "A passing book gives an empty list."
    pub none-of_passing : BookPasses → rows ≡ []
