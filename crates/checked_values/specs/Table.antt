-- Document 01, "Checked values": P1 to P11 as rows of what the definitions give and what the paper says.
use Rattle.std.specs.Prelude.{List, [], ◌∷◌, map, ℕ, ℤ, pos}
use Rattle.tariff.specs.declared.contracts.Contract.{Contract}
use Rattle.tariff.specs.declared.contracts.Period.{Period}
use Rattle.tariff.specs.declared.contracts.Period.TheVariants.{OffPeak, OnPeak}
use Rattle.tariff.specs.declared.processes.Process.{Process}
use Rattle.tariff.specs.declared.processes.Process.TheVariants.{Annual, TierLt, Monthly}
use Rattle.tariff.specs.Units.{Grid}
use Rattle.tariff.specs.ContractRules.{of_period}
use Rattle.tariff.specs.Settlement.{mcc, amount, cents}
use Rattle.tariff.specs.Feasibility.{total_flow, excess, overload_set, overload_count, lowest_overload}
use Rattle.layouts.specs.declared.forms.Form.TheVariants.{Narrow}
use Rattle.layouts.specs.BookFile.{book_file}
use Rattle.layouts.specs.PriceFile.{price_file}
use Rattle.checked_values.specs.Cases.{minus, factors_l, grid_l, prices_l, book_l, grid_p, book_p}

pub record CheckedRow : Type 0 where
  pub given : List ℤ
  pub expected : List ℤ

abbrev on_peak : List Contract → List Contract
on_peak = of_period OnPeak

-- the set of overloaded constraints, and the excess at constraint 0
abbrev set_and_excess : Grid → Process → List Contract → List ℤ
set_and_excess g process cs = pos (overload_set g process cs) ∷ excess g process cs 0 ∷ []

-- the set, how many, the lowest, and the excess there
abbrev failing : Grid → Process → List Contract → List ℤ
failing g process cs =
    pos (overload_set g process cs) ∷ pos (overload_count g process cs) ∷ pos (lowest_overload g process cs) ∷ excess g process cs (lowest_overload g process cs) ∷ []

-- the empty book's set, in every process
abbrev empties : Period → List ℤ
empties period = map (λ (process : Process). pos (overload_set grid_l process (of_period period []))) (Annual ∷ TierLt ∷ Monthly ∷ [])

abbrev bytes : List ℕ → List ℤ
bytes = map pos

unfoldable pub table : List CheckedRow
table =
    -- P1 MCC in L
    record { given = map (mcc factors_l prices_l) (0 ∷ 1 ∷ 2 ∷ []); expected = minus 9000000 ∷ pos 0 ∷ minus 92000000 ∷ [] }
    -- P2 amounts in L
    ∷ record { given = map (amount factors_l prices_l) (on_peak book_l); expected = pos 90000000000 ∷ pos 0 ∷ minus 83000000 ∷ [] }
    -- P3 on-peak flows in L; monthly passes
    ∷ record { given = total_flow factors_l (on_peak book_l) 0 ∷ total_flow factors_l (on_peak book_l) 1 ∷ []; expected = pos 635070000 ∷ minus 200060000 ∷ [] }
    ∷ record { given = pos (overload_set grid_l Monthly (on_peak book_l)) ∷ []; expected = pos 0 ∷ [] }
    -- P4 first limit 6,000, monthly: passes with equality
    ∷ record { given = set_and_excess (grid_p 6000) Monthly (on_peak (book_p 10000)); expected = pos 0 ∷ pos 0 ∷ [] }
    -- P5 quantity 10,001: fails at constraint 0 by 60,000
    ∷ record { given = failing (grid_p 6000) Monthly (on_peak (book_p 10001)); expected = pos 1 ∷ pos 1 ∷ pos 0 ∷ pos 60000 ∷ [] }
    -- P6 annual, quantity 10,000, limit 8,000: fails by 80,000,000 (02, paper 2)
    ∷ record { given = failing (grid_p 8000) Annual (on_peak (book_p 10000)); expected = pos 1 ∷ pos 1 ∷ pos 0 ∷ pos 80000000 ∷ [] }
    -- P7 limit 7,999: fails by 80,065,000 (02, paper 2)
    ∷ record { given = failing (grid_p 7999) Annual (on_peak (book_p 10000)); expected = pos 1 ∷ pos 1 ∷ pos 0 ∷ pos 80065000 ∷ [] }
    -- P8 the empty book passes, in every process and period
    ∷ record { given = empties OffPeak; expected = pos 0 ∷ pos 0 ∷ pos 0 ∷ [] }
    ∷ record { given = empties OnPeak; expected = pos 0 ∷ pos 0 ∷ pos 0 ∷ [] }
    -- P9 amount -50,000,000 is -1 cent; -49,999,999 is 0
    ∷ record { given = cents (minus 50000000) ∷ cents (minus 49999999) ∷ []; expected = minus 1 ∷ pos 0 ∷ [] }
    -- P10 P4's book
    ∷ record { given = bytes (book_file Narrow (book_p 10000)); expected = bytes (0x00 ∷ 0x40 ∷ 0x40 ∷ 0x70 ∷ 0x00 ∷ 0x10 ∷ 0x27 ∷ 0x10 ∷ []) }
    -- P11 on-peak, one price of 1 cent
    ∷ record { given = bytes (price_file 1 1 (1 ∷ [])); expected = bytes (0x81 ∷ 0x00 ∷ 0x00 ∷ 0x20 ∷ []) }
    ∷ []
