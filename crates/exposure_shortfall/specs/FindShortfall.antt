-- Finding the shortfall of a book at a price list (document 01, "Terms of the third demand"): net payment, rent, and net payment less rent.
use Rattle.std.specs.Prelude.{◌≡◌, List, [], ◌∷◌, ℕ, ◌*◌, length, take, ℤ, pos, Ok, Err, Result}
use Rattle.lists.specs.Lent.{Lent, before, after}
use Rattle.tariff.specs.Refusals.{Checked}
use Rattle.tariff.specs.Settlement.{whole_cents, parts}
use Rattle.tariff.specs.Refusals.{Check, first, Outcome, given, refused_by, answered, cell_after, number_after}
use Rattle.tariff.specs.Checks.{node_count, constraint_count, process_number, period_number, short_table, limit_range, factor_range, price_range}
use Rattle.tariff.specs.Shortfall.{net_payment, rent, shortfall}
use Rattle.book_rules.specs.BookChecks.{book_checks}
use Rattle.test_rules.specs.TestBook.{TestCall, tested_grid, tested_process, tested_contracts}
use Rattle.tariff.specs.declared.refusals.Refusal.{Refusal}
use Rattle.exposure_shortfall.specs.declared.Shortfall.{Shortfall}

-- what a book costs at a price list, or the refusal
abbrev pub ShortfallAnswer : Type 0
ShortfallAnswer = Result Shortfall Refusal

-- net payment, rent and shortfall found, each as whole cents rounded down and parts
abbrev pub shortfall_found : ℤ → ℕ → ℤ → ℕ → ℤ → ℕ → ShortfallAnswer
shortfall_found a b c d e f = Ok (record {
  payment = record { whole = a; parts = b };
  rent = record { whole = c; parts = d };
  shortfall = record { whole = e; parts = f };
})

-- net payment, rent and shortfall, each as whole cents rounded down and parts
abbrev pub shortfall_outcome : ShortfallAnswer → Outcome
shortfall_outcome (Ok found) =
    given (found.payment.whole ∷ pos found.payment.parts ∷ found.rent.whole ∷ pos found.rent.parts ∷ found.shortfall.whole ∷ pos found.shortfall.parts ∷ [])
shortfall_outcome (Err r) = refused_by r

-- what the test is handed, and a table of prices
module _ (q : TestCall) (prices : List ℕ) where
  -- the test's and settlement's checks, each where it stands: 2, 3, 16, 17, 9 (tables and prices), 6, 7, 15, then the book's own from 1 to 13
  unfoldable pub shortfall_checks : List Check
  shortfall_checks =
      node_count q.nodes
      ∷ constraint_count q.constraints
      ∷ process_number q.process
      ∷ period_number q.period
      ∷ short_table (length q.limits) q.constraints
      ∷ short_table (length q.factors) (q.nodes * q.constraints)
      ∷ short_table (length prices) q.constraints
      ∷ limit_range (take q.constraints q.limits)
      ∷ factor_range (take (q.nodes * q.constraints) q.factors)
      ∷ price_range (take q.constraints prices)
      ∷ book_checks q.nodes q.book

  abbrev pub shortfall_checked : Checked
  shortfall_checked = first shortfall_checks

  -- the price list: a price for each constraint
  abbrev pub asked_prices : List ℕ
  asked_prices = take q.constraints prices

  -- by document 01's own terms, in 10^-8 cents
  abbrev pub payment_asked : ℤ
  payment_asked = net_payment (tested_grid q).factors (tested_contracts q) asked_prices

  abbrev pub rent_asked : ℤ
  rent_asked = rent (tested_grid q) (tested_process q) asked_prices

  abbrev pub shortfall_asked : ℤ
  shortfall_asked = shortfall (tested_grid q) (tested_process q) (tested_contracts q) asked_prices

  abbrev pub shortfall_values : List ℤ
  shortfall_values =
      whole_cents payment_asked
      ∷ pos (parts payment_asked)
      ∷ whole_cents rent_asked
      ∷ pos (parts rent_asked)
      ∷ whole_cents shortfall_asked
      ∷ pos (parts shortfall_asked)
      ∷ []

  -- the promise
  pub record FindsShortfall (answer : ShortfallAnswer) : Type 0 where
    pub figures-given : shortfall_outcome answer ≡ answered shortfall_checked shortfall_values

  -- the same for C
  pub record FindsShortfallForC (number : ℕ) (payWhole : Lent ℤ) (payParts : Lent ℕ) (rentWhole : Lent ℤ) (rentParts : Lent ℕ) (shortWhole : Lent ℤ)
      (shortParts : Lent ℕ) : Type 0 where
    pub refusal-number : number ≡ number_after shortfall_checked
    pub payment-whole_given : after payWhole ≡ cell_after shortfall_checked (whole_cents payment_asked) (before payWhole)
    pub payment-parts_given : after payParts ≡ cell_after shortfall_checked (parts payment_asked) (before payParts)
    pub rent-whole_given : after rentWhole ≡ cell_after shortfall_checked (whole_cents rent_asked) (before rentWhole)
    pub rent-parts_given : after rentParts ≡ cell_after shortfall_checked (parts rent_asked) (before rentParts)
    pub shortfall-whole_given : after shortWhole ≡ cell_after shortfall_checked (whole_cents shortfall_asked) (before shortWhole)
    pub shortfall-parts_given : after shortParts ≡ cell_after shortfall_checked (parts shortfall_asked) (before shortParts)
