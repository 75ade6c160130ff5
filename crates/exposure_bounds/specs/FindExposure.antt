-- Finding what a book can cost: the worst shortfall of document 01, "Terms of the third demand", between two figures, with prices that reach the lower one.
use Rattle.std.specs.Prelude.{◌≡◌, List, [], ◌∷◌, ◌++◌, ℕ, length, take, ℤ, pos, Ok, Err, Result}
use Rattle.lists.specs.Lent.{Lent, before, after}
use Rattle.tariff.specs.Refusals.{Checked, passed}
use Rattle.tariff.specs.Settlement.{whole_cents, parts}
use Rattle.tariff.specs.Refusals.{Check, first, Outcome, given, refused_by, answered, cells_after, cell_after, number_after}
use Rattle.tariff.specs.Checks.{short_table}
use Rattle.test_rules.specs.TestBook.{TestCall, test_checks, tested_grid, tested_process, tested_contracts}
use Rattle.exposure_rules.specs.Exposure.{exposure_prices_of, least_exposure, most_exposure}
use Rattle.exposure_rules.specs.Theorems.{Exposes}
use Rattle.tariff.specs.declared.refusals.Refusal.{Refusal}
use Rattle.exposure_bounds.specs.declared.Exposure.{Exposure}

-- the least and the most that a book can cost, or the refusal
abbrev pub ExposureAnswer : Type 0
ExposureAnswer = Result Exposure Refusal

-- the least and the most found, each as whole cents rounded down and parts
abbrev pub exposure_found : ℤ → ℕ → ℤ → ℕ → ExposureAnswer
exposure_found lw lp mw mp = Ok (record { least = record { whole = lw; parts = lp }; most = record { whole = mw; parts = mp } })

-- the least and the most that the book can cost, each as whole cents rounded down and parts
abbrev pub exposure_outcome : ExposureAnswer → Outcome
exposure_outcome (Ok found) = given (found.least.whole ∷ pos found.least.parts ∷ found.most.whole ∷ pos found.most.parts ∷ [])
exposure_outcome (Err r) = refused_by r

-- what the test is handed, and the place for the prices as it is at entry
module _ (q : TestCall) (place : List ℕ) where
  -- "It checks as the test does, then 9": fewer cells than constraints
  unfoldable pub exposure_checks : List Check
  exposure_checks = test_checks q ++ short_table (length place) q.constraints ∷ []

  abbrev pub exposure_checked : Checked
  exposure_checked = first exposure_checks

module _ (q : TestCall) where
  abbrev pub least : ℤ
  least = least_exposure (tested_grid q) (tested_process q) (tested_contracts q)

  abbrev pub most : ℤ
  most = most_exposure (tested_grid q) (tested_process q) (tested_contracts q)

  -- one cell for each constraint
  abbrev pub price_cells : List ℕ
  price_cells = exposure_prices_of (tested_grid q) (tested_process q) (tested_contracts q)

  abbrev pub exposure_values : List ℤ
  exposure_values = whole_cents least ∷ pos (parts least) ∷ whole_cents most ∷ pos (parts most) ∷ []

  -- these prices and the two figures are what is proved of exposure
  abbrev pub ExposedBy : List ℕ → Type 0
  ExposedBy cells = Exposes (tested_grid q) (tested_process q) (tested_contracts q) (take q.constraints cells) least most

  -- the promise: the answer, the place at exit, and what they say of the worst shortfall
  pub record FindsExposure (prices : Lent (List ℕ)) (answer : ExposureAnswer) : Type 0 where
    pub figures-given : exposure_outcome answer ≡ answered (exposure_checked q (before prices)) exposure_values
    pub prices-found : after prices ≡ cells_after (exposure_checked q (before prices)) price_cells (before prices)
    pub exposes : exposure_checked q (before prices) ≡ passed → ExposedBy (after prices)

  -- the same for C
  pub record FindsExposureForC (number : ℕ) (prices : Lent (List ℕ)) (leastWhole : Lent ℤ) (leastParts : Lent ℕ) (mostWhole : Lent ℤ) (mostParts : Lent ℕ)
      : Type 0 where
    pub refusal-number : number ≡ number_after (exposure_checked q (before prices))
    pub prices-found : after prices ≡ cells_after (exposure_checked q (before prices)) price_cells (before prices)
    pub least-whole_given : after leastWhole ≡ cell_after (exposure_checked q (before prices)) (whole_cents least) (before leastWhole)
    pub least-parts_given : after leastParts ≡ cell_after (exposure_checked q (before prices)) (parts least) (before leastParts)
    pub most-whole_given : after mostWhole ≡ cell_after (exposure_checked q (before prices)) (whole_cents most) (before mostWhole)
    pub most-parts_given : after mostParts ≡ cell_after (exposure_checked q (before prices)) (parts most) (before mostParts)
    pub exposes : exposure_checked q (before prices) ≡ passed → ExposedBy (after prices)
