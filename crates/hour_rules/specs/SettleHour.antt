-- Settling an hour (document 01, "The rules" and "When input is turned down"; document 02, paper 8).
use Rattle.std.specs.Prelude.{◌≡◌, cond, List, [], ◌∷◌, ◌++◌, map, ℕ, length, take, ℤ, pos, ◌+ℤ◌, ◌*ℤ◌, Ok, Err, Result}
use Rattle.grid_tables.specs.TableChecks.{hour_tables_with}
use Rattle.lists.specs.Lent.{Lent, before, after}
use Rattle.integers.specs.Sums.{sum_over_of}
use Rattle.tariff.specs.declared.contracts.Contract.{Contract}
use Rattle.tariff.specs.declared.contracts.Period.{Period}
use Rattle.tariff.specs.Refusals.{Checked, passed}
use Rattle.tariff.specs.Units.{Factors, factors_of, per_cent}
use Rattle.tariff.specs.ContractRules.{same_period, period_of, of_period}
use Rattle.tariff.specs.Refusals.{Check, first, Outcome, given, refused_by, answered, cells_after, cell_after, number_after}
use Rattle.tariff.specs.Checks.{period_number, short_table}
use Rattle.tariff.specs.Settlement.{amount, priced_set_of, exact_total, cents, whole_cents, parts}
use Rattle.layouts.specs.BookFile.{contract_count_in, book_in}
use Rattle.book_rules.specs.BookChecks.{book_checks}
use Rattle.tariff.specs.declared.refusals.Refusal.{Refusal}
use Rattle.hour_rules.specs.declared.Totals.{Totals}

-- the counts, the period by number, the tables and the book's bytes
pub record HourCall : Type 0 where
  pub nodes : ℕ
  pub constraints : ℕ
  pub period : ℕ
  pub factors : List ℤ
  pub prices : List ℕ
  pub book : List ℕ

abbrev pub hour_call : ℕ → ℕ → ℕ → List ℤ → List ℕ → List ℕ → HourCall
hour_call n k period factors prices book = record { nodes = n; constraints = k; period = period; factors = factors; prices = prices; book = book }

-- what settling an hour answers beside the cells: the totals, or the refusal
abbrev pub SettleAnswer : Type 0
SettleAnswer = Result Totals Refusal

abbrev pub settled : ℤ → ℤ → ℕ → SettleAnswer
settled sum whole part = Ok (record { sum = sum; whole = whole; parts = part })

-- the sum of the rounded cents, and the exact total as whole cents and parts
abbrev pub settle_outcome : SettleAnswer → Outcome
settle_outcome (Ok totals) = given (totals.sum ∷ totals.whole ∷ pos totals.parts ∷ [])
settle_outcome (Err r) = refused_by r

module _ (f : Factors) (p : List ℕ) (t : Period) where
  -- "One cell of cents for each contract; the other period's are 0."
  unfoldable pub cents_of : Contract → ℤ
  cents_of c = cond (same_period c.period t) (cents (amount f p c)) (pos 0)

  -- "Settlement hands it on, empty for the other period's contracts": one cell for each contract, the set as a number
  unfoldable pub priced_of : Contract → ℕ
  priced_of c = cond (same_period c.period t) (priced_set_of f p c) 0

  -- the rounded cents of the period's contracts, added
  unfoldable pub cents_sum : List Contract → ℤ
  cents_sum book = sum_over_of (of_period t book) (λ c. cents (amount f p c))

  -- the exact total of the period's contracts, summed before rounding
  unfoldable pub hour_total : List Contract → ℤ
  hour_total book = exact_total f p (of_period t book)

module _ (q : HourCall) where
  -- "2, 3, 17, 9 (tables), 7, 15, the book's own from 1 to 13, then 9 if the cents don't fit", the sets "with its cells under the last 9"
  unfoldable pub settle_checks : ℕ → ℕ → List Check
  settle_checks cents sets =
      hour_tables_with (period_number q.period ∷ []) [] q.nodes q.constraints q.factors q.prices
      ++ book_checks q.nodes q.book
      ++ short_table cents (contract_count_in q.book)
      ∷ short_table sets (contract_count_in q.book)
      ∷ []

  -- with the places for the cents and for the sets
  abbrev pub settle_checked : Lent (List ℤ) → Lent (List ℕ) → Checked
  settle_checked cents sets = first (settle_checks (length (before cents)) (length (before sets)))

  -- what is settled: factors, prices, period
  abbrev pub hour_factors : Factors
  hour_factors = factors_of q.nodes q.constraints q.factors

  abbrev pub hour_prices : List ℕ
  hour_prices = take q.constraints q.prices

  abbrev pub hour_period : Period
  hour_period = period_of q.period

  -- the figures given
  abbrev pub cents_cells : List ℤ
  cents_cells = map (cents_of hour_factors hour_prices hour_period) (book_in q.book)

  abbrev pub priced_cells : List ℕ
  priced_cells = map (priced_of hour_factors hour_prices hour_period) (book_in q.book)

  abbrev pub sum_given : ℤ
  sum_given = cents_sum hour_factors hour_prices hour_period (book_in q.book)

  abbrev pub exact_given : ℤ
  exact_given = hour_total hour_factors hour_prices hour_period (book_in q.book)

-- the promise: the answer, and the two places
module _ (q : HourCall) where
  pub record SettlesHour (answer : SettleAnswer) (cents : Lent (List ℤ)) (sets : Lent (List ℕ)) : Type 0 where
    pub totals : settle_outcome answer ≡ answered (settle_checked q cents sets) (sum_given q ∷ whole_cents (exact_given q) ∷ pos (parts (exact_given q)) ∷ [])
    pub cents-settled : after cents ≡ cells_after (settle_checked q cents sets) (cents_cells q) (before cents)
    pub sets-handed_on : after sets ≡ cells_after (settle_checked q cents sets) (priced_cells q) (before sets)
    pub exact : settle_checked q cents sets ≡ passed
        → (sum whole : ℤ) (part : ℕ) → answer ≡ settled sum whole part → whole *ℤ pos per_cent +ℤ pos part ≡ exact_given q

  -- the same for C: the refusal's number, and the totals in lent figures
  pub record SettlesForC (number : ℕ) (cents : Lent (List ℤ)) (sets : Lent (List ℕ)) (sum whole : Lent ℤ) (part : Lent ℕ) : Type 0 where
    pub refusal-number : number ≡ number_after (settle_checked q cents sets)
    pub cents-settled : after cents ≡ cells_after (settle_checked q cents sets) (cents_cells q) (before cents)
    pub sets-handed_on : after sets ≡ cells_after (settle_checked q cents sets) (priced_cells q) (before sets)
    pub sum-given : after sum ≡ cell_after (settle_checked q cents sets) (sum_given q) (before sum)
    pub whole-given : after whole ≡ cell_after (settle_checked q cents sets) (whole_cents (exact_given q)) (before whole)
    pub parts-given : after part ≡ cell_after (settle_checked q cents sets) (parts (exact_given q)) (before part)
    pub exact : settle_checked q cents sets ≡ passed → after whole *ℤ pos per_cent +ℤ pos (after part) ≡ exact_given q
