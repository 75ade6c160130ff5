-- An hour of any size as calls of settle_hour, or of crr_settle_hour, slice by slice: each contract's cents, the sum and the exact total are the whole's. Beyond
-- the papers. Statements only.
use Rattle.std.specs.Prelude.{◌≡◌, ℕ, length, take, ℤ, pos, ◌+ℤ◌, ◌*ℤ◌, Ok}
use mathlib.Core.List.{List, map, flat_map}
use Rattle.lists.specs.Lent.{Lent, after}
use Rattle.integers.specs.Sums.{sum_over_of}
use Rattle.tariff.specs.declared.contracts.Contract.{Contract}
use Rattle.tariff.specs.declared.contracts.Period.{Period}
use Rattle.tariff.specs.Units.{Factors, per_cent}
use Rattle.layouts.specs.BookFile.{book_in}
use Rattle.hour_rules.specs.SettleHour.{HourCall, hour_factors, hour_prices, hour_period, cents_of, cents_sum, hour_total, SettlesHour, SettlesForC, settled}
use Rattle.order_rules.specs.Reordering.{Reordered}
use Rattle.slice_rules.specs.Slices.{Block, AllStandFor}
use Rattle.slice_rules.specs.Hours.{PricedBlock}

-- what a call gave, where it refused nothing: the cents' place at exit, their sum, and the exact total
pub data HourGiven (q : HourCall) : List ℤ → ℤ → ℤ → Type 0 where
  by_entry : (cents : Lent (List ℤ)) (sets : Lent (List ℕ)) (sum whole : ℤ) (part : ℕ) → SettlesHour q (settled sum whole part) cents sets
      → HourGiven q (after cents) sum (whole *ℤ pos per_cent +ℤ pos part)
  by_crr : (cents : Lent (List ℤ)) (sets : Lent (List ℕ)) (sum whole : Lent ℤ) (part : Lent ℕ) → SettlesForC q 0 cents sets sum whole part
      → HourGiven q (after cents) (after sum) (after whole *ℤ pos per_cent +ℤ pos (after part))

module _ (whole : Factors) (prices : List ℕ) (t : Period) where
  -- one such call, for some of the whole's contracts and all constraints that have a price
  pub record HourSlice : Type 0 where
    pub call : HourCall
    pub contracts : List Contract
    pub block : Block
    pub size_is : call.constraints ≡ block.size
    pub period-is : hour_period call ≡ t
    pub priced : PricedBlock whole.constraints prices block (hour_prices call)
    pub stands : AllStandFor whole block (hour_factors call) contracts (book_in call.book)
    pub cents : List ℤ
    pub sum : ℤ
    pub total : ℤ
    pub given : HourGiven call cents sum total

  -- its figures are those that the rules give its contracts on the whole
  pub record SliceSettledAsWhole (s : HourSlice) : Type 0 where
    pub cents-are : take (length s.contracts) s.cents ≡ map (cents_of whole prices t) s.contracts
    pub sum_is : s.sum ≡ cents_sum whole prices t s.contracts
    pub total-is : s.total ≡ hour_total whole prices t s.contracts

  -- slices that hold together the book's contracts, in any order, give together the book's sum and exact total
  pub record HourSettledAsWhole (book : List Contract) (slices : List HourSlice) : Type 0 where
    pub sums_are : sum_over_of slices (λ (s : HourSlice). s.sum) ≡ cents_sum whole prices t book
    pub totals-are : sum_over_of slices (λ (s : HourSlice). s.total) ≡ hour_total whole prices t book

-- THE STATEMENTS, for every grid and book, of any number of nodes, constraints and contracts
pub record HoursInSlices : Type 0 where
  pub slice_settled_as_whole : (whole : Factors) (prices : List ℕ) (t : Period) (s : HourSlice whole prices t) → SliceSettledAsWhole whole prices t s
  pub hour_settled_as_whole : (whole : Factors) (prices : List ℕ) (t : Period) (book : List Contract) (slices : List (HourSlice whole prices t))
      → Reordered (flat_map (λ (s : HourSlice whole prices t). s.contracts) slices) book → HourSettledAsWhole whole prices t book slices
