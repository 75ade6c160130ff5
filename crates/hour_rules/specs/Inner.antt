-- What the inner functions of settling say: a contract's amount in an hour, the running totals, and what contracts settle to.
use Rattle.std.specs.Prelude.{◌≡◌, cond, List, map, ℕ, ◌+◌, ◌*◌, ◌≤◌, ◌<◌, get_or, take, ℤ, pos, nat_abs, ◌+ℤ◌, ◌*ℤ◌}
use Rattle.std.specs.Int.Count.{ones}
use Rattle.integers.specs.Sums.{sum_to}
use Rattle.lists.specs.Lists.{list_to}
use Rattle.lists.specs.Lent.{overwrite}
use Rattle.tariff.specs.declared.contracts.Contract.{Contract}
use Rattle.tariff.specs.declared.contracts.Period.{Period}
use Rattle.tariff.specs.declared.units.Mcc.{Mcc}
use Rattle.tariff.specs.Units.{Factors, factors_of, max_constraints, per_cent}
use Rattle.tariff.specs.ContractRules.{same_period}
use Rattle.tariff.specs.Inner.{max_amount, max_cents}
use Rattle.tariff.specs.Settlement.{amount, priced_set_of, cents}
use Rattle.layouts.specs.BookFile.{contract_count_in, book_in}
use Rattle.grid_tables.specs.declared.table.HourTable.{HourTable}
use Rattle.hour_mcc.specs.Inner.{MccAt}
use Rattle.hour_rules.specs.declared.PricedAmount.{PricedAmount}
use Rattle.hour_rules.specs.declared.Totals.{Totals}
use Rattle.hour_rules.specs.SettleHour.{cents_of, priced_of, cents_sum, hour_total}

-- the MCCs of a contract's two ends
pub record EndMccs (t : HourTable) (c : Contract) (sink source : Mcc) : Type 0 where
  pub sink-is : MccAt t c.sink sink
  pub source_is : MccAt t c.source source

-- what a contract adds to an hour of the period: nothing for the other period's
unfoldable pub hour_amount : Factors → List ℕ → Period → Contract → ℤ
hour_amount f p t c = cond (same_period c.period t) (amount f p c) (pos 0)

-- a contract's amount with what priced it, and what of both counts in an hour of the period
pub record AmountOf (f : Factors) (p : List ℕ) (c : Contract) (r : PricedAmount) : Type 0 where
  pub amount-is : r.amount.0 ≡ amount f p c
  pub amount-sized : nat_abs r.amount.0 ≤ max_amount
  pub priced-is : r.priced ≡ priced_set_of f p c

pub record HourAmount (f : Factors) (p : List ℕ) (t : Period) (c : Contract) (r : PricedAmount) : Type 0 where
  pub amount-is : r.amount.0 ≡ hour_amount f p t c
  pub amount-sized : nat_abs r.amount.0 ≤ max_amount
  pub priced-is : r.priced ≡ priced_of f p t c

-- ---- totals

-- the exact total that whole cents and parts make
abbrev pub exact_of : Totals → ℤ
exact_of t = t.whole *ℤ pos per_cent +ℤ pos t.parts

-- totals after so many contracts
pub record Bounded (m : ℕ) (t : Totals) : Type 0 where
  pub parts-small : t.parts < per_cent
  pub sum-sized : nat_abs t.sum ≤ (max_cents + 1) * m
  pub whole-sized : nat_abs t.whole ≤ (max_cents + 1) * m

-- totals with one amount more
pub record Added (t : Totals) (amount : ℤ) (r : Totals) : Type 0 where
  pub sum : r.sum ≡ t.sum +ℤ cents amount
  pub exact : exact_of r ≡ exact_of t +ℤ amount
  pub bounded : (m : ℕ) → Bounded m t → Bounded (m + 1) r

-- ---- what is settled, with the place for the cents at entry and at exit, and that for the sets

-- the first m of the contracts f
module _ (g : Factors) (p : List ℕ) (t : Period) (m : ℕ) (f : ℕ → Contract) where
  pub record SettlesFirst (entry exit : List ℤ) (sets handed : List ℕ) (r : Totals) : Type 0 where
    pub cells : exit ≡ overwrite (list_to m (λ i. cents (hour_amount g p t (f i)))) entry
    pub priced : handed ≡ overwrite (list_to m (λ i. priced_of g p t (f i))) sets
    pub sum : r.sum ≡ sum_to m (λ i. cents (hour_amount g p t (f i)))
    pub exact : exact_of r ≡ sum_to m (λ i. hour_amount g p t (f i))
    pub bounded : Bounded m r

-- a book, by an hour's tables
module _ (n k : ℕ) (t : Period) (factors : List ℤ) (prices : List ℕ) (book : List ℕ) where
  pub record Settles (entry exit : List ℤ) (sets handed : List ℕ) (r : Totals) : Type 0 where
    pub cells : exit ≡ overwrite (map (cents_of (factors_of n k factors) (take k prices) t) (book_in book)) entry
    pub priced : handed ≡ overwrite (map (priced_of (factors_of n k factors) (take k prices) t) (book_in book)) sets
    pub sum : r.sum ≡ cents_sum (factors_of n k factors) (take k prices) t (book_in book)
    pub exact : exact_of r ≡ hour_total (factors_of n k factors) (take k prices) t (book_in book)
    pub bounded : Bounded (contract_count_in book) r
    pub cells-sized : (i : ℕ) → i < contract_count_in book → nat_abs (get_or exit i (pos 0)) ≤ max_cents
    pub priced-sized : (i : ℕ) → i < contract_count_in book → ones (get_or handed i 0) ≤ max_constraints

abbrev pub SettlesBy : HourTable → Period → List ℕ → List ℤ → List ℤ → List ℕ → List ℕ → Totals → Type 0
SettlesBy t period = Settles t.factors.nodes t.factors.constraints period t.factors.cells.now t.prices.now
