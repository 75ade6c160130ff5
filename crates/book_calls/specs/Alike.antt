-- Two books that a market can't tell apart by flows and exact totals, and what the entries and the C functions answer on them. Statements only; papers 5 and 11 of
-- document 02 are instances (Migration.antt, Canonical.antt), and the market's view of paper 10 is another (Market.antt).
use Rattle.std.specs.Prelude.{◌≡◌, ◌↔◌, List, ℕ, ◌≤◌, length, take, ℤ, Ok}
use Rattle.lists.specs.Lent.{Lent, before, after}
use Rattle.tariff.specs.declared.contracts.Period.{Period}
use Rattle.tariff.specs.Refusals.{passed}
use Rattle.tariff.specs.Units.{Factors}
use Rattle.tariff.specs.ContractRules.{of_period}
use Rattle.tariff.specs.Refusals.{first}
use Rattle.tariff.specs.Feasibility.{total_flow}
use Rattle.tariff.specs.Settlement.{exact_total}
use Rattle.layouts.specs.BookFile.{contract_count_in, book_in}
use Rattle.book_rules.specs.BookChecks.{own_checks}
use Rattle.test_rules.specs.TestBook.{TestAnswer, pass}
use Rattle.test_rules.specs.TestBook.{test_call, test_outcome, TestsBook, TestsBookForC}
use Rattle.test_loading.specs.FindFlows.{FlowsAnswer}
use Rattle.test_loading.specs.FindFlows.{flows_call, flows_outcome, FindsFlows, FindsFlowsForC}
use Rattle.hour_rules.specs.SettleHour.{SettleAnswer, settled}
use Rattle.hour_rules.specs.SettleHour.{hour_call, settle_outcome, SettlesHour, SettlesForC}
use Rattle.order_calls.specs.ForC.{TestFigures, SameTestGiven, HourFigures}

-- both are accepted for n nodes, and have the same flow on every constraint and the same exact total, on every grid, at all prices, in either period
pub record AlikeBooks (n : ℕ) (s t : List ℕ) : Type 0 where
  pub accepted : first (own_checks n s) ≡ passed
  pub accepted-too : first (own_checks n t) ≡ passed
  pub flows-same : (f : Factors) (u : Period) (k : ℕ) → total_flow f (of_period u (book_in s)) k ≡ total_flow f (of_period u (book_in t)) k
  pub totals-same : (f : Factors) (p : List ℕ) (u : Period) → exact_total f p (of_period u (book_in s)) ≡ exact_total f p (of_period u (book_in t))

-- two calls of find_flows on k constraints, by their numbers, into the places e and f: the same refusal, or the same flows
pub record FlowsAlike (k : ℕ) (e f : List ℤ) (a b : ℕ) (x y : List ℤ) : Type 0 where
  pub same_number : a ≡ b
  pub same_flows : a ≡ 0 → take k x ≡ take k y
  pub same_place : e ≡ f → x ≡ y

-- room for a cell of cents and of a set for each contract
abbrev pub RoomFor : List ℕ → Lent (List ℤ) → Lent (List ℕ) → Type 0
RoomFor s cents sets = (contract_count_in s ≤ length (before cents)) × (contract_count_in s ≤ length (before sets))

-- THE STATEMENTS, of the books s and t: any tables, process and period, what each call promises, refusals included
pub record AnsweredAlike (n : ℕ) (s t : List ℕ) : Type 0 where
  -- the same refusal, or the same verdict, set, count, lowest and excess
  pub test-alike : (k process period : ℕ) (limits : List ℕ) (factors : List ℤ) (a b : TestAnswer)
      → TestsBook (test_call n k process period limits factors s) a → TestsBook (test_call n k process period limits factors t) b → test_outcome a ≡ test_outcome b
  -- so the one passes exactly when the other does
  pub pass_alike : (k process period : ℕ) (limits : List ℕ) (factors : List ℤ) (a b : TestAnswer)
      → TestsBook (test_call n k process period limits factors s) a → TestsBook (test_call n k process period limits factors t) b → (a ≡ pass) ↔ (b ≡ pass)
  -- into places of equal length
  pub flows-alike : (k period : ℕ) (limits : List ℕ) (factors : List ℤ) (e f : List ℤ) → length e ≡ length f → (a b : FlowsAnswer) (x y : List ℤ)
      → FindsFlows (flows_call n k period limits factors s e) a x → FindsFlows (flows_call n k period limits factors t f) b y
      → FlowsAlike k e f (flows_outcome a).number (flows_outcome b).number x y
  -- with room for the cents and sets of each book the same refusal; and where both are settled, the same exact total
  pub settle_refused_alike : (k period : ℕ) (factors : List ℤ) (prices : List ℕ) (a b : SettleAnswer) (cents cents₂ : Lent (List ℤ)) (sets sets₂ : Lent (List ℕ))
      → SettlesHour (hour_call n k period factors prices s) a cents sets → SettlesHour (hour_call n k period factors prices t) b cents₂ sets₂
      → RoomFor s cents sets → RoomFor t cents₂ sets₂ → (settle_outcome a).number ≡ (settle_outcome b).number
  pub settle_alike : (k period : ℕ) (factors : List ℤ) (prices : List ℕ) (sum whole sum₂ whole₂ : ℤ) (part part₂ : ℕ)
      (cents cents₂ : Lent (List ℤ)) (sets sets₂ : Lent (List ℕ))
      → SettlesHour (hour_call n k period factors prices s) (settled sum whole part) cents sets
      → SettlesHour (hour_call n k period factors prices t) (settled sum₂ whole₂ part₂) cents₂ sets₂ → (whole ≡ whole₂) × (part ≡ part₂)
  -- the same of the C functions
  pub crr_test_alike : (k process period : ℕ) (limits : List ℕ) (factors : List ℤ) (a b : ℕ) (c d : TestFigures)
      → TestsBookForC (test_call n k process period limits factors s) a c.set c.count c.lowest c.excess
      → TestsBookForC (test_call n k process period limits factors t) b d.set d.count d.lowest d.excess → (a ≡ b) × (a ≡ 0 → SameTestGiven c d)
  pub crr_flows_alike : (k period : ℕ) (limits : List ℕ) (factors : List ℤ) (e f : List ℤ) → length e ≡ length f → (a b : ℕ) (x y : List ℤ) (u v : Lent ℕ)
      → FindsFlowsForC (flows_call n k period limits factors s e) a x u → FindsFlowsForC (flows_call n k period limits factors t f) b y v → FlowsAlike k e f a b x y
  pub crr_settle_refused_alike : (k period : ℕ) (factors : List ℤ) (prices : List ℕ) (a b : ℕ) (c d : HourFigures)
      → SettlesForC (hour_call n k period factors prices s) a c.cents c.sets c.sum c.whole c.part
      → SettlesForC (hour_call n k period factors prices t) b d.cents d.sets d.sum d.whole d.part
      → RoomFor s c.cents c.sets → RoomFor t d.cents d.sets → a ≡ b
  pub crr_settle_alike : (k period : ℕ) (factors : List ℤ) (prices : List ℕ) (c d : HourFigures)
      → SettlesForC (hour_call n k period factors prices s) 0 c.cents c.sets c.sum c.whole c.part
      → SettlesForC (hour_call n k period factors prices t) 0 d.cents d.sets d.sum d.whole d.part
      → (after c.whole ≡ after d.whole) × (after c.part ≡ after d.part)
