-- What `find_exposure` gives, against what `find_shortfall` and `test_book` answer on the same book, and the same of their C functions. Beyond the papers.
-- Statements only.
use Rattle.std.specs.Prelude.{◌≡◌, ◌↔◌, List, ℕ, ◌≤◌, ℤ, pos, ◌*ℤ◌, ◌≤ℤ◌, Ok, Err}
use Rattle.lists.specs.Lists.{Each}
use Rattle.lists.specs.Lent.{Lent, after}
use Rattle.tariff.specs.declared.contracts.Contract.{Contract}
use Rattle.tariff.specs.declared.contracts.Kind.TheVariants.{Obligation}
use Rattle.tariff.specs.Feasibility.{overload_count}
use Rattle.tariff.specs.Shortfall.{IsWorst}
use Rattle.test_rules.specs.TestBook.{TestAnswer, pass}
use Rattle.test_rules.specs.TestBook.{TestCall, tested_grid, tested_process, tested_contracts, TestsBook, TestsBookForC}
use Rattle.exposure_shortfall.specs.FindShortfall.{ShortfallAnswer, shortfall_found}
use Rattle.exposure_shortfall.specs.FindShortfall.{FindsShortfall, FindsShortfallForC}
use Rattle.exposure_rules.specs.Exposure.{few_overloads}
use Rattle.exposure_bounds.specs.FindExposure.{FindsExposure, FindsExposureForC, exposure_found}
use Rattle.exposure_calls.specs.Shortfall.{figure, GivesShortfall}

module _ (q : TestCall) where
  -- w is the worst shortfall of what is tested; how many constraints that overloads
  abbrev pub WorstOf : ℤ → Type 0
  WorstOf w = IsWorst (tested_grid q) (tested_process q) (tested_contracts q) w

  abbrev pub overloads_of : ℕ
  overloads_of = overload_count (tested_grid q) (tested_process q) (tested_contracts q)

  -- the least and the most that were given, and the prices' place at exit
  pub record ExposureSaid (prices : Lent (List ℕ)) (least most : ℤ) : Type 0 where
    -- at the prices written the shortfall given is the least
    pub prices-cost_the_least : (answer : ShortfallAnswer) → FindsShortfall q (after prices) answer → GivesShortfall least answer
    pub crr_prices_cost_the_least : (number : ℕ) (a c e : Lent ℤ) (b d f : Lent ℕ) → FindsShortfallForC q (after prices) number a b c d e f
        → (number ≡ 0) × (figure (after e) (after f) ≡ least)
    -- at no prices that are taken is it above the most
    pub none-costs_more : (p : List ℕ) (a c e : ℤ) (b d f : ℕ) → FindsShortfall q p (shortfall_found a b c d e f) → figure e f ≤ℤ most
    pub crr_none_costs_more : (p : List ℕ) (a c e : Lent ℤ) (b d f : Lent ℕ) → FindsShortfallForC q p 0 a b c d e f → figure (after e) (after f) ≤ℤ most
    -- where at most ten constraints are overloaded both are the worst shortfall
    pub exact-where_few : overloads_of ≤ few_overloads → WorstOf least × (least ≡ most)
    -- however many are, it is between them, and the most is no more than the least for each of them
    pub exposure_brackets : (w : ℤ) → WorstOf w → (least ≤ℤ w) × (w ≤ℤ most)
    pub exposure_near : most ≤ℤ (least *ℤ pos overloads_of)
    -- without options both are the worst shortfall
    pub exact-for_obligations : Each (λ (c : Contract). c.kind ≡ Obligation) (tested_contracts q) → WorstOf least × (least ≡ most)
    -- the most is 0 exactly where the test passes
    pub pass_is_no_exposure : (answer : TestAnswer) → TestsBook q answer → (answer ≡ pass) ↔ (most ≡ pos 0)
    pub crr_pass_is_no_exposure : (set count lowest : Lent ℕ) (excess : Lent ℤ) → TestsBookForC q 0 set count lowest excess → (after set ≡ 0) ↔ (most ≡ pos 0)

-- THE STATEMENTS
pub record ExposureCalls : Type 0 where
  pub exposure_said : (q : TestCall) (prices : Lent (List ℕ)) (lw mw : ℤ) (lp mp : ℕ) → FindsExposure q prices (exposure_found lw lp mw mp)
      → ExposureSaid q prices (figure lw lp) (figure mw mp)
  -- the same of `crr_find_exposure`, where it answers 0
  pub crr_exposure_said : (q : TestCall) (prices : Lent (List ℕ)) (lw mw : Lent ℤ) (lp mp : Lent ℕ) → FindsExposureForC q 0 prices lw lp mw mp
      → ExposureSaid q prices (figure (after lw) (after lp)) (figure (after mw) (after mp))
