-- Demand 3 over two entries' answers: what `find_shortfall` gives on a book that `test_book` answered on, and the same of their C functions. Beyond the papers.
-- Statements only.
use Rattle.std.specs.Prelude.{◌≡◌, List, ℕ, ℤ, pos, ◌+ℤ◌, ◌*ℤ◌, ◌≤ℤ◌, Ok, Err}
use Rattle.lists.specs.Lent.{Lent, after}
use Rattle.tariff.specs.declared.units.Flow.{Flow}
use Rattle.tariff.specs.Units.{per_cent}
use Rattle.tariff.specs.Shortfall.{one_cent}
use Rattle.test_rules.specs.TestBook.{TestCall, TestsBook, TestsBookForC, pass, fail}
use Rattle.exposure_shortfall.specs.FindShortfall.{ShortfallAnswer, shortfall_found}
use Rattle.exposure_shortfall.specs.FindShortfall.{FindsShortfall, FindsShortfallForC}

-- whole cents and parts as one figure, in 10^-8 cents
abbrev pub figure : ℤ → ℕ → ℤ
figure whole part = whole *ℤ pos per_cent +ℤ pos part

-- the answer is no refusal, and the shortfall that it gives is z
pub record GivesShortfall (z : ℤ) (answer : ShortfallAnswer) : Type 0 where
  pub payment-whole : ℤ
  pub payment-parts : ℕ
  pub rent-whole : ℤ
  pub rent-parts : ℕ
  pub shortfall-whole : ℤ
  pub shortfall-parts : ℕ
  pub is_found : answer ≡ shortfall_found payment-whole payment-parts rent-whole rent-parts shortfall-whole shortfall-parts
  pub makes : figure shortfall-whole shortfall-parts ≡ z

-- THE STATEMENTS. a and b are the payment given, c and d the rent, e and f the shortfall: whole cents and parts.
pub record ShortfallCalls : Type 0 where
  -- "the same whole number as the shortfall, in 10^-8 cents, of the list with 1 there and 0 elsewhere": on a fail, at one cent on the constraint that the test
  -- names, the shortfall given is the excess that it gave
  pub one_cent_gives_the_excess : (q : TestCall) (set count lowest : ℕ) (over : Flow) → TestsBook q (fail set count lowest over)
      → (answer : ShortfallAnswer) → FindsShortfall q (one_cent q.constraints lowest) answer → GivesShortfall over.0 answer
  -- on a pass, at no prices that are taken is the shortfall given above 0
  pub passing-costs_nothing : (q : TestCall) → TestsBook q pass → (prices : List ℕ) (a c e : ℤ) (b d f : ℕ) → FindsShortfall q prices (shortfall_found a b c d e f)
      → figure e f ≤ℤ pos 0
  -- the same of the C functions
  pub crr_one_cent_gives_the_excess : (q : TestCall) (set count lowest : Lent ℕ) (excess : Lent ℤ) → TestsBookForC q 0 set count lowest excess → (after set ≡ 0 → ⊥)
      → (number : ℕ) (a c e : Lent ℤ) (b d f : Lent ℕ) → FindsShortfallForC q (one_cent q.constraints (after lowest)) number a b c d e f
      → (number ≡ 0) × (figure (after e) (after f) ≡ after excess)
  pub crr_passing_costs_nothing : (q : TestCall) (set count lowest : Lent ℕ) (excess : Lent ℤ) → TestsBookForC q 0 set count lowest excess → after set ≡ 0
      → (prices : List ℕ) (a c e : Lent ℤ) (b d f : Lent ℕ) → FindsShortfallForC q prices 0 a b c d e f → figure (after e) (after f) ≤ℤ pos 0
