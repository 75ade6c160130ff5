-- What the shortfall's promise says of its answers, and demand 3 over two entries' answers.
use mathlib.Core.Path.{◌≡◌, refl, ap, ap₂, ◌∙◌}
use mathlib.Core.Bool.{false}
use mathlib.Core.List.{List, [], ◌∷◌}
use Prim.Native.Nat.{ℕ, suc, ◌≤◌, ◌<◌}
use native.Mathlib.Omega.{arith}
use borrow.Author.Tests.{le-ltb}
use lib.ListN.{length, get_or, take, length-take}
use lib.IntN.{ℤ, pos, ◌+ℤ◌, ◌*ℤ◌}
use lib.Signed.{◌≤ℤ◌}
use Rattle.lists.specs.Lists.{any_of}
use Rattle.lists.specs.Lent.{Lent, before, after}
use Rattle.integers.proofs.Linear.{≤ℤ-trans, ≤ℤ-of_≡}
use Rattle.integers.proofs.Division.{floor_split}
use Rattle.tariff.specs.declared.units.Flow.{Flow}
use Rattle.std.specs.Prelude.{Ok, Err}
use Rattle.tariff.specs.Refusals.{passed}
use Rattle.tariff.specs.Units.{max_price, per_cent}
use Rattle.tariff.specs.Settlement.{whole_cents, parts}
use Rattle.tariff.specs.Refusals.{number_after}
use Rattle.tariff.specs.Checks.{price_bad}
use Rattle.tariff.specs.Shortfall.{PriceList, one_cent, shortfall}
use Rattle.tariff.proofs.Answers.{given-told, some_refuses, none-refused, figure-is}
use Rattle.grid_tables.proofs.Cells.{cut-sized}
use Rattle.test_rules.specs.TestBook.{TestCall, test_checked, tested_grid, tested_process, tested_contracts, TestsBook, TestsBookForC, pass, fail}
use Rattle.exposure_shortfall.specs.FindShortfall.{ShortfallAnswer, shortfall_found}
use Rattle.exposure_shortfall.specs.FindShortfall.{shortfall_checked, shortfall_values, shortfall_asked, asked_prices, FindsShortfall, FindsShortfallForC}
use Rattle.exposure_shortfall.proofs.Checking.{asked, passes-with}
use Rattle.exposure_calls.specs.Shortfall.{figure, GivesShortfall, ShortfallCalls}

-- ---- what an answer gives

module _ (q : TestCall) (prices : List ℕ) where
  -- what is found is the shortfall, whatever the checks
  pub found_makes : (a c e : ℤ) (b d f : ℕ) → FindsShortfall q prices (shortfall_found a b c d e f) → figure e f ≡ shortfall_asked q prices
  found_makes a c e b d f h =
      let same = (given-told (shortfall_checked q prices) (shortfall_values q prices) _ h.figures-given).1 in
      ap₂ (λ (x y : ℤ). x *ℤ pos per_cent +ℤ y) (ap (λ (xs : List ℤ). get_or xs 4 (pos 0)) same) (ap (λ (xs : List ℤ). get_or xs 5 (pos 0)) same)
      ∙ floor_split (shortfall_asked q prices) per_cent (omega arith)

  -- where no check refuses, the shortfall is given
  pub passed_gives : shortfall_checked q prices ≡ passed → (answer : ShortfallAnswer) → FindsShortfall q prices answer
      → GivesShortfall (shortfall_asked q prices) answer
  passed_gives told (Ok found) h =
      record {
        payment-whole = found.payment.whole;
        payment-parts = found.payment.parts;
        rent-whole = found.rent.whole;
        rent-parts = found.rent.parts;
        shortfall-whole = found.shortfall.whole;
        shortfall-parts = found.shortfall.parts;
        is_found = refl;
        makes = found_makes found.payment.whole found.rent.whole found.shortfall.whole found.payment.parts found.rent.parts found.shortfall.parts h;
      }
  passed_gives told (Err r) h = absurd (some_refuses (shortfall_checked q prices) (shortfall_values q prices) r h.figures-given told)

pub gives_of : {a b : ℤ} (answer : ShortfallAnswer) → a ≡ b → GivesShortfall a answer → GivesShortfall b answer
gives_of answer e g =
    record {
      payment-whole = g.payment-whole;
      payment-parts = g.payment-parts;
      rent-whole = g.rent-whole;
      rent-parts = g.rent-parts;
      shortfall-whole = g.shortfall-whole;
      shortfall-parts = g.shortfall-parts;
      is_found = g.is_found;
      makes = g.makes ∙ e;
    }

-- ---- a price list is a table that no check refuses, and back

none-bad : (p : List ℕ) → ((j : ℕ) → j < length p → get_or p j 0 ≤ max_price) → any_of price_bad p ≡ false
unfolding any_of
none-bad [] h = refl
none-bad (x ∷ p) h = rw (le-ltb max_price x (h 0 (omega arith))) (none-bad p (λ j b. h (suc j) (omega arith)))

take_all : (p : List ℕ) (n : ℕ) → length p ≡ n → take n p ≡ p
take_all p n e = rw (← e) (whole p)
  where
    whole : (p : List ℕ) → take (length p) p ≡ p
    whole [] = refl
    whole (x ∷ p) = ap (λ (l : List ℕ). x ∷ l) (whole p)

module _ (q : TestCall) (tests : test_checked q ≡ passed) (prices : List ℕ) (l : PriceList q.constraints (asked_prices q prices)) where
  pub list_accepted : shortfall_checked q prices ≡ passed
  list_accepted =
      passes-with q prices tests (omega (arith, l.one_each, length-take q.constraints prices))
      (none-bad (asked_prices q prices) (λ j b. l.capped j (rw l.one_each at b)))

  -- whatever find_shortfall answers at a table whose front is a price list, it gives the list's shortfall
  pub list_gives : (answer : ShortfallAnswer) → FindsShortfall q prices answer → GivesShortfall (shortfall_asked q prices) answer
  list_gives answer h = passed_gives q prices list_accepted answer h

-- a price list itself
module _ (q : TestCall) (p : List ℕ) (l : PriceList q.constraints p) where
  list_cut : asked_prices q p ≡ p
  list_cut = take_all p q.constraints l.one_each

  cut_list : PriceList q.constraints (asked_prices q p)
  cut_list = rw list_cut l

  whole-costs : shortfall_asked q p ≡ shortfall (tested_grid q) (tested_process q) (tested_contracts q) p
  whole-costs = ap (shortfall (tested_grid q) (tested_process q) (tested_contracts q)) list_cut

pub asked-list : (q : TestCall) (prices : List ℕ) → shortfall_checked q prices ≡ passed → PriceList q.constraints (asked_prices q prices)
asked-list q prices told =
    let o = (asked q prices told).good-prices in
    record { one_each = length-take q.constraints prices ∙ omega (arith, o.long); capped = cut-sized max_price q.constraints prices o }

-- the cells after a call that no check refuses
pub cells-make : (q : TestCall) (prices : List ℕ) (number : ℕ) (a c e : Lent ℤ) (b d f : Lent ℕ) → FindsShortfallForC q prices number a b c d e f
    → shortfall_checked q prices ≡ passed → figure (after e) (after f) ≡ shortfall_asked q prices
cells-make q prices number a c e b d f h told =
    let z = shortfall_asked q prices in
    ap₂ figure (figure-is (shortfall_checked q prices) told (whole_cents z) (before e) (after e) h.shortfall-whole_given)
    (figure-is (shortfall_checked q prices) told (parts z) (before f) (after f) h.shortfall-parts_given)
    ∙ floor_split z per_cent (omega arith)

-- ---- demand 3

one_cent_gives_the_excess : (q : TestCall) (set count lowest : ℕ) (over : Flow) → TestsBook q (fail set count lowest over)
    → (answer : ShortfallAnswer) → FindsShortfall q (one_cent q.constraints lowest) answer → GivesShortfall over.0 answer
one_cent_gives_the_excess q set count lowest over fails answer h =
    let tests = (given-told (test_checked q) _ _ fails.figures).0 in
    let d = fails.demand3 tests in
    let p = one_cent q.constraints lowest in
    let l = d.fail_is_a_list set count lowest over refl in
    gives_of answer (whole-costs q p l ∙ d.fail_is_its_shortfall set count lowest over refl) (list_gives q tests p (cut_list q p l) answer h)

passing-costs_nothing : (q : TestCall) → TestsBook q pass → (prices : List ℕ) (a c e : ℤ) (b d f : ℕ) → FindsShortfall q prices (shortfall_found a b c d e f)
    → figure e f ≤ℤ pos 0
passing-costs_nothing q passes prices a c e b d f h =
    let tests = (given-told (test_checked q) _ _ passes.figures).0 in
    let told = (given-told (shortfall_checked q prices) _ _ h.figures-given).0 in
    let worst = (passes.demand3 tests).pass_is_worst_zero.0 refl in
    ≤ℤ-trans (≤ℤ-of_≡ (found_makes q prices a c e b d f h)) (worst.most (asked_prices q prices) (asked-list q prices told))

crr_one_cent_gives_the_excess : (q : TestCall) (set count lowest : Lent ℕ) (excess : Lent ℤ) → TestsBookForC q 0 set count lowest excess → (after set ≡ 0 → ⊥)
    → (number : ℕ) (a c e : Lent ℤ) (b d f : Lent ℕ) → FindsShortfallForC q (one_cent q.constraints (after lowest)) number a b c d e f
    → (number ≡ 0) × (figure (after e) (after f) ≡ after excess)
crr_one_cent_gives_the_excess q set count lowest excess fails named number a c e b d f h =
    let tests = none-refused (test_checked q) fails.refusal-number in
    let d3 = fails.demand3 tests in
    let p = one_cent q.constraints (after lowest) in
    let l = d3.named_is_a_list named in
    let told = list_accepted q tests p (cut_list q p l) in
    (h.refusal-number ∙ ap number_after told, cells-make q p number a c e b d f h told ∙ whole-costs q p l ∙ d3.named_is_its_shortfall named)

crr_passing_costs_nothing : (q : TestCall) (set count lowest : Lent ℕ) (excess : Lent ℤ) → TestsBookForC q 0 set count lowest excess → after set ≡ 0
    → (prices : List ℕ) (a c e : Lent ℤ) (b d f : Lent ℕ) → FindsShortfallForC q prices 0 a b c d e f → figure (after e) (after f) ≤ℤ pos 0
crr_passing_costs_nothing q set count lowest excess passes none prices a c e b d f h =
    let tests = none-refused (test_checked q) passes.refusal-number in
    let told = none-refused (shortfall_checked q prices) h.refusal-number in
    let worst = (passes.demand3 tests).empty_is_worst_zero.0 none in
    ≤ℤ-trans (≤ℤ-of_≡ (cells-make q prices 0 a c e b d f h told)) (worst.most (asked_prices q prices) (asked-list q prices told))

pub shortfall-calls : ShortfallCalls
shortfall-calls =
    record {
      one_cent_gives_the_excess = one_cent_gives_the_excess;
      passing-costs_nothing = passing-costs_nothing;
      crr_one_cent_gives_the_excess = crr_one_cent_gives_the_excess;
      crr_passing_costs_nothing = crr_passing_costs_nothing;
    }
