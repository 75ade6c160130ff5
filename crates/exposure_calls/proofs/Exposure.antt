-- What the exposure's promise says of its two figures and of the prices.
use mathlib.Core.Path.{◌≡◌, sym, ap, ap₂, ◌∙◌, subst}
use mathlib.Core.List.{List}
use Prim.Native.Nat.{ℕ}
use native.Mathlib.Omega.{arith}
use lib.ListN.{get_or}
use lib.IntN.{ℤ, pos, ◌+ℤ◌, ◌*ℤ◌}
use Rattle.lists.specs.Lent.{Lent, before, after}
use Rattle.integers.proofs.Linear.{≤ℤ-trans, ≤ℤ-of_≡}
use Rattle.integers.proofs.Division.{floor_split}
use Rattle.std.specs.Prelude.{Ok, Err}
use Rattle.tariff.specs.Refusals.{passed}
use Rattle.tariff.specs.Units.{per_cent}
use Rattle.tariff.specs.Refusals.{number_after}
use Rattle.tariff.specs.Settlement.{whole_cents, parts}
use Rattle.tariff.proofs.Answers.{given-told, none-refused, figure-is}
use Rattle.tariff.proofs.Checks.{passed_append}
use Rattle.tariff.proofs.Worst.{pass→worst, worst→pass}
use Rattle.test_rules.specs.TestBook.{TestCall, test_checks, test_checked, tested_grid, tested_process, tested_contracts}
use Rattle.exposure_shortfall.specs.FindShortfall.{shortfall_checked, asked_prices}
use Rattle.exposure_bounds.specs.FindExposure.{exposure_checks, exposure_checked, least, most, exposure_values, ExposedBy, FindsExposure, FindsExposureForC}
use Rattle.exposure_calls.specs.Shortfall.{figure}
use Rattle.exposure_calls.specs.Exposure.{WorstOf, overloads_of, ExposureSaid, ExposureCalls}
use Rattle.exposure_calls.proofs.Shortfall.{found_makes, gives_of, list_accepted, list_gives, asked-list, cells-make}
use Rattle.exposure_bounds.specs.FindExposure.{exposure_found}

-- x is the least and y the most
module _ (q : TestCall) (prices : Lent (List ℕ)) (accepts : exposure_checked q (before prices) ≡ passed) (e : ExposedBy q (after prices)) (x y : ℤ) (low : x ≡ least q)
    (high : y ≡ most q) where
  tests : test_checked q ≡ passed
  unfolding exposure_checks
  tests = (passed_append (test_checks q) _ accepts).0

  accepted : shortfall_checked q (after prices) ≡ passed
  accepted = list_accepted q tests (after prices) e.is-list

  said : ExposureSaid q prices x y
  said =
      record {
        prices-cost_the_least = λ answer h. gives_of answer (e.reached ∙ sym low) (list_gives q tests (after prices) e.is-list answer h);
        crr_prices_cost_the_least = λ number a c d b f g h.
            (h.refusal-number ∙ ap number_after accepted, cells-make q (after prices) number a c d b f g h accepted ∙ e.reached ∙ sym low);
        none-costs_more = λ p a c d b f g h.
            ≤ℤ-trans (≤ℤ-of_≡ (found_makes q p a c d b f g h))
            (≤ℤ-trans (e.at_most (asked_prices q p) (asked-list q p (given-told (shortfall_checked q p) _ _ h.figures-given).0)) (≤ℤ-of_≡ (sym high)));
        crr_none_costs_more = λ p a c d b f g h.
            let taken = none-refused (shortfall_checked q p) h.refusal-number in
            ≤ℤ-trans (≤ℤ-of_≡ (cells-make q p 0 a c d b f g h taken)) (≤ℤ-trans (e.at_most (asked_prices q p) (asked-list q p taken)) (≤ℤ-of_≡ (sym high)));
        exact-where_few = λ h. (subst (WorstOf q) (sym low) (e.exact-where_few h), low ∙ e.same_where_few h ∙ sym high);
        exposure_brackets = λ w h. let b = e.brackets w h in (≤ℤ-trans (≤ℤ-of_≡ low) b.0, ≤ℤ-trans b.1 (≤ℤ-of_≡ (sym high)));
        exposure_near = ≤ℤ-trans (≤ℤ-of_≡ high) (≤ℤ-trans e.near (≤ℤ-of_≡ (ap (λ (z : ℤ). z *ℤ pos (overloads_of q)) (sym low))));
        exact-for_obligations = λ h.
            let same = e.exact-for_obligations h in
            (subst (WorstOf q) (sym same ∙ sym low) (e.exact same), low ∙ same ∙ sym high);
        pass_is_no_exposure = λ answer h.
            let d = (h.demand3 tests).pass_is_worst_zero in
            (λ t. high ∙ none.1 (d.0 t), λ z. d.1 (none.0 (sym high ∙ z)));
        crr_pass_is_no_exposure = λ set count lowest excess h.
            let d = (h.demand3 tests).empty_is_worst_zero in
            (λ t. high ∙ none.1 (d.0 t), λ z. d.1 (none.0 (sym high ∙ z)));
      }
    where
      none : (most q ≡ pos 0 → WorstOf q (pos 0)) × (WorstOf q (pos 0) → most q ≡ pos 0)
      none = (
        λ z. pass→worst (tested_grid q) (tested_process q) (tested_contracts q) (e.none-is_pass.0 z),
        λ w. e.none-is_pass.1 (worst→pass (tested_grid q) (tested_process q) (tested_contracts q) w),
      )

-- the figure that two of the values given make
given-figure : (vs ws : List ℤ) → ws ≡ vs → (i j : ℕ) → get_or ws i (pos 0) *ℤ pos per_cent +ℤ get_or ws j (pos 0) ≡ get_or vs i (pos 0) *ℤ pos per_cent +ℤ get_or vs j (pos 0)
given-figure vs ws e i j = ap (λ (xs : List ℤ). get_or xs i (pos 0) *ℤ pos per_cent +ℤ get_or xs j (pos 0)) e

exposure_said : (q : TestCall) (prices : Lent (List ℕ)) (lw mw : ℤ) (lp mp : ℕ) → FindsExposure q prices (exposure_found lw lp mw mp)
    → ExposureSaid q prices (figure lw lp) (figure mw mp)
exposure_said q prices lw mw lp mp h =
    let told = given-told (exposure_checked q (before prices)) (exposure_values q) _ h.figures-given in
    said q prices told.0 (h.exposes told.0) (figure lw lp) (figure mw mp)
    (given-figure _ _ told.1 0 1 ∙ floor_split (least q) per_cent (omega arith))
    (given-figure _ _ told.1 2 3 ∙ floor_split (most q) per_cent (omega arith))

crr_exposure_said : (q : TestCall) (prices : Lent (List ℕ)) (lw mw : Lent ℤ) (lp mp : Lent ℕ) → FindsExposureForC q 0 prices lw lp mw mp
    → ExposureSaid q prices (figure (after lw) (after lp)) (figure (after mw) (after mp))
crr_exposure_said q prices lw mw lp mp h =
    let x = exposure_checked q (before prices) in
    let taken = none-refused x h.refusal-number in
    said q prices taken (h.exposes taken) (figure (after lw) (after lp)) (figure (after mw) (after mp))
    (ap₂ figure (figure-is x taken (whole_cents (least q)) (before lw) (after lw) h.least-whole_given)
    (figure-is x taken (parts (least q)) (before lp) (after lp) h.least-parts_given)
    ∙ floor_split (least q) per_cent (omega arith))
    (ap₂ figure (figure-is x taken (whole_cents (most q)) (before mw) (after mw) h.most-whole_given)
    (figure-is x taken (parts (most q)) (before mp) (after mp) h.most-parts_given)
    ∙ floor_split (most q) per_cent (omega arith))

pub exposure_calls_lem : ExposureCalls
exposure_calls_lem = record { exposure_said = exposure_said; crr_exposure_said = crr_exposure_said }
