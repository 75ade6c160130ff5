-- `find_hub_mcc`: where no check refuses, the figures are in range and the lists are a hub.
use mathlib.Core.Path.{sym, ap, ap₂, ◌∙◌}
use mathlib.Core.List.{[], ◌∷◌}
use Prim.Native.Nat.{ℕ}
use lib.IntN.{ℤ, pos}
use Rattle.integers.specs.Division.{floor_div, floor_mod}
use Rattle.std.proofs.lemmas.Result.{err_from_is_err_and}
use Rattle.tariff.specs.Units.{hub_weight}
use Rattle.tariff.specs.Refusals.{given}
use Rattle.tariff.proofs.Answers.{answer-refused, answer-passed}
use Rattle.hub_rules.specs.Hubs.{hub_quotient, hub_remainder}
use Rattle.hub_mcc.specs.FindHubMcc.{find_hub_mcc_call, find_hub_mcc_checked, quotient_given, remainder_given}
use Rattle.hub_mcc.proofs.Passing.{ready, found_exact}
use Rattle.hub_mcc.proofs.find_hub_mcc.Goals as goal

pub of-hour-requires : goal.of-hour-requires
of-hour-requires c =
    let a = c.args in
    let q = find_hub_mcc_call a.nodes a.constraints a.factors.now a.prices.now a.hub.now a.weights.now in
    (ready q (sym c.check_hub_mcc.ensures ∙ c.in_ok-check_hub_mcc.was)).0

pub weighted_sum-sum-requires : goal.weighted_sum-sum-requires
weighted_sum-sum-requires c =
    let a = c.args in
    let q = find_hub_mcc_call a.nodes a.constraints a.factors.now a.prices.now a.hub.now a.weights.now in
    rw c.of-hour.ensures.nodes_kept (ready q (sym c.check_hub_mcc.ensures ∙ c.in_ok-check_hub_mcc.was)).1

pub returns-in_err-check_hub_mcc : goal.returns-in_err-check_hub_mcc
returns-in_err-check_hub_mcc c =
    let a = c.args in
    let q = find_hub_mcc_call a.nodes a.constraints a.factors.now a.prices.now a.hub.now a.weights.now in
    let answer = answer-refused _ (find_hub_mcc_checked q) c.check_hub_mcc.ensures _ c.in_err-check_hub_mcc.was _ in
    let p = err_from_is_err_and c.from_residual.result c.from_residual.ensures.1 in
    rw (p.1, p.2) (record { mcc-found = answer; exact = λ h. found_exact q _ answer })

pub returns : goal.returns
unfolding hub_quotient hub_remainder
returns c =
    let a = c.args in
    let q = find_hub_mcc_call a.nodes a.constraints a.factors.now a.prices.now a.hub.now a.weights.now in
    let kept = c.of-hour.ensures in
    let sum = rw (kept.nodes_kept, kept.constraints_kept, kept.factors_kept, kept.prices_kept) at c.weighted_sum-sum.ensures.result_value in
    let quotient = c.quotient.ensures.0 ∙ ap (λ (z : ℤ). floor_div z hub_weight) sum in
    let remainder = c.remainder.ensures.0 ∙ ap (λ (z : ℤ). floor_mod z hub_weight) sum in
    let passed = answer-passed _ (find_hub_mcc_checked q) c.check_hub_mcc.ensures c.in_ok-check_hub_mcc.was (quotient_given q ∷ pos (remainder_given q) ∷ []) in
    let answer = ap₂ (λ (a : ℤ) (r : ℕ). given (a ∷ pos r ∷ [])) quotient remainder ∙ passed in
    record { mcc-found = answer; exact = λ h. found_exact q _ answer }
