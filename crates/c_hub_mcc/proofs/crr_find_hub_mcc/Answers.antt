-- `crr_find_hub_mcc`.
use mathlib.Core.Path.{sym, ap, ◌∙◌}
use native.Mathlib.Omega.{arith}
use lib.IntN.{ℤ}
use mir.Syntax.{w64}
use mir.Val.{to_z, of_z}
use Rattle.integers.proofs.Machine.{back}
use Rattle.tariff.proofs.Answers.{refused_answers, refused_keeps, some_refuses, given-answers, given-signed, given-count}
use Rattle.hub_mcc.specs.FindHubMcc.{find_hub_mcc_call, find_hub_mcc_checked, hub_mcc_outcome, quotient_given, remainder_given}
use Rattle.hub_mcc.proofs.Passing.{found_sized}
use Rattle.c_hub_mcc.proofs.crr_find_hub_mcc.Goals as goal

pub returns-in-Err : goal.returns-in-Err
returns-in-Err c =
    let a = c.args in
    let q = find_hub_mcc_call a.nodes a.constraints a.factors.now a.prices.now a.hub.now a.weights.now in
    let told = sym (ap hub_mcc_outcome c.in-Err.is) ∙ c.find_hub_mcc.ensures.mcc-found in
    let r = c.in-Err.refusal in
    record {
      refusal-number = refused_answers (find_hub_mcc_checked q) _ r told c.number.ensures;
      quotient_given_lem = refused_keeps (find_hub_mcc_checked q) _ r told (quotient_given q) a.quotient.now;
      remainder_given_lem = refused_keeps (find_hub_mcc_checked q) _ r told (remainder_given q) a.remainder.now;
      exact = λ h. absurd (some_refuses (find_hub_mcc_checked q) _ r told h);
    }

pub from-requires : goal.from-requires
from-requires c =
    let a = c.args in
    let q = find_hub_mcc_call a.nodes a.constraints a.factors.now a.prices.now a.hub.now a.weights.now in
    omega (arith, found_sized q _ c.find_hub_mcc.ensures.mcc-found c.in-Ok.found.quotient c.in-Ok.found.remainder c.in-Ok.is)

pub returns-in-Ok : goal.returns-in-Ok
returns-in-Ok c =
    let a = c.args in
    let q = find_hub_mcc_call a.nodes a.constraints a.factors.now a.prices.now a.hub.now a.weights.now in
    let f = c.find_hub_mcc.ensures in
    let told = sym (ap hub_mcc_outcome c.in-Ok.is) ∙ f.mcc-found in
    let kept = ap (λ (z : ℤ). to_z w64 (of_z w64 z)) c.from.ensures ∙ back c.in-Ok.found.quotient.0 (omega (arith, found_sized q _ f.mcc-found c.in-Ok.found.quotient c.in-Ok.found.remainder c.in-Ok.is)) in
    record {
      refusal-number = given-answers (find_hub_mcc_checked q) _ _ told;
      quotient_given_lem = kept ∙ given-signed (find_hub_mcc_checked q) _ _ told 0 a.quotient.now;
      remainder_given_lem = given-count (find_hub_mcc_checked q) _ _ told 1 a.remainder.now;
      exact = λ h. rw kept (f.exact h c.in-Ok.found.quotient c.in-Ok.found.remainder c.in-Ok.is);
    }
