-- `check_return`: the checks of marking, then the flag.
use Rattle.std.proofs.lemmas.Result.{err_from_is_err_and}
use mathlib.Core.Path.{sym, ◌∙◌}
use native.Mathlib.Omega.{arith}
use Rattle.tier_mark_rules.specs.MarkTier.{mark_tier_call}
use Rattle.tier_mark_rules.specs.ReturnToTier.{return_to_tier_call}
use Rattle.tier_mark_rules.proofs.Marks.{tier-refuses, unset, is_set, at-tier}
use Rattle.tier_marks.proofs.check_return.Goals as goal

pub returns-in_err-check_tier : goal.returns-in_err-check_tier
returns-in_err-check_tier c =
    let p = err_from_is_err_and c.from_residual.result c.from_residual.ensures.1 in
    rw (p.1, p.2)
    (let k = c in tier-refuses (return_to_tier_call k.args.tier k.args.numbers.now k.args.flows.now) k.check_tier.result k.check_tier.ensures _ c.in_err-check_tier.was)

pub returns-then-numbers-tier-eq0 : goal.returns-then-numbers-tier-eq0
returns-then-numbers-tier-eq0 c =
    let e = c in let k = c in unset (return_to_tier_call k.args.tier k.args.numbers.now k.args.flows.now) k.check_tier.result k.check_tier.ensures e.in_ok-check_tier.was (omega arith)

pub returns : goal.returns
returns c =
    let e = c in let k = c in is_set (return_to_tier_call k.args.tier k.args.numbers.now k.args.flows.now) k.check_tier.result k.check_tier.ensures e.in_ok-check_tier.was (λ q. omega arith)

pub overflow_mul-tier : goal.overflow_mul-tier
overflow_mul-tier c = omega (arith, (let a = c.args in at-tier (mark_tier_call a.tier a.numbers.now a.flows.now) (sym c.check_tier.ensures ∙ c.in_ok-check_tier.was)).last-tier)

pub overflow_sub-tier : goal.overflow_sub-tier
overflow_sub-tier c = omega (arith, (let a = c.args in at-tier (mark_tier_call a.tier a.numbers.now a.flows.now) (sym c.check_tier.ensures ∙ c.in_ok-check_tier.was)).some_tier)

pub offset_bounds-numbers-tier : goal.offset_bounds-numbers-tier
offset_bounds-numbers-tier c = omega (arith, (let a = c.args in at-tier (mark_tier_call a.tier a.numbers.now a.flows.now) (sym c.check_tier.ensures ∙ c.in_ok-check_tier.was)).last-tier)

pub bounds-numbers-tier : goal.bounds-numbers-tier
bounds-numbers-tier c = omega (arith, (let a = c.args in at-tier (mark_tier_call a.tier a.numbers.now a.flows.now) (sym c.check_tier.ensures ∙ c.in_ok-check_tier.was)).last-tier, (let a = c.args in at-tier (mark_tier_call a.tier a.numbers.now a.flows.now) (sym c.check_tier.ensures ∙ c.in_ok-check_tier.was)).numbers-long)
