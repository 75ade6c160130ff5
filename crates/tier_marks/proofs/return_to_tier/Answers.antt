-- `return_to_tier`: as `mark_tier`, with the numbers and the flows of the mark put back.
use Rattle.std.proofs.lemmas.Result.{err_from_is_err_and}
use mathlib.Core.Path.{sym, ◌∙◌}
use native.Mathlib.Omega.{arith}
use Rattle.tier_mark_rules.specs.ReturnToTier.{return_to_tier_call}
use Rattle.tier_mark_rules.proofs.Marks.{at_return, mark-apart, return_kept, return_made}
use Rattle.tier_marks.proofs.return_to_tier.Goals as goal

pub return_numbers-requires : goal.return_numbers-requires
return_numbers-requires c = let o = (let k = c in at_return _ (sym k.check_return.ensures ∙ c.in_ok-check_return.was)) in (o.some_tier, o.last-tier, o.numbers-long)

pub overflow_mul-i : goal.overflow_mul-i
overflow_mul-i c = omega (arith, (let k = c in at_return _ (sym k.check_return.ensures ∙ c.in_ok-check_return.was)).last-tier)

pub copy_block-requires : goal.copy_block-requires
copy_block-requires c = (mark-apart _ _ _ (let k = c in at_return _ (sym k.check_return.ensures ∙ c.in_ok-check_return.was))).1

pub returns-in_err-check_return : goal.returns-in_err-check_return
returns-in_err-check_return c =
    let p = err_from_is_err_and c.from_residual.result c.from_residual.ensures.1 in
    rw (p.1, p.2)
    (let k = c in return_kept _ k.check_return.result k.check_return.ensures _ c.in_err-check_return.was)

pub returns : goal.returns
returns c =
    let e = c in let k = c in let a = (k).args in
    return_made (return_to_tier_call a.tier a.numbers.now a.flows.now) k.check_return.result k.check_return.ensures e.in_ok-check_return.was _ _
    c.return_numbers.ensures c.copy_block.ensures
