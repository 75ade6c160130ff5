-- `mark_tier`: where no check refuses, the numbers and the flows of the mark are written.
use Rattle.std.proofs.lemmas.Result.{err_from_is_err_and}
use mathlib.Core.Path.{sym, ◌∙◌}
use native.Mathlib.Omega.{arith}
use Rattle.tier_mark_rules.specs.MarkTier.{mark_tier_call}
use Rattle.tier_mark_rules.proofs.Marks.{at-tier, mark-apart, marks-kept, marks-made}
use Rattle.tier_marks.proofs.mark_tier.Goals as goal

pub mark_numbers-requires : goal.mark_numbers-requires
mark_numbers-requires c = let o = (let k = c in at-tier _ (sym k.check_tier.ensures ∙ c.in_ok-check_tier.was)) in (o.some_tier, o.last-tier, o.numbers-long)

pub overflow_mul-i : goal.overflow_mul-i
overflow_mul-i c = omega (arith, (let k = c in at-tier _ (sym k.check_tier.ensures ∙ c.in_ok-check_tier.was)).last-tier)

pub copy_block-requires : goal.copy_block-requires
copy_block-requires c = (mark-apart _ _ _ (let k = c in at-tier _ (sym k.check_tier.ensures ∙ c.in_ok-check_tier.was))).0

pub returns-in_err-check_tier : goal.returns-in_err-check_tier
returns-in_err-check_tier c =
    let p = err_from_is_err_and c.from_residual.result c.from_residual.ensures.1 in
    rw (p.1, p.2)
    (let k = c in marks-kept _ k.check_tier.result k.check_tier.ensures _ c.in_err-check_tier.was)

pub returns : goal.returns
returns c =
    let e = c in let k = c in let a = (k).args in
    marks-made (mark_tier_call a.tier a.numbers.now a.flows.now) k.check_tier.result k.check_tier.ensures e.in_ok-check_tier.was _ _
    c.mark_numbers.ensures c.copy_block.ensures
