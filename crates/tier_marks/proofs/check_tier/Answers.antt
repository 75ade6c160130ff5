-- `check_tier`: the buffers, then the tier's number.
use native.Mathlib.Omega.{arith}
use Rattle.tier_mark_rules.specs.MarkTier.{mark_tier_call}
use Rattle.tier_mark_rules.proofs.Marks.{numbers-short, flows-short, no_tier, past_tiers, a_tier}
use Rattle.tier_marks.proofs.check_tier.Goals as goal

pub returns-then-numbers-lt-NUMBERS : goal.returns-then-numbers-lt-NUMBERS
returns-then-numbers-lt-NUMBERS c = numbers-short (mark_tier_call c.args.tier c.args.numbers.now c.args.flows.now) (omega arith)

pub returns-then-flows-lt-FLOWS : goal.returns-then-flows-lt-FLOWS
returns-then-flows-lt-FLOWS c = flows-short (mark_tier_call c.args.tier c.args.numbers.now c.args.flows.now) (omega arith) (omega arith)

pub returns-then-tier-eq0 : goal.returns-then-tier-eq0
returns-then-tier-eq0 c = no_tier (mark_tier_call c.args.tier c.args.numbers.now c.args.flows.now) (omega arith) (omega arith) (omega arith)

pub returns-then-tier-gt-MAX_TIER : goal.returns-then-tier-gt-MAX_TIER
returns-then-tier-gt-MAX_TIER c = past_tiers (mark_tier_call c.args.tier c.args.numbers.now c.args.flows.now) (omega arith) (omega arith) (λ e. omega arith) (omega arith)

pub returns : goal.returns
returns c = a_tier (mark_tier_call c.args.tier c.args.numbers.now c.args.flows.now) (omega arith) (omega arith) (λ e. omega arith) (omega arith)
