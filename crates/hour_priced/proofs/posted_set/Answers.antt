-- `posted_set`: the bits from k on are known.
use Rattle.std.proofs.Common.{rules, ◌≡◌, ℕ, ◌+◌, ◌-◌, ◌*◌, ◌^◌, ◌<◌, arith}
use mir.Val.{bool_byte}
use Rattle.lists.specs.Sets.{set_of}
use Rattle.lists.proofs.Sets.{set-start, set-one, set-turn, set-fits}
use Rattle.hour_priced.proofs.posted_set.Invariants.{posted}
use Rattle.hour_priced.proofs.posted_set.Goals as goal

pub loop-k-init : goal.loop-k-init
loop-k-init c = set-start c.args.constraints (posted c.args.prices.now)

-- bit k − 1 is the one found
bit_is : (c : goal.After-lt-bit)
    → bool_byte c.lt-bit.result ≡ set_of 1 (λ (j : ℕ). posted c.args.prices.now (c.loop-k.k - 1 + j))
bit_is c = set-one c.lt-bit.result (posted c.args.prices.now) (c.loop-k.k - 1) (search rules)

fits : (c : goal.After-lt-bit) → c.loop-k.set * 2 + bool_byte c.lt-bit.result < 2 ^ 64
fits c =
    let l = c.loop-k in
    set-fits 1 c.args.constraints l.k (l.k - 1) (posted c.args.prices.now) l.set (bool_byte c.lt-bit.result) (omega arith) (omega arith) l.invariant (bit_is c) c.requires.0

pub overflow_mul-set : goal.overflow_mul-set
overflow_mul-set c = omega (arith, fits c)

pub overflow_add-set : goal.overflow_add-set
overflow_add-set c = omega (arith, fits c)

pub loop-k-preserved : goal.loop-k-preserved
loop-k-preserved c =
    let l = c.loop-k in
    set-turn 1 c.args.constraints l.k (l.k - 1) (posted c.args.prices.now) l.set (bool_byte c.lt-bit.result) (omega arith) (omega arith) l.invariant (bit_is c)
