-- `keys_from`: the count so far is that of the keys passed.
use Rattle.std.proofs.Common.{◌≡◌, ℕ, List, ◌+◌, ◌-◌, ◌/◌, ◌^◌, ◌<◌, ◌≤◌, sym, arith}
use lib.Dec.{leb}
use Rattle.lists.proofs.Sets.{count-le}
use Rattle.largest_remainders.specs.Inner.{key_at, key_limit}
use Rattle.largest_remainders.specs.Ranks.{keys_from_of}
use Rattle.largest_remainders.proofs.Counting.{count-start, count-more}
use Rattle.largest_remainders.proofs.Halving.{lifted_bit}
use Rattle.largest_remainders.proofs.keys_from.Goals as goal

pub loop-key-init : goal.loop-key-init
loop-key-init c = sym (count-start _)

-- one key more, as code counts
one_more : (keys : List ℕ) (i least many : ℕ) → key_at keys i < key_limit → least ≤ key_limit → many ≡ keys_from_of i (key_at keys) least
    → many + (key_at keys i + (key_limit - least)) / 2 ^ 63 ≡ keys_from_of (i + 1) (key_at keys) least
one_more keys i least many small le e = omega (arith, lifted_bit (key_at keys i) least small le, count-more i (λ j. leb least (key_at keys j)))

pub overflow_add-many-in-loop-key : goal.overflow_add-many-in-loop-key
overflow_add-many-in-loop-key c =
    let a = c.args in
    let i = c.loop-key.key-index in
    let e = one_more a.keys.now i a.least _ (c.requires.1 i (omega arith)) c.requires.0 c.loop-key.invariant in
    omega (arith, e, count-le (i + 1) (λ j. leb a.least (key_at a.keys.now j)))

pub loop-key-preserved : goal.loop-key-preserved
loop-key-preserved c =
    let i = c.loop-key.key-index in
    one_more c.args.keys.now i c.args.least _ (c.requires.1 i (omega arith)) c.requires.0 c.loop-key.invariant
