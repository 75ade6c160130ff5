-- `verdict`.
use Prim.Native.Nat.{◌^◌}
use native.Mathlib.Omega.{arith}
use lib.Dec.{lit<}
use lib.ListN.{get_or}
use lib.Count.{count_trailing_zeros}
use lib.IntN.{pos}
use Rattle.test_rules.proofs.Flowing.{kept-sized}
use Rattle.test_rules.proofs.Judging.{over, lowest-in, released-small, difference_is}
use Rattle.test_verdict.proofs.Judging.{empty_outcome, full_outcome}
use Rattle.test_verdict.proofs.loading.Loading.verdict.Goals as goal

pub returns-then-set-eq0 : goal.returns-then-set-eq0
returns-then-set-eq0 c =
    empty_outcome c.args.self.constraints c.args.self.limits.now c.args.process c.args.self.flows.now.flows c.overload_set-set.result c.overload_set-set.ensures c.if-set-eq0.true

pub bounds-self-lowest-2 : goal.bounds-self-lowest-2
bounds-self-lowest-2 c =
    let low = lowest-in c.args.self.constraints c.overload_set-set.result (over c.args.self.limits.now c.args.process c.args.self.flows.now.flows) c.overload_set-set.ensures c.if-set-eq0.false c.args.self.judgeable.few in
    omega (arith, low, c.args.self.judgeable.good-limits.long)

pub released-requires : goal.released-requires
released-requires c =
    let low = lowest-in c.args.self.constraints c.overload_set-set.result (over c.args.self.limits.now c.args.process c.args.self.flows.now.flows) c.overload_set-set.ensures c.if-set-eq0.false c.args.self.judgeable.few in
    c.args.self.judgeable.good-limits.sized _ low

pub sub-excess-requires : goal.sub-excess-requires
sub-excess-requires c =
    let low = lowest-in c.args.self.constraints c.overload_set-set.result (over c.args.self.limits.now c.args.process c.args.self.flows.now.flows) c.overload_set-set.ensures c.if-set-eq0.false c.args.self.judgeable.few in
    let l = count_trailing_zeros 64 c.overload_set-set.result in
    let flow = kept-sized (get_or c.args.self.flows.now.flows l (pos 0)) (2 ^ 62) (lit< tt) (omega (arith, c.args.self.judgeable.flows-sized l low)) in
    let limit = released-small c.released.result.0 (get_or c.args.self.limits.now l 0) c.args.process (c.args.self.judgeable.good-limits.sized l low) c.released.ensures in
    omega (arith, flow, limit)

pub returns : goal.returns
returns c =
    let low = lowest-in c.args.self.constraints c.overload_set-set.result (over c.args.self.limits.now c.args.process c.args.self.flows.now.flows) c.overload_set-set.ensures c.if-set-eq0.false c.args.self.judgeable.few in
    let o = c.overload_set-set in
    let l = count_trailing_zeros 64 o.result in
    let over = difference_is (get_or c.args.self.flows.now.flows l (pos 0)) c.released.result.0 c.sub-excess.result.0 _ (c.args.self.judgeable.flows-sized l low) c.released.ensures c.sub-excess.ensures in
    full_outcome c.args.self.constraints c.args.self.limits.now c.args.process c.args.self.flows.now.flows
    o.result o.ensures c.args.self.judgeable.few c.if-set-eq0.false c.sub-excess.result over
