-- `weighted_sum`: the sum so far and that of the nodes left are the hub's.
-- the weighted sum by an hour's tables
use mathlib.Core.Path.{ap, ◌∙◌}
use mathlib.Core.List.{[], ◌∷◌}
use Rattle.std.proofs.Common.{rules, length-append}
use Rattle.std.proofs.lemmas.Slice.Zip.{zip_turn, zip_end}
use Prim.Native.Nat.{ℕ}
use native.Mathlib.Omega.{arith}
use lib.ListN.{length, get_or}
use lib.IntN.{ℤ, pos, ◌*ℤ◌, +ℤ_idl}
use Rattle.lists.proofs.Search.{all-below}
use Rattle.grid_tables.specs.Hours.{factors_by, prices_by}
use Rattle.hour_mcc.specs.Inner.{mcc_in}
use Rattle.hub_mcc.proofs.Weighing.{weight_in, plus_fits, room-left, sum-turn, sum-end}
use Rattle.hub_mcc.proofs.weighted_sum.Goals as goal

pub loop-node-init : goal.loop-node-init
loop-node-init c = (+ℤ_idl _, omega (arith, c.requires.together))

pub node_mcc-mcc-requires : goal.node_mcc-mcc-requires
node_mcc-mcc-requires c =
    let a = c.args in
    let l = c.loop-node in
    let turn = zip_turn a.hub.now a.weights.now l.yielded _ l.node-iterator c.next.new.self c.next.result
    (search rules) (search rules) l.yielded_by (c.in-Some.node, c.in-Some.weight) c.in-Some.is c.next.ensures.steps in
    record { node_lt_nodes = rw (turn.2 0) (all-below a.hour.factors.nodes a.hub.now c.requires.low (length l.yielded) turn.0) }

pub weighted-requires : goal.weighted-requires
weighted-requires c =
    let a = c.args in
    let l = c.loop-node in
    let turn = zip_turn a.hub.now a.weights.now l.yielded _ l.node-iterator c.next.new.self c.next.result
    (search rules) (search rules) l.yielded_by (c.in-Some.node, c.in-Some.weight) c.in-Some.is c.next.ensures.steps in
    (c.node_mcc-mcc.ensures.1, rw (turn.3 0) (weight_in a.weights.now (length l.yielded) turn.1 l.sum.0 l.invariant.1))

pub add-sum-requires : goal.add-sum-requires
add-sum-requires c =
    let a = c.args in
    let l = c.loop-node in
    let m = c.node_mcc-mcc in
    let x = c.weighted in
    let turn = zip_turn a.hub.now a.weights.now l.yielded _ l.node-iterator c.next.new.self c.next.result
    (search rules) (search rules) l.yielded_by (c.in-Some.node, c.in-Some.weight) c.in-Some.is c.next.ensures.steps in
    let is = x.ensures ∙ ap (λ (w : ℕ). pos w *ℤ m.result.0) (turn.3 0) in
    plus_fits a.weights.now (length l.yielded) turn.1 l.sum.0 l.invariant.1 m.result.0 m.ensures.1 x.result.0 is

pub loop-node-preserved : goal.loop-node-preserved
loop-node-preserved c =
    let a = c.args in
    let l = c.loop-node in
    let m = c.node_mcc-mcc in
    let x = c.weighted in
    let i = length l.yielded in
    let turn = zip_turn a.hub.now a.weights.now l.yielded _ l.node-iterator c.next.new.self c.next.result
    (search rules) (search rules) l.yielded_by (c.in-Some.node, c.in-Some.weight) c.in-Some.is c.next.ensures.steps in
    let is = x.ensures ∙ ap (λ (w : ℕ). pos w *ℤ m.result.0) (turn.3 0) in
    let by_node = is ∙ ap (λ (z : ℤ). pos (get_or a.weights.now i 0) *ℤ z) (m.ensures.0 ∙ ap (λ (n : ℕ). mcc_in a.hour n) (turn.2 0)) in
    rw (length-append l.yielded ((c.in-Some.node, c.in-Some.weight) ∷ [])) (
      sum-turn (factors_by a.hour) (prices_by a.hour) a.hub.now a.weights.now i turn.0 turn.1 l.sum.0 x.result.0 c.add-sum.result.0 by_node c.add-sum.ensures l.invariant.0,
      room-left a.weights.now i turn.1 l.sum.0 l.invariant.1 m.result.0 m.ensures.1 x.result.0 is c.add-sum.result.0 c.add-sum.ensures,
    )

pub returns : goal.returns
returns c =
    let a = c.args in
    let l = c.loop-node in
    let end = zip_end a.hub.now a.weights.now l.yielded _ l.node-iterator c.next.new.self c.next.result
    (search rules) (search rules) l.yielded_by c.in-None.is c.next.ensures.steps in
    record {
      result_value = sum-end (factors_by a.hour) (prices_by a.hour) a.hub.now a.weights.now (length l.yielded) (omega (arith, end, c.requires.one_each)) l.sum.0 l.invariant.0;
      result_bound = omega arith;
    }
