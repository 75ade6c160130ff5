-- `fill_excess`: the cells passed hold the excesses passed, and those behind are as they were.
use mathlib.Core.Path.{sym, ◌∙◌}
use native.Mathlib.Omega.{arith}
use lib.ListN.{length-set}
use lib.IntN.{pos}
use Rattle.lists.specs.Lists.{list_to}
use Rattle.lists.proofs.Fill.{fill_turn, rest-turn, fill_front}
use Rattle.lists.proofs.Lists.{length-list_to, get_d_list_to}
use Rattle.test_excesses.specs.Inner.{excess_in}
use Rattle.test_excesses.proofs.Excesses.{excess-kept}
use Rattle.test_excesses.proofs.fill_excess.Goals as goal

pub loop-k-preserved : goal.loop-k-preserved
loop-k-preserved c =
    let s = c in
    let l = c.loop-k in
    let f = excess_in s.args.loading.limits.now s.args.process s.args.loading.flows.now.flows in
    let h = c.loop-k-test.true in
    let is = excess-kept s.args.loading.limits.now s.args.process s.args.loading.flows.now.flows l.k c.released.result.0 c.sub-excess.result.0
    (s.args.loading.judgeable.flows-sized l.k h) (s.args.loading.judgeable.good-limits.sized l.k h) c.released.ensures c.sub-excess.ensures in
    let v = is ∙ sym (get_d_list_to s.args.loading.constraints f l.k (pos 0) h) in (
      simp length-set l.invariant.0,
      fill_turn (list_to s.args.loading.constraints f) l.out l.k l.invariant.1 _ (pos 0) (omega (arith, s.requires, l.invariant.0)) (rw (length-list_to s.args.loading.constraints f) h) v,
      rest-turn l.out s.args.out.now l.k _ l.invariant.2,
    )

pub returns : goal.returns
returns c =
    let s = c in
    let l = c.loop-k in
    let f = excess_in s.args.loading.limits.now s.args.process s.args.loading.flows.now.flows in
    fill_front (list_to s.args.loading.constraints f) l.out s.args.out.now l.k l.invariant.1 l.invariant.2
    (rw (length-list_to s.args.loading.constraints f) (omega arith))
