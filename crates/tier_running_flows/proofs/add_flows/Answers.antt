-- `add_flows`: nothing is written before the flows were tried.
use mathlib.Core.Path.{refl, sym, ap, ◌∙◌}
use mathlib.Core.List.{List}
use native.Mathlib.Omega.{arith}
use lib.IntN.{ℤ}
use Rattle.lists.specs.Lent.{overwrite}
use Rattle.lists.specs.Sets.{set_of}
use Rattle.test_rules.proofs.Judging.{over}
use Rattle.tariff.specs.Units.{factors_of}
use Rattle.tier_running_rules.specs.Inner.{StateLike}
use Rattle.tier_running_rules.proofs.Flowing.{counted-few, tried_sized, tried_cells}
use Rattle.tier_running_rules.proofs.Overs.{adds-other, adds-odd, adds-over, adds-held, tried_set}
use Rattle.tier_running_flows.proofs.add_flows.Goals as goal

pub returns-then-not-own : goal.returns-then-not-own
returns-then-not-own c =
    let a = c.args in
    adds-other a.own a.grid.limits.now a.process (factors_of a.grid.factors.nodes a.grid.factors.constraints a.grid.factors.cells.now) a.c a.numbers.now a.flows.now c.if-not-own.true

pub returns-then-no_state : goal.returns-then-no_state
returns-then-no_state c =
    let a = c.args in
    adds-odd a.own a.grid.limits.now a.process (factors_of a.grid.factors.nodes a.grid.factors.constraints a.grid.factors.cells.now) a.c a.numbers.now a.flows.now c.if-not-own.false
    (sym c.no_state.ensures ∙ c.if-no_state.true)

pub flows_with-tried-requires : goal.flows_with-tried-requires
flows_with-tried-requires c =
    let a = c.args in
    let like : StateLike a.grid.factors.constraints a.numbers.now a.flows.now =
    record { long = omega (arith, c.requires.flows_long, c.requires.good-factors.few); room = c.requires.room; told = sym c.no_state.ensures ∙ c.if-no_state.false } in
    (c.requires.in_range, like)

pub of-requires : goal.of-requires
of-requires c =
    let a = c.args in
    let like : StateLike a.grid.factors.constraints a.numbers.now a.flows.now =
    record { long = omega (arith, c.requires.flows_long, c.requires.good-factors.few); room = c.requires.room; told = sym c.no_state.ensures ∙ c.if-no_state.false } in
    record {
      few = c.requires.good-factors.few;
      good-limits = c.requires.good-limits;
      flows-sized = tried_sized a.grid.factors.nodes a.grid.factors.constraints a.grid.factors.cells.now a.c a.numbers.now a.flows.now _ c.flows_with-tried.ensures c.requires.good-factors c.requires.in_range like;
    }

pub fill_flows-requires : goal.fill_flows-requires
fill_flows-requires c =
    let a = c.args in
    let like : StateLike a.grid.factors.constraints a.numbers.now a.flows.now =
    record { long = omega (arith, c.requires.flows_long, c.requires.good-factors.few); room = c.requires.room; told = sym c.no_state.ensures ∙ c.if-no_state.false } in
    record { constraints_le_max_constraints = (c.requires.good-factors.few, like.long); by_index = tried_sized a.grid.factors.nodes a.grid.factors.constraints a.grid.factors.cells.now a.c a.numbers.now a.flows.now _ c.flows_with-tried.ensures c.requires.good-factors c.requires.in_range like }

pub overflow_add-numbers : goal.overflow_add-numbers
overflow_add-numbers c =
    let a = c.args in
    let like : StateLike a.grid.factors.constraints a.numbers.now a.flows.now =
    record { long = omega (arith, c.requires.flows_long, c.requires.good-factors.few); room = c.requires.room; told = sym c.no_state.ensures ∙ c.if-no_state.false } in
    omega (arith, counted-few a.grid.factors.constraints a.numbers.now a.flows.now like)

pub returns-then-overload_set-ne0 : goal.returns-then-overload_set-ne0
returns-then-overload_set-ne0 c =
    let a = c.args in
    let l = c.of.ensures in
    let told = c.overload_set.ensures ∙ (λ i. set_of (l.constraints_kept i) (over (l.limits_kept i) a.process (l.flows_kept i).flows)) in
    let like : StateLike a.grid.factors.constraints a.numbers.now a.flows.now =
    record { long = omega (arith, c.requires.flows_long, c.requires.good-factors.few); room = c.requires.room; told = sym c.no_state.ensures ∙ c.if-no_state.false } in
    adds-over a.own a.grid.limits.now a.process (factors_of a.grid.factors.nodes a.grid.factors.constraints a.grid.factors.cells.now) a.c a.numbers.now a.flows.now c.if-not-own.false like.told
    c.overload_set.result
    (tried_set a.grid.factors.nodes a.grid.factors.constraints a.grid.limits.now a.process a.grid.factors.cells.now a.c a.flows.now _ c.flows_with-tried.ensures c.overload_set.result told)
    (λ z. omega (arith, c.if-overload_set-ne0.true))

pub returns : goal.returns
returns c =
    let a = c.args in
    let l = c.of.ensures in
    let told = c.overload_set.ensures ∙ (λ i. set_of (l.constraints_kept i) (over (l.limits_kept i) a.process (l.flows_kept i).flows)) in
    let like : StateLike a.grid.factors.constraints a.numbers.now a.flows.now =
    record { long = omega (arith, c.requires.flows_long, c.requires.good-factors.few); room = c.requires.room; told = sym c.no_state.ensures ∙ c.if-no_state.false } in
    adds-held a.own a.grid.limits.now a.process (factors_of a.grid.factors.nodes a.grid.factors.constraints a.grid.factors.cells.now) a.c a.numbers.now a.flows.now c.if-not-own.false like.told
    c.overload_set.result
    (tried_set a.grid.factors.nodes a.grid.factors.constraints a.grid.limits.now a.process a.grid.factors.cells.now a.c a.flows.now _ c.flows_with-tried.ensures c.overload_set.result told)
    (omega (arith, c.if-overload_set-ne0.false)) _ _ refl
    (c.fill_flows.ensures
    ∙ ap (λ (l : List ℤ). overwrite l a.flows.now) (tried_cells a.grid.factors.nodes a.grid.factors.constraints a.grid.factors.cells.now a.c a.numbers.now a.flows.now _ c.flows_with-tried.ensures))
