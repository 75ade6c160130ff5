-- `row_keys`: none where the test passes; else those of the contracts, collected and sorted.
use mathlib.Core.Path.{ap}
use mathlib.Core.List.{List, ◌++◌}
use Prim.Native.Nat.{ℕ, ◌≤◌}
use native.Mathlib.Omega.{arith}
use lib.ListN.{length, drop}
use Rattle.test_rules.proofs.Flowing.{carried_judgeable}
use Rattle.cut_keys.proofs.Listing.{passes, fails, excesses, listed-keys}
use Rattle.cut_keys.proofs.row_keys.Goals as goal

pub of-loading-requires : goal.of-loading-requires
of-loading-requires c =
    let t = c.args.test in
    let f = t.grid.factors in
    carried_judgeable f.nodes f.constraints t.grid.limits.now f.cells.now t.period t.book.now t.grid.good f.good t.accepted c.carry-flows.result c.carry-flows.ensures

pub returns-then-overload_set-eq0-clause-keys_value : goal.returns-then-overload_set-eq0-clause-keys_value
returns-then-overload_set-eq0-clause-keys_value c =
    let t = c.args.test in
    let f = t.grid.factors in
    let l = c.of-loading.ensures in
    passes f.nodes f.constraints t.grid.limits.now f.cells.now t.process t.period t.book.now t.grid.good f.good t.accepted c.carry-flows.result c.carry-flows.ensures
    c.overload_set.result (rw (l.constraints_kept, l.limits_kept, l.flows_kept) at c.overload_set.ensures) c.if-overload_set-eq0.true

pub fill_excess-requires : goal.fill_excess-requires
fill_excess-requires c = rw c.of-loading.ensures.constraints_kept c.args.test.grid.factors.good.few

pub of-requires : goal.of-requires
of-requires c =
    let t = c.args.test in
    let f = t.grid.factors in
    let l = c.of-loading.ensures in
    excesses f.nodes f.constraints t.grid.limits.now f.cells.now t.process t.period t.book.now t.grid.good f.good t.accepted c.carry-flows.result c.carry-flows.ensures
    _ _ (rw (l.constraints_kept, l.limits_kept, l.flows_kept) at c.fill_excess.ensures)

pub returns-clause-keys_value : goal.returns-clause-keys_value
returns-clause-keys_value c =
    let t = c.args.test in
    let f = t.grid.factors in
    let l = c.of-loading.ensures in
    let k = c.collect_keys-count in
    let h = k.ensures in
    let sort = ap (λ (xs : List ℕ). xs ++ drop k.result k.new.keys) c.sort.ensures in
    let room : k.result ≤ length k.new.keys = omega (arith, h.upper_bound.0, h.upper_bound.1) in
    let out = fails f.nodes f.constraints t.grid.limits.now f.cells.now t.process t.period t.book.now t.grid.good f.good t.accepted c.carry-flows.result c.carry-flows.ensures
    c.overload_set.result (rw (l.constraints_kept, l.limits_kept, l.flows_kept) at c.overload_set.ensures) c.if-overload_set-eq0.false in
    listed-keys f.nodes f.constraints t.grid.limits.now f.cells.now t.process t.period t.book.now t.grid.good f.good t.accepted c.carry-flows.result c.carry-flows.ensures
    _ _ (rw (l.constraints_kept, l.limits_kept, l.flows_kept) at c.fill_excess.ensures) out k.result _ _ room (rw (c.of.ensures.test_kept, c.of.ensures.cells_kept) at h.keys_value) sort
