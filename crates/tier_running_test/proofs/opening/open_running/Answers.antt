-- `open_running`: where no check refuses, the numbers and the flows are cleared.
use Rattle.std.proofs.lemmas.Result.{err_from_is_err_and}
use mathlib.Core.Path.{◌≡◌, sym, ap, ◌∙◌}
use mathlib.Core.Bool.{Bool}
use mathlib.Core.List.{List, [], ◌∷◌, ◌++◌}
use Prim.Native.Nat.{ℕ}
use native.Mathlib.Omega.{arith}
use lib.IntN.{pos}
use lib.ListN.{length, drop, replicate, length-replicate}
use lib.Seq.{length-take-le}
use Rattle.lists.specs.Lent.{overwrite}
use Rattle.tariff.specs.Refusals.{Checked}
use Rattle.tariff.specs.Refusals.{first}
use Rattle.tier_rules.specs.Checks.{running_checks}
use Rattle.tier_rules.specs.Cells.{state_numbers, state_flows, opened_numbers, opened_flows}
use Rattle.tier_rules.proofs.Going.{both-kept, both-made}
use Rattle.tier_running_rules.specs.OpenRunning.{OpenRunningCall, open_running_on, open_running_checked, OpensRunning}
use Rattle.tier_running_rules.specs.Inner.{short_if, state_short_of}
use Rattle.tier_running_rules.proofs.Checking.{open_is, Openable, openable}
use Rattle.tier_running_rules.proofs.Promises.{opens-running}
use Rattle.tier_running_test.proofs.opening.open_running.Goals as goal

-- what the tables' checks and the rooms' found is what the paper's list finds
found_of : (q : OpenRunningCall) (short : Bool) (checked : Checked)
    → checked ≡ first (running_checks q.nodes q.constraints q.process q.period q.limits q.factors (short_if short ∷ []))
    → short ≡ state_short_of (length q.awards) (length q.numbers) (length q.flows) → checked ≡ open_running_checked q
found_of q short checked e f =
    open_is q checked (e ∙ ap (λ (b : Bool). first (running_checks q.nodes q.constraints q.process q.period q.limits q.factors (short_if b ∷ []))) f)

pub returns-in_err-check_tables : goal.returns-in_err-check_tables
returns-in_err-check_tables c =
    let a = c.args in
    let t = a.asked in
    let q = open_running_on t.nodes t.constraints t.process t.period a.limits.now a.factors.now a.awards.now a.numbers.now a.flows.now in
    let found = found_of q _ _ c.check_tables.ensures c.state_short-short.ensures in
    let p = err_from_is_err_and c.from_residual.result c.from_residual.ensures.1 in
    rw (p.1, p.2)
    (both-kept (open_running_checked q) (opened_numbers q.numbers) q.numbers (opened_flows q.flows) q.flows (OpensRunning q) (opens-running q)
    c.check_tables.result found _ c.in_err-check_tables.was)

-- the cells in front are cleared, and those behind are as they were
cleared : {A : Type 0} (zero : A) (many n : ℕ) (cells old : List A) → cells ≡ replicate n zero → n ≡ many → cells ++ drop many old ≡ overwrite (replicate many zero) old
cleared zero many n cells old e m =
    ap (λ l. l ++ drop many old) (e ∙ ap (λ (k : ℕ). replicate k zero) m)
    ∙ ap (λ (k : ℕ). replicate many zero ++ drop k old) (sym (length-replicate many zero))

pub slice_bounds-fill-end : goal.slice_bounds-fill-end
slice_bounds-fill-end c =
    let a = c.args in
    let t = a.asked in
    let q = open_running_on t.nodes t.constraints t.process t.period a.limits.now a.factors.now a.awards.now a.numbers.now a.flows.now in
    let found = found_of q _ _ c.check_tables.ensures c.state_short-short.ensures in
    let o : Openable q = openable q (sym found ∙ c.in_ok-check_tables.was) in
    omega (arith, o.numbers-long)

pub slice_bounds-fill-end-2 : goal.slice_bounds-fill-end-2
slice_bounds-fill-end-2 c =
    let a = c.args in
    let t = a.asked in
    let q = open_running_on t.nodes t.constraints t.process t.period a.limits.now a.factors.now a.awards.now a.numbers.now a.flows.now in
    let found = found_of q _ _ c.check_tables.ensures c.state_short-short.ensures in
    let o : Openable q = openable q (sym found ∙ c.in_ok-check_tables.was) in
    omega (arith, length-take-le state_numbers a.numbers.now o.numbers-long)

pub slice_bounds-fill-end-3 : goal.slice_bounds-fill-end-3
slice_bounds-fill-end-3 c =
    let a = c.args in
    let t = a.asked in
    let q = open_running_on t.nodes t.constraints t.process t.period a.limits.now a.factors.now a.awards.now a.numbers.now a.flows.now in
    let found = found_of q _ _ c.check_tables.ensures c.state_short-short.ensures in
    let o : Openable q = openable q (sym found ∙ c.in_ok-check_tables.was) in
    omega (arith, o.flows_long)

pub slice_bounds-fill-end-4 : goal.slice_bounds-fill-end-4
slice_bounds-fill-end-4 c =
    let a = c.args in
    let t = a.asked in
    let q = open_running_on t.nodes t.constraints t.process t.period a.limits.now a.factors.now a.awards.now a.numbers.now a.flows.now in
    let found = found_of q _ _ c.check_tables.ensures c.state_short-short.ensures in
    let o : Openable q = openable q (sym found ∙ c.in_ok-check_tables.was) in
    omega (arith, length-take-le state_flows a.flows.now o.flows_long)

pub returns : goal.returns
returns c =
    let a = c.args in
    let t = a.asked in
    let q = open_running_on t.nodes t.constraints t.process t.period a.limits.now a.factors.now a.awards.now a.numbers.now a.flows.now in
    let found = found_of q _ _ c.check_tables.ensures c.state_short-short.ensures in
    let o : Openable q = openable q (sym found ∙ c.in_ok-check_tables.was) in
    both-made (open_running_checked q) (opened_numbers q.numbers) q.numbers (opened_flows q.flows) q.flows (OpensRunning q) (opens-running q)
    c.check_tables.result found c.in_ok-check_tables.was _ _
    (cleared 0 state_numbers _ c.fill.new.self a.numbers.now (c.fill.ensures.after (λ y e. e)) (length-take-le state_numbers a.numbers.now o.numbers-long))
    (cleared (pos 0) state_flows _ c.fill-2.new.self a.flows.now (c.fill-2.ensures.after (λ y e. e)) (length-take-le state_flows a.flows.now o.flows_long))
