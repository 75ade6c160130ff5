-- `add_award`: the checks before 21, then the flows, then the award's row.
use Rattle.std.proofs.lemmas.Result.{err_from_is_err_and}
use mathlib.Core.Path.{◌≡◌, sym, ap, ap₂, subst, ◌∙◌}
use mathlib.Core.Bool.{Bool, cond}
use mathlib.Core.List.{List}
use Prim.Native.Nat.{ℕ, ◌+◌}
use native.Mathlib.Omega.{arith}
use lib.ListN.{length, set}
use lib.IntN.{ℤ}
use Rattle.tariff.specs.declared.contracts.Contract.{Contract}
use Rattle.tariff.specs.ContractRules.{same_period}
use Rattle.test_terms.specs.declared.Asked.{Asked}
use Rattle.layouts.specs.BookTable.{row_at}
use Rattle.book_rules.proofs.Accepted.{contract-in_range}
use Rattle.tier_rules.specs.Cells.{held_in, counted_in, with_award_row, with_award_flows}
use Rattle.tier_rules.proofs.Runs.{row-award}
use Rattle.tier_running_rules.specs.AddAward.{AddAwardCall, add_award_on, add_process, add_period, add_factors, awarded, own_period}
use Rattle.tier_running_rules.specs.Inner.{AddsFlows}
use Rattle.tier_running_rules.proofs.Checking.{Fields, fields}
use Rattle.tier_running_rules.proofs.Overs.{counts-kept}
use Rattle.tier_running_rules.proofs.Promises.{field-refuses, over-refuses, held_passes, adds-refused, adds-21, adds-passed}
use Rattle.tier_running_test.proofs.adding.add_award.Goals as goal

abbrev call : Asked → List ℕ → List ℤ → List ℕ → List ℕ → List ℕ → List ℤ → AddAwardCall
call n limits factors award awards numbers flows = add_award_on n.nodes n.constraints n.process n.period limits factors award awards numbers flows

-- ---- what was tried, by the call's own terms

module _ (q : AddAwardCall) where
  -- the numbers and the flows where 21 does not come
  abbrev counted : List ℕ
  counted = cond (own_period q) (set q.numbers 1 (counted_in q.numbers + 1)) q.numbers

  abbrev added : List ℤ
  added = with_award_flows (own_period q) (add_factors q) (awarded q) q.flows

  tried : (c : Contract) (over : Bool) (numbers : List ℕ) (flows : List ℤ) → c ≡ awarded q
      → AddsFlows (same_period c.period (add_period q)) q.limits (add_process q) (add_factors q) c q.numbers q.flows over numbers flows
      → AddsFlows (own_period q) q.limits (add_process q) (add_factors q) (awarded q) q.numbers q.flows over numbers flows
  tried c over numbers flows is t =
      subst
      (λ (c : Contract). AddsFlows (same_period c.period (add_period q)) q.limits (add_process q) (add_factors q) c q.numbers q.flows over numbers flows)
      is t

  -- by whether it comes
  module _ (over : Bool) (numbers : List ℕ) (flows : List ℤ)
      (t : AddsFlows (own_period q) q.limits (add_process q) (add_factors q) (awarded q) q.numbers q.flows over numbers flows) where
    numbers-by : (b : Bool) → over ≡ b → numbers ≡ cond b q.numbers counted
    numbers-by b e = t.numbers-are ∙ ap (λ (b : Bool). cond b q.numbers counted) e

    flows-by : (b : Bool) → over ≡ b → flows ≡ cond b q.flows added
    flows-by b e = t.flows-are ∙ ap (λ (b : Bool). cond b q.flows added) e

pub returns-in_err-check_award : goal.returns-in_err-check_award
returns-in_err-check_award c =
    let a = c.args in
    let q = call a.asked a.limits.now a.factors.now a.award.now a.awards.now a.numbers.now a.flows.now in
    let p = err_from_is_err_and c.from_residual.result c.from_residual.ensures.1 in
    rw (p.1, p.2)
    (adds-refused q _ (field-refuses q c.check_award.result c.check_award.ensures _ c.in_err-check_award.was))

pub contract_from-c-requires : goal.contract_from-c-requires
contract_from-c-requires c =
    let a = c.args in
    let q = call a.asked a.limits.now a.factors.now a.award.now a.awards.now a.numbers.now a.flows.now in
    let ok : Fields q (held_in q.numbers) = fields q (held_in q.numbers) (sym c.check_award.ensures ∙ c.in_ok-check_award.was) in
    ok.before.award-long

pub of-grid-requires : goal.of-grid-requires
of-grid-requires c =
    let a = c.args in
    let q = call a.asked a.limits.now a.factors.now a.award.now a.awards.now a.numbers.now a.flows.now in
    let ok : Fields q (held_in q.numbers) = fields q (held_in q.numbers) (sym c.check_award.ensures ∙ c.in_ok-check_award.was) in
    (ok.before.tables.good-limits, ok.before.tables.good-factors)

pub try_flows-over-requires : goal.try_flows-over-requires
try_flows-over-requires c =
    let a = c.args in
    let q = call a.asked a.limits.now a.factors.now a.award.now a.awards.now a.numbers.now a.flows.now in
    let ok : Fields q (held_in q.numbers) = fields q (held_in q.numbers) (sym c.check_award.ensures ∙ c.in_ok-check_award.was) in
    let in_range = contract-in_range q.nodes (row_at q.award 0) (row-award q.nodes q.award ok.row).checks_pass in
    record {
      good-limits = c.of-grid.result.good;
      good-factors = c.of-grid.result.factors.good;
      in_range = rw (c.contract_from-c.ensures, c.of-grid.ensures.nodes_kept) in_range;
      numbers-long = ok.before.numbers-long;
      flows_long = ok.before.flows_long;
      room = ok.room;
    }

pub returns-then-over : goal.returns-then-over
returns-then-over c =
    let a = c.args in
    let q = call a.asked a.limits.now a.factors.now a.award.now a.awards.now a.numbers.now a.flows.now in
    let w = c.try_flows-over in
    let kept = c.of-grid.ensures in
    let told = rw (kept.limits_kept, kept.nodes_kept, kept.constraints_kept, kept.factors_kept) at w.ensures in
    let t = tried q c.contract_from-c.result w.result w.new.numbers w.new.flows c.contract_from-c.ensures told in
    let over = c.if-over.true in
    let refused = over-refuses q c.check_award.result c.check_award.ensures c.in_ok-check_award.was (sym t.over-is ∙ over) in
    adds-21 q refused _ _ (numbers-by q w.result w.new.numbers w.new.flows t _ over) (flows-by q w.result w.new.numbers w.new.flows t _ over)

pub store_award-requires : goal.store_award-requires
store_award-requires c =
    let a = c.args in
    let q = call a.asked a.limits.now a.factors.now a.award.now a.awards.now a.numbers.now a.flows.now in
    let ok : Fields q (held_in q.numbers) = fields q (held_in q.numbers) (sym c.check_award.ensures ∙ c.in_ok-check_award.was) in
    let w = c.try_flows-over in
    let kept = c.of-grid.ensures in
    let told = rw (kept.limits_kept, kept.nodes_kept, kept.constraints_kept, kept.factors_kept) at w.ensures in
    let t = tried q c.contract_from-c.result w.result w.new.numbers w.new.flows c.contract_from-c.ensures told in
    -- the numbers before the award is stored
    let counts = numbers-by q w.result w.new.numbers w.new.flows t _ c.if-over.false in
    let k = counts-kept (own_period q) q.numbers (counted_in q.numbers + 1) in
    (ok.before.awards-long, omega (arith, ap length counts, k.0, ok.before.numbers-long), omega (arith, ap held_in counts, k.1, ok.room))

pub returns : goal.returns
returns c =
    let a = c.args in
    let q = call a.asked a.limits.now a.factors.now a.award.now a.awards.now a.numbers.now a.flows.now in
    let w = c.try_flows-over in
    let kept = c.of-grid.ensures in
    let told = rw (kept.limits_kept, kept.nodes_kept, kept.constraints_kept, kept.factors_kept) at w.ensures in
    let t = tried q c.contract_from-c.result w.result w.new.numbers w.new.flows c.contract_from-c.ensures told in
    let counts = numbers-by q w.result w.new.numbers w.new.flows t _ c.if-over.false in
    let held = ap held_in counts ∙ (counts-kept (own_period q) q.numbers (counted_in q.numbers + 1)).1 in
    let passes = held_passes q c.check_award.result c.check_award.ensures c.in_ok-check_award.was (sym t.over-is ∙ c.if-over.false) in
    adds-passed q passes _ _ _
    (c.store_award.ensures.0 ∙ ap₂ (λ (m : ℕ) (x : Contract). with_award_row m x q.awards) held c.contract_from-c.ensures)
    (c.store_award.ensures.1 ∙ ap₂ (λ (l : List ℕ) (m : ℕ). set l 0 (m + 1)) counts held) (flows-by q w.result w.new.numbers w.new.flows t _ c.if-over.false)
