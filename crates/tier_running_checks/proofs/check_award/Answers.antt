-- `check_award`: the tables and the buffers, the number held, then the row.
use Rattle.std.proofs.lemmas.Result.{err_from_is_err_and}
use mathlib.Core.Path.{◌≡◌, ap, ◌∙◌}
use mathlib.Core.Bool.{Bool, ◌||◌}
use mathlib.Core.List.{List, [], ◌∷◌}
use Prim.Native.Nat.{ℕ}
use lib.IntN.{ℤ}
use Rattle.tariff.specs.Refusals.{Checked}
use Rattle.test_terms.specs.declared.Asked.{Asked}
use native.Mathlib.Omega.{arith}
use lib.Dec.{ltb}
use lib.ListN.{length}
use Rattle.tariff.specs.Refusals.{first}
use Rattle.layouts.specs.BookTable.{contract_cells}
use Rattle.tier_rules.specs.Checks.{running_checks}
use Rattle.tier_running_rules.specs.AddAward.{AddAwardCall, add_award_on}
use Rattle.tier_running_rules.specs.Inner.{state_short_of, short_if}
use Rattle.tier_running_rules.proofs.Checking.{add_short, AddTables, tables-refuse, tables-pass, one_too_many, then_row}
use Rattle.tier_running_checks.proofs.check_award.Goals as goal

abbrev call : Asked → List ℕ → List ℤ → List ℕ → List ℕ → List ℕ → List ℤ → AddAwardCall
call t limits factors award awards numbers flows = add_award_on t.nodes t.constraints t.process t.period limits factors award awards numbers flows

found : (q : AddAwardCall) (x : Checked) (b : Bool)
    → x ≡ first (running_checks q.nodes q.constraints q.process q.period q.limits q.factors (short_if (ltb (length q.award) contract_cells || b) ∷ []))
    → b ≡ state_short_of (length q.awards) (length q.numbers) (length q.flows)
    → x ≡ first (running_checks q.nodes q.constraints q.process q.period q.limits q.factors (short_if (add_short q) ∷ []))
found q x b e s =
    e ∙ ap (λ (b : Bool). first (running_checks q.nodes q.constraints q.process q.period q.limits q.factors (short_if (ltb (length q.award) contract_cells || b) ∷ []))) s

pub returns-in_err-check_tables : goal.returns-in_err-check_tables
returns-in_err-check_tables c =
    let a = c.args in
    let q = call a.asked a.limits.now a.factors.now a.award.now a.awards.now a.numbers.now a.flows.now in
    let f = found q c.check_tables.result c.state_short.result c.check_tables.ensures c.state_short.ensures in
    let p = err_from_is_err_and c.from_residual.result c.from_residual.ensures.1 in
    rw (p.1, p.2)
    (tables-refuse q c.check_tables.result f _ _ c.in_err-check_tables.was)

pub bounds-numbers-0 : goal.bounds-numbers-0
bounds-numbers-0 c =
    let a = c.args in
    let q = call a.asked a.limits.now a.factors.now a.award.now a.awards.now a.numbers.now a.flows.now in
    let f = found q c.check_tables.result c.state_short.result c.check_tables.ensures c.state_short.ensures in
    omega (arith, (tables-pass q c.check_tables.result f 0 c.in_ok-check_tables.was).numbers-long)

pub returns-then-numbers-ge-MAX_AWARDS : goal.returns-then-numbers-ge-MAX_AWARDS
returns-then-numbers-ge-MAX_AWARDS c =
    let a = c.args in
    let q = call a.asked a.limits.now a.factors.now a.award.now a.awards.now a.numbers.now a.flows.now in
    let f = found q c.check_tables.result c.state_short.result c.check_tables.ensures c.state_short.ensures in
    one_too_many q c.check_tables.result f _ c.in_ok-check_tables.was (omega arith)

pub check_row-requires : goal.check_row-requires
check_row-requires c =
    let a = c.args in
    let q = call a.asked a.limits.now a.factors.now a.award.now a.awards.now a.numbers.now a.flows.now in
    let f = found q c.check_tables.result c.state_short.result c.check_tables.ensures c.state_short.ensures in
    (omega arith, (tables-pass q c.check_tables.result f 0 c.in_ok-check_tables.was).award-long)

pub returns : goal.returns
returns c =
    let a = c.args in
    let q = call a.asked a.limits.now a.factors.now a.award.now a.awards.now a.numbers.now a.flows.now in
    let f = found q c.check_tables.result c.state_short.result c.check_tables.ensures c.state_short.ensures in
    then_row q c.check_tables.result f _ c.in_ok-check_tables.was (omega arith) _ c.check_row.ensures
