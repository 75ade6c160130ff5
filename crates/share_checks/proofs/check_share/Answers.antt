-- `check_share`: each return by the tests that led there.
use Rattle.std.proofs.Common.{◌≡◌, Bool, false, List, ℕ, sym, ap, ◌∙◌, nat_eq}
use borrow.Author.Tests.{eq-eqb, ne_eqb}
use lib.IntN.{ℤ}
use mir.Syntax.{w64}
use mir.Val.{to_z, of_z, SFits}
use mir.ValLaws.{to_z-of_z}
use Rattle.tariff.specs.Checks.{balance_range}
use Rattle.share_rules.specs.ShareBalance.{share_call, total_demand}
use Rattle.share_rules.proofs.Passing.{demands-in, count-refuses, balance-refuses, demand_refuses, none-refuses, room-refuses, all_pass}
use Rattle.share_checks.proofs.check_share.Goals as goal

pub returns-then-count_bad : goal.returns-then-count_bad
returns-then-count_bad c = let a = c.args in count-refuses (share_call a.balance a.demands.now a.place.now) (sym c.count_bad.ensures ∙ c.if-count_bad.true)

-- the balance as it was handed over
abbrev test : (z : ℤ) → SFits w64 z → (bad : Bool) → bad ≡ (balance_range (to_z w64 (of_z w64 z))).fails → (balance_range z).fails ≡ bad
test z fits bad told = sym (told ∙ ap (λ (z : ℤ). (balance_range z).fails) (to_z-of_z w64 z fits))

pub returns-then-balance_bad : goal.returns-then-balance_bad
returns-then-balance_bad c =
    let a = c.args in
    balance-refuses (share_call a.balance a.demands.now a.place.now) (sym c.count_bad.ensures ∙ c.if-count_bad.false) (test a.balance c.ranges.balance _ c.balance_bad.ensures ∙ c.if-balance_bad.true)

pub returns-then-cell_above : goal.returns-then-cell_above
returns-then-cell_above c =
    let a = c.args in
    let some = sym c.cell_above.ensures ∙ c.if-cell_above.true in
    demand_refuses (share_call a.balance a.demands.now a.place.now) (sym c.count_bad.ensures ∙ c.if-count_bad.false) (test a.balance c.ranges.balance _ c.balance_bad.ensures ∙ c.if-balance_bad.false) some

pub total_of-requires : goal.total_of-requires
total_of-requires c =
    let a = c.args in
    demands-in a.demands.now (sym c.count_bad.ensures ∙ c.if-count_bad.false) (sym c.cell_above.ensures ∙ c.if-cell_above.false)

pub returns-then-total_of-eq0 : goal.returns-then-total_of-eq0
returns-then-total_of-eq0 c =
    let a = c.args in
    let some = sym c.cell_above.ensures ∙ c.if-cell_above.false in
    let none = eq-eqb _ 0 (sym c.total_of.ensures.0 ∙ c.if-total_of-eq0.true) in
    none-refuses (share_call a.balance a.demands.now a.place.now) (sym c.count_bad.ensures ∙ c.if-count_bad.false) (test a.balance c.ranges.balance _ c.balance_bad.ensures ∙ c.if-balance_bad.false) some none

-- the total, which the test found to be above 0
above : (demands : List ℕ) (total : ℕ) → total ≡ total_demand demands → (total ≡ 0 → ⊥) → nat_eq (total_demand demands) 0 ≡ false
above demands total is more = ne_eqb _ 0 (λ e. more (is ∙ e))

pub returns-then-place-demands : goal.returns-then-place-demands
returns-then-place-demands c =
    let a = c.args in
    let some = sym c.cell_above.ensures ∙ c.if-cell_above.false in
    room-refuses (share_call a.balance a.demands.now a.place.now) (sym c.count_bad.ensures ∙ c.if-count_bad.false) (test a.balance c.ranges.balance _ c.balance_bad.ensures ∙ c.if-balance_bad.false) some (above a.demands.now _ c.total_of.ensures.0 c.if-total_of-eq0.false) c.if-place-demands.true

pub returns : goal.returns
returns c =
    let a = c.args in
    let some = sym c.cell_above.ensures ∙ c.if-cell_above.false in
    all_pass (share_call a.balance a.demands.now a.place.now) (sym c.count_bad.ensures ∙ c.if-count_bad.false) (test a.balance c.ranges.balance _ c.balance_bad.ensures ∙ c.if-balance_bad.false) some (above a.demands.now _ c.total_of.ensures.0 c.if-total_of-eq0.false) c.if-place-demands.false
