-- `share_balance`: where no check refuses, the demands are in range and the cells suffice; the shares are fair.
use mathlib.Core.Path.{◌≡◌, sym, ap, ◌∙◌, subst}
use Rattle.std.proofs.Common.{ℕ, List, ◌-◌, ◌≤◌, ◌<◌}
use native.Mathlib.Omega.{arith}
use lib.ListN.{length}
use lib.IntN.{ℤ, nat_abs}
use mir.Syntax.{w64}
use mir.Val.{to_z, of_z, SFits}
use mir.ValLaws.{to_z-of_z}
use Rattle.lists.specs.Lent.{overwrite}
use Rattle.tariff.proofs.Answers.{answer-passed, cells-passed}
use Rattle.largest_remainders.specs.Shares.{leftover, whole}
use Rattle.largest_remainders.proofs.Callers.{searchable_front, keys_from_front}
use Rattle.largest_remainders.proofs.Sharing.{wholes_le}
use Rattle.share_rules.specs.ShareBalance.{share_call, share_checked, demand_of, shares_of, Fair, total_demand}
use Rattle.largest_remainders.specs.Ranks.{add_to}
use Rattle.tariff.specs.Refusals.{Checked, passed}
use Rattle.share_rules.specs.Inner.{Weighed, leftover_of}
use Rattle.share_rules.proofs.Passing.{Ready, share-ready}
use Rattle.share_rules.proofs.Sharing.{searchable, cut}
use Rattle.share_rules.proofs.Theorems.{shares_are_fair}
use Rattle.share_balance.proofs.share_balance.Goals as goal

-- what the checks found, of the balance as it was handed over
abbrev found : (balance : ℤ) (demands : List ℕ) (shares : List ℤ) (checked : Checked) → SFits w64 balance → checked ≡ share_checked (share_call (to_z w64 (of_z w64 balance)) demands shares)
    → checked ≡ share_checked (share_call balance demands shares)
found balance demands shares checked fits told = told ∙ ap (λ (z : ℤ). share_checked (share_call z demands shares)) (to_z-of_z w64 balance fits)

-- none of the checks refuses
ok : (balance : ℤ) (demands : List ℕ) (shares : List ℤ) (checked : Checked) → SFits w64 balance → checked ≡ share_checked (share_call (to_z w64 (of_z w64 balance)) demands shares)
    → checked ≡ passed → Ready (share_call balance demands shares)
ok balance demands shares checked fits told passed = share-ready (share_call balance demands shares) (sym (found balance demands shares checked fits told) ∙ passed)

size_is : (balance : ℤ) (size : ℕ) → SFits w64 balance → size ≡ nat_abs (to_z w64 (of_z w64 balance)) → size ≡ nat_abs balance
size_is balance size fits told = told ∙ ap nat_abs (to_z-of_z w64 balance fits)

weighed : (balance : ℤ) (demands : List ℕ) (shares : List ℤ) (size sum : ℕ) → Ready (share_call balance demands shares) → size ≡ nat_abs balance → sum ≡ total_demand demands → Weighed size sum demands
weighed balance demands shares size sum o size_told sum_told =
    record {
      demands-in = o.demands;
      size_small = omega (arith, o.balance-in);
      sum_is = sum_told;
      positive = omega (arith, o.positive);
    }

-- what is left over
left_is : (demands : List ℕ) (size given : ℕ) → 0 < total_demand demands → given ≡ add_to (length demands) (whole (length demands) (demand_of demands) size)
    → (given ≤ size) × (size - given ≡ leftover_of size demands)
unfolding leftover
left_is demands size given positive told =
    let few = wholes_le (length demands) (demand_of demands) size positive in
    (omega (arith, told, few), ap (λ (x : ℕ). size - x) told)

pub total_of-sum-requires : goal.total_of-sum-requires
total_of-sum-requires c =
    let a = c.args in
    (ok a.balance a.demands.now a.shares.now _ c.ranges.balance c.check_share.ensures c.in_ok-check_share.was).demands

pub fill_wholes-given-requires : goal.fill_wholes-given-requires
fill_wholes-given-requires c =
    let a = c.args in
    let o = ok a.balance a.demands.now a.shares.now _ c.ranges.balance c.check_share.ensures c.in_ok-check_share.was in
    let few = o.demands.few in
    record {
      weighed = weighed a.balance a.demands.now a.shares.now _ _ o (size_is a.balance _ c.ranges.balance c.unsigned_abs-size.ensures.value) c.total_of-sum.ensures.0;
      demands_in_bounds = (few, few);
    }

pub overflow_sub-size : goal.overflow_sub-size
overflow_sub-size c =
    let a = c.args in
    let o = ok a.balance a.demands.now a.shares.now _ c.ranges.balance c.check_share.ensures c.in_ok-check_share.was in
    (left_is a.demands.now c.unsigned_abs-size.result _ o.positive c.fill_wholes-given.ensures.value).0

pub threshold-least-requires : goal.threshold-least-requires
threshold-least-requires c =
    let a = c.args in
    let o = ok a.balance a.demands.now a.shares.now _ c.ranges.balance c.check_share.ensures c.in_ok-check_share.was in
    let w = weighed a.balance a.demands.now a.shares.now _ _ o (size_is a.balance _ c.ranges.balance c.unsigned_abs-size.ensures.value) c.total_of-sum.ensures.0 in
    let cents = c.fill_wholes-given.ensures.rounded_cents in
    searchable_front _ (length a.demands.now) cents.key_cells _ _
    (searchable c.unsigned_abs-size.result c.total_of-sum.result a.demands.now w _ _ cents _
    (left_is a.demands.now c.unsigned_abs-size.result _ o.positive c.fill_wholes-given.ensures.value).1)

pub fill_shares-requires : goal.fill_shares-requires
fill_shares-requires c =
    let a = c.args in
    let o = ok a.balance a.demands.now a.shares.now _ c.ranges.balance c.check_share.ensures c.in_ok-check_share.was in
    let size = size_is a.balance _ c.ranges.balance c.unsigned_abs-size.ensures.value in
    let w = weighed a.balance a.demands.now a.shares.now _ _ o size c.total_of-sum.ensures.0 in
    let x = c.threshold-least in
    let cents = c.fill_wholes-given.ensures.rounded_cents in
    let all = cut c.unsigned_abs-size.result c.total_of-sum.result a.demands.now w _ _ cents _
    (left_is a.demands.now c.unsigned_abs-size.result _ o.positive c.fill_wholes-given.ensures.value).1 in
    (all a.balance _ x.result (to_z-of_z w64 a.balance c.ranges.balance) size (sym (keys_from_front _ (length a.demands.now) cents.key_cells x.result) ∙ x.ensures), o.room)

pub returns : goal.returns
returns c =
    let a = c.args in
    let q = share_call a.balance a.demands.now a.shares.now in
    let checked = c.check_share.result in
    let told = found a.balance a.demands.now a.shares.now checked c.ranges.balance c.check_share.ensures in
    let passed = c.in_ok-check_share.was in
    let o = ok a.balance a.demands.now a.shares.now checked c.ranges.balance c.check_share.ensures passed in
    let cells = c.fill_shares.ensures ∙ ap (λ (z : ℤ). overwrite (shares_of z q.demands) q.place) (to_z-of_z w64 a.balance c.ranges.balance) in
    record {
      answer-given = answer-passed checked (share_checked q) told passed _;
      shares_given = cells-passed checked (share_checked q) told passed (shares_of q.balance q.demands) q.place _ cells;
      fair = λ e. subst (Fair q.balance q.demands) (sym cells) (shares_are_fair q.balance q.demands o.positive q.place);
    }
