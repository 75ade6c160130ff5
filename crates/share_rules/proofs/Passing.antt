-- The checks of sharing: what each test says of them, and what holds where none refuses.
use mathlib.Core.Path.{◌≡◌, sym, ◌∙◌}
use mathlib.Core.Bool.{true, false}
use mathlib.Core.List.{List}
use Prim.Native.Nat.{ℕ, ◌≤◌, ◌<◌}
use native.Mathlib.Nat.{eq-zero-or-pos}
use native.Mathlib.Omega.{arith}
use mathlib.Core.Logic.{⊎_elim}
use borrow.Author.Tests.{ltb-false, eqb-false, lt-ltb, le-ltb}
use lib.Dec.{ltb, eqb}
use lib.ListN.{length}
use lib.IntN.{nat_abs}
use Rattle.lists.specs.Lists.{any_of, above}
use Rattle.lists.proofs.Search.{neither, none-bad}
use Rattle.tariff.specs.declared.refusals.Refusal.{Refusal}
use Rattle.tariff.specs.declared.refusals.Refusal.TheVariants.{ShareRange, NoDemand, ShortTable}
use Rattle.std.specs.Prelude.{Err}
use Rattle.tariff.specs.Refusals.{passed}
use Rattle.tariff.specs.Units.{max_coordinators, max_balance, max_demand}
use Rattle.tariff.specs.Checks.{coordinator_count, balance_range, demand_range}
use Rattle.tariff.proofs.Checks.{first_passes, first-refuses, last-passes, passed_cons}
use Rattle.share_rules.specs.ShareBalance.{ShareCall, share_checks, share_checked, demand_of, total_demand}
use Rattle.share_rules.specs.Inner.{DemandsIn}

pub refused_not : (r : Refusal) → Err r ≡ passed → ⊥
refused_not r e = let z : ◌≡◌ {A = ℕ} 0 1 = cc in omega arith

pub demands-in : (ds : List ℕ) → (coordinator_count (length ds)).fails ≡ false → any_of (above max_demand) ds ≡ false → DemandsIn ds
demands-in ds one three = record {
  few = ltb-false max_coordinators (length ds) (neither (eqb (length ds) 0) (ltb max_coordinators (length ds)) one).1;
  small = λ i b. ltb-false max_demand (demand_of ds i) (none-bad (above max_demand) ds 0 three i b);
}

module _ (q : ShareCall) where
  pub count-refuses : (coordinator_count (length q.demands)).fails ≡ true → Err ShareRange ≡ share_checked q
  unfolding share_checks
  count-refuses e = sym (first-refuses _ _ e)

  module _ (one : (coordinator_count (length q.demands)).fails ≡ false) where
    pub balance-refuses : (balance_range q.balance).fails ≡ true → Err ShareRange ≡ share_checked q
    unfolding share_checks
    balance-refuses e = sym (first_passes _ _ one ∙ first-refuses _ _ e)

    module _ (two : (balance_range q.balance).fails ≡ false) where
      pub demand_refuses : (demand_range q.demands).fails ≡ true → Err ShareRange ≡ share_checked q
      unfolding share_checks
      demand_refuses e = sym (first_passes _ _ one ∙ first_passes _ _ two ∙ first-refuses _ _ e)

      module _ (three : (demand_range q.demands).fails ≡ false) where
        pub none-refuses : eqb (total_demand q.demands) 0 ≡ true → Err NoDemand ≡ share_checked q
        unfolding share_checks
        none-refuses e = sym (first_passes _ _ one ∙ first_passes _ _ two ∙ first_passes _ _ three ∙ first-refuses _ _ e)

        module _ (four : eqb (total_demand q.demands) 0 ≡ false) where
          pub room-refuses : length q.place < length q.demands → Err ShortTable ≡ share_checked q
          unfolding share_checks
          room-refuses h = sym (first_passes _ _ one ∙ first_passes _ _ two ∙ first_passes _ _ three ∙ first_passes _ _ four ∙ first-refuses _ _ (lt-ltb _ _ h))

          pub all_pass : length q.demands ≤ length q.place → passed ≡ share_checked q
          unfolding share_checks
          all_pass h = sym (first_passes _ _ one ∙ first_passes _ _ two ∙ first_passes _ _ three ∙ first_passes _ _ four ∙ last-passes _ (le-ltb _ _ h))

  -- what holds where none refuses
  pub record Ready : Type 0 where
    pub demands : DemandsIn q.demands
    pub balance-in : nat_abs q.balance ≤ max_balance
    pub positive : 0 < total_demand q.demands
    pub room : length q.demands ≤ length q.place

  pub share-ready : share_checked q ≡ passed → Ready
  unfolding share_checks
  share-ready e =
      let one = passed_cons _ _ e in
      let two = passed_cons _ _ one.1 in
      let three = passed_cons _ _ two.1 in
      let four = passed_cons _ _ three.1 in
      let nine = passed_cons _ _ four.1 in
      record {
        demands = demands-in q.demands one.0 three.0;
        balance-in = ltb-false max_balance (nat_abs q.balance) two.0;
        positive = ⊎_elim (λ z. absurd (eqb-false (total_demand q.demands) 0 four.0 z)) (λ p. p) (eq-zero-or-pos (total_demand q.demands));
        room = ltb-false (length q.place) (length q.demands) nine.0;
      }
