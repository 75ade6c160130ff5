-- THE THEOREMS of Balancing Account shares.
use mathlib.Core.Path.{◌≡◌, sym, ap, ◌∙◌}
use mathlib.Core.List.{List}
use mathlib.Core.Logic.{◌⊎◌}
use Prim.Native.Nat.{ℕ, ◌<◌}
use lib.ListN.{length}
use lib.IntN.{ℤ, neg_ℤ, nat_abs}
use Rattle.lists.specs.Lent.{overwrite}
use Rattle.tariff.specs.Refusals.{Checked, passed}
use Rattle.tariff.specs.Refusals.{cells_after}
use Rattle.largest_remainders.specs.Shares.{leftover, positives}
use Rattle.largest_remainders.proofs.Theorems.{few}
use Rattle.share_rules.specs.ShareBalance.{ShareAnswer}
use Rattle.share_rules.specs.ShareBalance.{share_call, share_checked, demand_of, total_demand, shares_of, cell_of, Fair, SharesBalance}
use Rattle.share_rules.proofs.Passing.{share-ready}
use Rattle.share_rules.proofs.Fairness.{cell_is, all-together, each-near, none-without, first-largest, opposite}

-- over the definitions and nothing of the code: wherever some demand is positive, the shares are fair
pub shares_are_fair : (balance : ℤ) (demands : List ℕ) → 0 < total_demand demands → (entry : List ℤ) → Fair balance demands (overwrite (shares_of balance demands) entry)
shares_are_fair balance demands some entry =
    record {
      adds-up = all-together balance demands entry some;
      near = each-near balance demands entry some;
      no_demand_no_cent = none-without balance demands entry some;
      largest_first = first-largest balance demands entry some;
    }

-- fewer cents are left over than there are positive remainders, or none
pub few-left_over : (balance : ℤ) (demands : List ℕ) → 0 < total_demand demands
    → let left = leftover (length demands) (demand_of demands) (nat_abs balance) in (left ≡ 0) ⊎ (left < positives (length demands) (demand_of demands) (nat_abs balance))
few-left_over balance demands some = few (length demands) (demand_of demands) (nat_abs balance) some

-- a balance and the opposite one, neither of them refused: whatever the places held, the shares are the opposite ones
module _ (balance : ℤ) (demands : List ℕ) (place place' : List ℤ) (answer answer' : ShareAnswer) (exit exit' : List ℤ)
    (shares : SharesBalance (share_call balance demands place) answer exit) (shares' : SharesBalance (share_call (neg_ℤ balance) demands place') answer' exit')
    (none-refuses : share_checked (share_call balance demands place) ≡ passed) (none-refuses' : share_checked (share_call (neg_ℤ balance) demands place') ≡ passed) where
  some : 0 < total_demand demands
  some = (share-ready (share_call balance demands place) none-refuses).positive

  pub opposite_shares : (i : ℕ) → i < length demands → cell_of exit' i ≡ neg_ℤ (cell_of exit i)
  opposite_shares i b =
      ap (λ (cells : List ℤ). cell_of cells i) (shares'.shares_given ∙ ap (λ (x : Checked). cells_after x (shares_of (neg_ℤ balance) demands) place') none-refuses')
      ∙ cell_is (neg_ℤ balance) demands place' i b
      ∙ opposite balance demands some i
      ∙ ap neg_ℤ (sym (ap (λ (cells : List ℤ). cell_of cells i) (shares.shares_given ∙ ap (λ (x : Checked). cells_after x (shares_of balance demands) place) none-refuses) ∙ cell_is balance demands place i b))
