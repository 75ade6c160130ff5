-- 23 for one LSE.
use mathlib.Core.Path.{◌≡◌, refl}
use mathlib.Core.Bool.{Bool, true, false, cond}
use Rattle.std.proofs.Common.{Less, Equal, Greater}
use Rattle.std.specs.Ordering.{is_lt, nat_cmp}
use mathlib.Core.List.{List}
use Prim.Native.Nat.{ℕ, suc, ◌-◌, ◌<◌}
use native.Mathlib.Omega.{arith}
use lib.Dec.{ltb, eqb}
use lib.ListN.{length, get_or}
use Rattle.lists.specs.Lists.{list_to}
use Rattle.lists.proofs.Lists.{get_d_list_to}
use Rattle.tariff.specs.declared.units.Transfer.{Transfer}
use Rattle.migration_rules.specs.Transfers.{losses_to, load, exceeded}
use Rattle.migration_rules.proofs.Alike.{exceeded-is}
use Rattle.migration_transfers.specs.Squares.{lost_in}

abbrev pub loser_bad : List (List Transfer) → List ℕ → ℕ → Bool
loser_bad square loads i = exceeded (losses_to (lost_in square) i (length loads)) (load loads i)

-- the comparison of two figures, as the derived order tells it
pub less-told : (a b : ℕ) → is_lt (nat_cmp a b) ≡ ltb a b
less-told a b = by (ltb a b) (eqb a b)
  where
    by : (less same : Bool) → is_lt (cond less Less (cond same Equal Greater)) ≡ less
    by true same = refl
    by false true = refl
    by false false = refl

-- of the LSE at place i, whose losses were found to be lost
pub loser_told : (square : List (List Transfer)) (loads : List ℕ) (i lost : ℕ) → i < length loads → lost ≡ losses_to (lost_in square) (suc i) (length loads)
    → loser_bad square loads (get_or (list_to (length loads) suc) i 0) ≡ ltb (get_or loads i 0) lost
loser_told square loads i lost h e =
    let place : suc i - 1 ≡ i = omega arith in
    rw (get_d_list_to (length loads) suc i 0 h, exceeded-is (losses_to (lost_in square) (suc i) (length loads)) (load loads (suc i)), place, e)
