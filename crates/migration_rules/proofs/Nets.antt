-- Nets: each the net-opposite of its mirror, one row more, sizes, and an LSE's losses.
use mathlib.Core.Path.{◌≡◌, refl}
use mathlib.Core.List.{List, [], ◌∷◌, ◌++◌}
use Prim.Native.Nat.{ℕ, zero, suc, ◌+◌, ◌≤◌, ◌<◌}
use native.Mathlib.Nat.{eq-or-lt_of_le, le_trans}
use native.Mathlib.Omega.{arith}
use mathlib.Core.Logic.{⊎_elim}
use lib.Dec.{leb→le}
use lib.IntN.{ℤ, pos, negsuc, neg_ℤ, nat_abs, ◌+ℤ◌, ◌-ℤ◌}
use lib.Signed.{◌≤ℤ◌}
use Rattle.largest_remainders.specs.Ranks.{add_to}
use Rattle.largest_remainders.proofs.Counting.{add_to-cong, add_to-none}
use Rattle.integers.specs.Sums.{max0, sum_over_of}
use Rattle.integers.proofs.Linear.{⊖of, ⊖s}
use Rattle.tariff.proofs.Periods.{sum_over-more}
use Rattle.migration_rules.specs.Transfers.{MigrationRow, moved, net, loss, losses_to}
use Rattle.migration_rules.specs.Theorems.{manual_rows, nets_of, manual_nets_of}

mirror : (x y s u : ℤ) → s ≡ neg_ℤ u → x -ℤ y +ℤ s ≡ neg_ℤ (y -ℤ x +ℤ u)
mirror x y s u = rw (⊖of x, ⊖of y, ⊖of s, ⊖of u) (simp ⊖s (omega arith))

pub net-opposite : (rows : List MigrationRow) (i j : ℕ) → net rows i j ≡ neg_ℤ (net rows j i)
unfolding net sum_over_of
net-opposite [] i j = refl
net-opposite (r ∷ rows) i j = mirror (pos (moved r i j)) (pos (moved r j i)) (net rows i j) (net rows j i) (net-opposite rows i j)

pub manual_nets : nets_of manual_rows ≡ manual_nets_of
unfolding net sum_over_of moved
manual_nets = refl

-- no rows, and one row more
pub net-none : (i j : ℕ) → net [] i j ≡ pos 0
unfolding net sum_over_of
net-none i j = refl

pub net-more : (rows : List MigrationRow) (r : MigrationRow) (i j : ℕ) → net (rows ++ r ∷ []) i j ≡ net rows i j +ℤ (pos (moved r i j) -ℤ pos (moved r j i))
unfolding net
net-more rows r i j = sum_over-more rows r (λ r. pos (moved r i j) -ℤ pos (moved r j i))

-- to no gainer, and to one more
pub losses-none : (lost : ℕ → ℕ → ℕ) (i : ℕ) → losses_to lost i 0 ≡ 0
unfolding losses_to
losses-none lost i = add_to-none (λ j. lost i (suc j))

pub losses-more : (lost : ℕ → ℕ → ℕ) (i m : ℕ) → losses_to lost i (suc m) ≡ losses_to lost i m + lost i (suc m)
unfolding losses_to add_to
losses-more lost i m = refl

-- one gainer's part of the losses
pub loss-within : (lost : ℕ → ℕ → ℕ) (i m j : ℕ) → 0 < j → j ≤ m → lost i j ≤ losses_to lost i m
unfolding losses_to add_to
loss-within lost i zero j some most = absurd (omega arith)
loss-within lost i (suc m) j some most = ⊎_elim (λ e. rw e (omega arith)) (λ h. le_trans (loss-within lost i m j some (omega arith)) (omega arith))
    (eq-or-lt_of_le most)

pub losses-cong : (lost other : ℕ → ℕ → ℕ) (i m : ℕ) → ((j : ℕ) → 0 < j → j ≤ m → lost i j ≡ other i j) → losses_to lost i m ≡ losses_to other i m
unfolding losses_to
losses-cong lost other i m same = add_to-cong m (λ j b. same (suc j) (omega arith) (omega arith))

-- a net that is not above 0 is no loss
pub no_loss : (rows : List MigrationRow) (i j : ℕ) → net rows i j ≤ℤ pos 0 → loss rows i j ≡ 0
unfolding loss
no_loss rows i j = by (net rows i j)
  where
    by : (z : ℤ) → z ≤ℤ pos 0 → nat_abs (max0 z) ≡ 0
    by (pos m) h = omega (arith, leb→le m 0 h.le)
    by (negsuc m) h = refl
