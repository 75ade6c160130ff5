-- The shares of a balance of either sign: they add up to it, each is less than a cent from its exact proportion, and leftover cents go to the largest
-- remainders. What largest_remainders says of sizes, with the sign put back.
use mathlib.Core.Path.{◌≡◌, refl, sym, ap, ◌∙◌}
use mathlib.Core.Bool.{Bool, true, false, cond, not}
use mathlib.Core.List.{List}
use Prim.Native.Nat.{ℕ, zero, suc, ◌+◌, ◌*◌, ◌≤◌, ◌<◌}
use native.Mathlib.Omega.{arith}
use lib.Dec.{T}
use lib.ListN.{length}
use lib.IntN.{ℤ, pos, negsuc, neg_ℤ, nat_abs, neg_ℤ-neg_ℤ, ◌+ℤ◌, ◌-ℤ◌, ◌*ℤ◌}
use Rattle.lists.specs.Lent.{overwrite}
use Rattle.lists.proofs.Lists.{length-list_to, get_d_list_to}
use Rattle.lists.proofs.Fronts.{front_at}
use Rattle.integers.specs.Sums.{sum_to}
use Rattle.integers.proofs.Linear.{◌⊖◌, ⊖s}
use Rattle.integers.proofs.Sums.{sum_to_cong}
use Rattle.largest_remainders.specs.Ranks.{add_to}
use Rattle.largest_remainders.specs.Shares.{before_by, whole, given_one, share}
use Rattle.largest_remainders.proofs.Theorems.{adds-up, near, no_weight, no_size, largest_first}
use Rattle.share_rules.specs.ShareBalance.{demand_of, total_demand, signed_like_of, balance_share, shares_of, whole_of, rest_of, cell_of}
use Rattle.share_rules.proofs.Signs.{signed_sized}

-- ---- sums of one sign

neg_plus : (a b : ℕ) → neg_ℤ (pos a) +ℤ neg_ℤ (pos b) ≡ neg_ℤ (pos (a + b))
neg_plus a b = simp ⊖s (omega arith)

signed_sum : (z : ℤ) (n : ℕ) (f : ℕ → ℕ) → sum_to n (λ i. signed_like_of z (f i)) ≡ signed_like_of z (add_to n f)
unfolding sum_to add_to
signed_sum (pos m) zero f = refl
signed_sum (pos m) (suc n) f = ap (λ (x : ℤ). x +ℤ pos (f n)) (signed_sum (pos m) n f)
signed_sum (negsuc m) zero f = refl
signed_sum (negsuc m) (suc n) f = ap (λ (x : ℤ). x +ℤ neg_ℤ (pos (f n))) (signed_sum (negsuc m) n f) ∙ neg_plus (add_to n f) (f n)

signed_size : (z : ℤ) → signed_like_of z (nat_abs z) ≡ z
signed_size (pos n) = refl
signed_size (negsuc n) = refl

signed_none : (z : ℤ) → signed_like_of z 0 ≡ pos 0
signed_none (pos n) = refl
signed_none (negsuc n) = refl

-- ---- distances

distance : (z : ℤ) (x y t : ℕ) → z ≡ x ⊖ y → x < y + t → y < x + t → nat_abs z < t
distance (pos n) x y t e h k = let d : n + y ≡ x + 0 = simp ⊖s at e in omega arith
distance (negsuc n) x y t e h k = let d : 0 + y ≡ x + suc n = simp ⊖s at e in omega arith

signed_near : (z : ℤ) (s t d : ℕ) → s * t < nat_abs z * d + t → nat_abs z * d < s * t + t → nat_abs (signed_like_of z s *ℤ pos t -ℤ z *ℤ pos d) < t
signed_near (pos n) s t d h k = distance (pos s *ℤ pos t -ℤ pos n *ℤ pos d) (s * t) (n * d) t (simp ⊖s (omega arith)) h k
signed_near (negsuc n) s t d h k = distance (neg_ℤ (pos s) *ℤ pos t -ℤ negsuc n *ℤ pos d) (suc n * d) (s * t) t (simp ⊖s (omega arith)) k h

-- ---- who is given a cent

module _ (n : ℕ) (weight : ℕ → ℕ) (size i : ℕ) where
  more_given : whole n weight size i < share n weight size i → T (given_one n weight size i)
  unfolding share
  more_given h = by (given_one n weight size i) h
    where
      by : (b : Bool) → whole n weight size i < whole n weight size i + cond b 1 0 → T b
      by true h = tt
      by false h = absurd (omega arith)

  kept-not_given : share n weight size i ≤ whole n weight size i → T (not (given_one n weight size i))
  unfolding share
  kept-not_given h = by (given_one n weight size i) h
    where
      by : (b : Bool) → whole n weight size i + cond b 1 0 ≤ whole n weight size i → T (not b)
      by true h = absurd (omega arith)
      by false h = tt

-- ---- the cells

module _ (balance : ℤ) (ds : List ℕ) (entry : List ℤ) where
  abbrev cells : List ℤ
  cells = overwrite (shares_of balance ds) entry

  abbrev sized : ℕ → ℕ
  sized = share (length ds) (demand_of ds) (nat_abs balance)

  pub cell_is : (i : ℕ) → i < length ds → cell_of cells i ≡ balance_share balance ds i
  cell_is i b =
      front_at (shares_of balance ds) entry (length ds) (length-list_to (length ds) (balance_share balance ds)) i (pos 0) b
      ∙ get_d_list_to (length ds) (balance_share balance ds) i (pos 0) b

  cell_size : (i : ℕ) → i < length ds → nat_abs (cell_of cells i) ≡ sized i
  unfolding balance_share
  cell_size i b = ap nat_abs (cell_is i b) ∙ signed_sized balance (sized i)

  module _ (some : 0 < total_demand ds) where
    pub all-together : sum_to (length ds) (cell_of cells) ≡ balance
    unfolding balance_share
    all-together =
        sum_to_cong (length ds) cell_is
        ∙ signed_sum balance (length ds) sized
        ∙ ap (signed_like_of balance) (adds-up (length ds) (demand_of ds) (nat_abs balance) some)
        ∙ signed_size balance

    pub each-near : (i : ℕ) → i < length ds → nat_abs (cell_of cells i *ℤ pos (total_demand ds) -ℤ balance *ℤ pos (demand_of ds i)) < total_demand ds
    unfolding balance_share
    each-near i b =
        let h = near (length ds) (demand_of ds) (nat_abs balance) some i in
        rw (cell_is i b) (signed_near balance (sized i) (total_demand ds) (demand_of ds i) h.0 h.1)

    pub none-without : (i : ℕ) → i < length ds → demand_of ds i ≡ 0 → cell_of cells i ≡ pos 0
    unfolding balance_share
    none-without i b e = cell_is i b ∙ ap (signed_like_of balance) (no_weight (length ds) (demand_of ds) (nat_abs balance) some i e) ∙ signed_none balance

    pub first-largest : (i j : ℕ) → i < length ds → j < length ds → whole_of balance ds i < nat_abs (cell_of cells i) → nat_abs (cell_of cells j) ≤ whole_of balance ds j
        → T (before_by (rest_of balance ds) i j)
    first-largest i j b c more kept =
        largest_first (length ds) (demand_of ds) (nat_abs balance) some i j b c
        (more_given (length ds) (demand_of ds) (nat_abs balance) i (omega (arith, cell_size i b)))
        (kept-not_given (length ds) (demand_of ds) (nat_abs balance) j (omega (arith, cell_size j c)))

-- the shares of the opposite balance
pub opposite : (balance : ℤ) (ds : List ℕ) → 0 < total_demand ds → (i : ℕ) → balance_share (neg_ℤ balance) ds i ≡ neg_ℤ (balance_share balance ds i)
unfolding balance_share
opposite (pos zero) ds some i = rw (no_size (length ds) (demand_of ds) 0 some refl i)
opposite (pos (suc n)) ds some i = refl
opposite (negsuc n) ds some i = sym (neg_ℤ-neg_ℤ (pos (share (length ds) (demand_of ds) (suc n) i)))
