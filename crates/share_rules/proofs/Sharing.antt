-- What the loops of sharing keep: sizes, whole cents and the table of keys; and a share by the least key that is given a leftover cent.
use mathlib.Core.Path.{◌≡◌, sym, ap, subst, ◌∙◌}
use mathlib.Core.List.{List}
use Prim.Native.Nat.{ℕ, ◌+◌, ◌-◌, ◌*◌, ◌/◌, ◌%◌, ◌≤◌, ◌<◌}
use native.Mathlib.Nat.{mul-le-mul, mod-lt}
use native.Mathlib.Omega.{arith}
use borrow.Author.Count.{below_more}
use borrow.Author.Tests.{le-leb, lt-leb}
use lib.Dec.{leb, ltb}
use lib.ListN.{length, get_or, set}
use lib.IntN.{ℤ, nat_abs}
use lib.Seq.{get_or-set_same, get_or-set_other}
use Rattle.tariff.specs.Units.{max_coordinators, max_balance, max_demand}
use Rattle.largest_remainders.specs.Ranks.{add_to, keys_from_of}
use Rattle.largest_remainders.specs.Shares.{total_weight, whole, rest, rank, given_one, share}
use Rattle.largest_remainders.specs.Inner.{remainder_key, key_at, Searchable}
use Rattle.largest_remainders.proofs.Counting.{add_to-bounded, add_to-more, add_to-prefix}
use Rattle.largest_remainders.proofs.Order.{rank-by_key, keys_apart, key_small}
use Rattle.largest_remainders.proofs.Sharing.{rest_lt, wholes_le, leftover-small}
use Rattle.largest_remainders.proofs.Theorems.{threshold_law}
use Rattle.share_rules.specs.ShareBalance.{demand_of, total_demand, signed_like_of, balance_share}
use Rattle.share_rules.specs.Inner.{max_demand_total, DemandsIn, Weighed, leftover_of, RoundedCents, Cut}

pub total-small : (ds : List ℕ) → DemandsIn ds → total_demand ds ≤ max_demand_total
unfolding total_weight
total-small ds h = omega (arith, add_to-bounded (length ds) max_demand (demand_of ds) h.small, h.few)

-- one coordinator's whole cents are at most the size
pub whole-fits : (size : ℕ) (ds : List ℕ) → 0 < total_demand ds → (i : ℕ) → i < length ds
    → add_to i (whole (length ds) (demand_of ds) size) + whole (length ds) (demand_of ds) size i ≤ size
whole-fits size ds some i b =
    let w = whole (length ds) (demand_of ds) size in
    omega (arith, add_to-more i w, add_to-prefix (length ds) (i + 1) w (omega arith), wholes_le (length ds) (demand_of ds) size some)

module _ (size sum : ℕ) (ds : List ℕ) (w : Weighed size sum ds) where
  pub some : 0 < total_demand ds
  some = omega (arith, w.positive, w.sum_is)

  pub product_small : (i : ℕ) → i < length ds → size * demand_of ds i ≤ 1000000000000000000
  product_small i b = mul-le-mul w.size_small (w.demands-in.small i b)

  pub whole_is : (i : ℕ) → size * demand_of ds i / sum ≡ whole (length ds) (demand_of ds) size i
  unfolding whole
  whole_is i = ap (λ (x : ℕ). size * demand_of ds i / x) w.sum_is

  rest-is : (i : ℕ) → size * demand_of ds i % sum ≡ rest (length ds) (demand_of ds) size i
  unfolding rest
  rest-is i = ap (λ (x : ℕ). size * demand_of ds i % x) w.sum_is

  pub rest-small : (i : ℕ) → size * demand_of ds i % sum < max_demand_total
  rest-small i = omega (arith, mod-lt (size * demand_of ds i) w.positive, w.sum_is, total-small ds w.demands-in)

  pub wholes_fit : (i : ℕ) → i < length ds → add_to i (whole (length ds) (demand_of ds) size) + whole (length ds) (demand_of ds) size i ≤ max_balance
  wholes_fit i b = omega (arith, whole-fits size ds some i b, w.size_small)

  pub key_is : (i : ℕ) → size * demand_of ds i % sum * 256 + (255 - i) ≡ remainder_key (rest (length ds) (demand_of ds) size) 256 i
  key_is i = omega (arith, rest-is i)

  module _ (wholes keys : List ℕ) (r : RoundedCents size ds wholes keys) (left : ℕ) (left_is : left ≡ leftover_of size ds) where
    -- the table of keys may be searched for those that are given a leftover cent
    pub searchable : Searchable keys (length ds) (sum * 256) left
    searchable =
        let f = rest (length ds) (demand_of ds) size in
        record {
          cells = r.key_cells;
          limited = omega (arith, w.sum_is, total-small ds w.demands-in);
          small = λ i b. below (key_at keys i) (remainder_key f max_coordinators i) (total_demand ds) (r.key_is i b) (top i b) w.sum_is;
          apart = λ i j b c e. keys_apart f (length ds) max_coordinators w.demands-in.few i j b c (sym (r.key_is i b) ∙ e ∙ r.key_is j c);
          enough = omega (arith, left_is, leftover-small (length ds) (demand_of ds) size some);
        }
      where
        top : (i : ℕ) → i < length ds → remainder_key (rest (length ds) (demand_of ds) size) max_coordinators i < total_demand ds * max_coordinators
        top i b =
            key_small (rest (length ds) (demand_of ds) size) max_coordinators (total_demand ds) i (omega (arith, w.demands-in.few)) (rest_lt (length ds) (demand_of ds) size some i)

        below : (x y t : ℕ) → x ≡ y → y < t * 256 → sum ≡ t → x < sum * 256
        below x y t e h s = omega arith

    -- the least key found: all that a share needs, v the balance as a machine hands it over
    pub cut : (balance v : ℤ) (least : ℕ) → v ≡ balance → size ≡ nat_abs balance → keys_from_of (length ds) (key_at keys) least ≡ left → Cut v least ds wholes keys
    cut balance v least e size_is least-is =
        let m : size ≡ nat_abs v = size_is ∙ ap nat_abs (sym e) in
        record {
          size_small = omega (arith, m, w.size_small);
          demands-in = w.demands-in;
          positive = some;
          rounded = subst (λ (x : ℕ). RoundedCents x ds wholes keys) m r;
          least-is = least-is ∙ left_is ∙ ap (λ (x : ℕ). leftover_of x ds) m;
        }

-- a loop that sets cell after cell to what it is to hold
pub cell_turn : (cells : List ℕ) (F : ℕ → ℕ) (i v : ℕ) → i < length cells → v ≡ F i → ((k : ℕ) → k < i → get_or cells k 0 ≡ F k)
    → (k : ℕ) → k < i + 1 → get_or (set cells i v) k 0 ≡ F k
cell_turn cells F i v h e done =
    below_more (λ k. get_or (set cells i v) k 0 ≡ F k) i (λ k b. get_or-set_other cells i k v 0 (omega arith) ∙ done k b) (get_or-set_same cells i v 0 h ∙ e)

-- ---- a share

module _ (balance : ℤ) (least : ℕ) (ds wholes keys : List ℕ) (cut : Cut balance least ds wholes keys) (i : ℕ) (b : i < length ds) where
  pub cell_small : get_or wholes i 0 ≤ max_balance
  cell_small = omega (arith, cut.rounded.whole_is i b, whole-fits (nat_abs balance) ds cut.positive i b, cut.size_small)

  -- a leftover cent goes to the keys from the least on
  given_is : given_one (length ds) (demand_of ds) (nat_abs balance) i ≡ leb least (key_at keys i)
  unfolding rank
  given_is =
      let f = rest (length ds) (demand_of ds) (nat_abs balance) in
      let same = rank-by_key f (length ds) max_coordinators (key_at keys) cut.demands-in.few cut.rounded.key_is i b in
      ap (λ (r : ℕ). ltb r (leftover_of (nat_abs balance) ds)) (sym same) ∙ threshold_law (length ds) (key_at keys) least (leftover_of (nat_abs balance) ds) cut.least-is i b

  pub share-more : least ≤ key_at keys i → signed_like_of balance (get_or wholes i 0 + 1) ≡ balance_share balance ds i
  unfolding balance_share share
  share-more h = rw (given_is, le-leb least (key_at keys i) h, cut.rounded.whole_is i b)

  pub share-kept : key_at keys i < least → signed_like_of balance (get_or wholes i 0) ≡ balance_share balance ds i
  unfolding balance_share share
  share-kept h = rw (given_is, lt-leb least (key_at keys i) h, cut.rounded.whole_is i b) (ap (signed_like_of balance) (omega arith))
