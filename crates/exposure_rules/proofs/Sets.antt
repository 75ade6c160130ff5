-- The sets of overloaded constraints by number: every set has one, and the set that costs the most is the worst shortfall.
use mathlib.Core.Path.{◌≡◌, refl, sym, ap, ◌∙◌, subst}
use mathlib.Core.Bool.{Bool, true, false, cond, ◌&&◌}
use mathlib.Core.List.{List}
use Prim.Native.Nat.{ℕ, zero, suc, ◌+◌, ◌-◌, ◌*◌, ◌/◌, ◌%◌, ◌^◌, ◌≤◌, ◌<◌}
use native.Mathlib.Nat.{div-one, div-div-eq-div-mul, mul-le-mul_right, add-zero, zero-add, zero-div, le_trans, le_of_eq, one-mul}
use lib.Pow.{pow-add}
use native.Mathlib.Omega.{arith}
use lib.Dec.{eqb}
use lib.IntN.{ℤ, pos}
use lib.Signed.{◌≤ℤ◌}
use Rattle.lists.specs.Sets.{count_of}
use Rattle.lists.proofs.Lists.{list_to-cong}
use Rattle.integers.proofs.Linear.{≤ℤ-trans, ≤ℤ-of_≡}
use Rattle.tariff.specs.declared.contracts.Contract.{Contract}
use Rattle.tariff.specs.declared.processes.Process.{Process}
use Rattle.tariff.specs.Units.{Grid, max_price}
use Rattle.tariff.specs.Feasibility.{overloaded, overload_count}
use Rattle.tariff.specs.Shortfall.{PriceList, shortfall, IsWorst}
use Rattle.exposure_rules.specs.Exposure.{highest_where, in_set, set_prices, worst_set}
use Rattle.exposure_rules.proofs.Plain.{largest_most}
use Rattle.exposure_rules.proofs.Scaling.{highest_list, none-shortfall}
use Rattle.exposure_rules.proofs.Bounds.{by_bool}
use Rattle.exposure_rules.proofs.Corners.{CostsMost, corner_costs_most}

pub highest_cong : (k : ℕ) (a b : ℕ → Bool) → ((j : ℕ) → j < k → a j ≡ b j) → highest_where k a ≡ highest_where k b
unfolding highest_where
highest_cong k a b h = list_to-cong k (λ (j : ℕ). cond (a j) max_price 0) (λ (j : ℕ). cond (b j) max_price 0) (λ j l. ap (λ (c : Bool). cond c max_price 0) (h j l))

abbrev bit : Bool → ℕ
bit b = cond b 1 0

bit_low : (b : Bool) (r : ℕ) → eqb ((bit b + r * 2) % 2) 1 ≡ b
bit_low true r = ap (λ (x : ℕ). eqb x 1) (odd r)
  where
    odd : (r : ℕ) → (1 + r * 2) % 2 ≡ 1
    odd r = omega arith
bit_low false r = ap (λ (x : ℕ). eqb x 1) (even r)
  where
    even : (r : ℕ) → (0 + r * 2) % 2 ≡ 0
    even r = omega arith

bit_rest : (b : Bool) (r : ℕ) → (bit b + r * 2) / 2 ≡ r
bit_rest true r = omega arith
bit_rest false r = omega arith

bit_most : (b : Bool) (r : ℕ) → bit b + r * 2 + 1 ≤ (r + 1) * 2
bit_most true r = omega arith
bit_most false r = omega arith

-- what is left of a number, one place on
pub half-on : (m c : ℕ) → m / 2 ^ (c + 1) ≡ m / 2 ^ c / 2
half-on m c = ap (λ (x : ℕ). m / x) (pow-add 2 c 1) ∙ sym (div-div-eq-div-mul m (2 ^ c) 2)

pow_on : (c : ℕ) → 2 ^ (c + 1) ≡ 2 ^ c * 2
pow_on c = pow-add 2 c 1

one_more : (b : Bool) (r x : ℕ) → (bit b + r * 2 + 1) * x ≤ (r + 1) * (x * 2)
one_more b r x = le_trans (mul-le-mul_right x (bit_most b r)) (omega arith)

pub counts_start : (over : ℕ → Bool) → count_of 0 over ≡ 0
unfolding count_of
counts_start over = refl

pub counts-one : (over : ℕ → Bool) (k : ℕ) → over k ≡ true → count_of (suc k) over ≡ count_of k over + 1
unfolding count_of
counts-one over k e = rw e refl

pub counts-none : (over : ℕ → Bool) (k : ℕ) → over k ≡ false → count_of (suc k) over ≡ count_of k over
unfolding count_of
counts-none over k e = rw (e, add-zero (count_of k over)) refl

module _ (over chosen : ℕ → Bool) where
  -- the number of the set chosen, from k on, of n constraints
  pub pack : ℕ → ℕ → ℕ
  pack k zero = 0
  pack k (suc n) = cond (over k) (bit (chosen k) + pack (suc k) n * 2) (pack (suc k) n)

  -- at k, what is left of the number is that of the rest
  left_is : (k n : ℕ) → pack 0 (k + n) / 2 ^ count_of k over ≡ pack k n
  unfolding pack
  left_is zero n = rw (counts_start over, zero-add n) (div-one (pack 0 n))
  left_is (suc k) n = by (over k) refl (ap (λ (x : ℕ). pack 0 x / 2 ^ count_of k over) (next k n) ∙ left_is k (suc n))
    where
      next : (k n : ℕ) → suc k + n ≡ k + suc n
      next k n = omega arith

      by : (b : Bool) → over k ≡ b → pack 0 (suc k + n) / 2 ^ count_of k over ≡ cond b (bit (chosen k) + pack (suc k) n * 2) (pack (suc k) n)
          → pack 0 (suc k + n) / 2 ^ count_of (suc k) over ≡ pack (suc k) n
      by true e now = rw (counts-one over k e) (half-on (pack 0 (suc k + n)) (count_of k over) ∙ ap (λ (x : ℕ). x / 2) now ∙ bit_rest (chosen k) (pack (suc k) n))
      by false e now = rw (counts-none over k e) now

  -- and it is one of as many as there are sets
  fits : (n k : ℕ) → (pack k n + 1) * 2 ^ count_of k over ≤ 2 ^ count_of (k + n) over
  unfolding pack
  fits zero k = rw (add-zero k) (le_of_eq (one-mul (2 ^ count_of k over)))
  fits (suc n) k = by (over k) refl (subst (λ (x : ℕ). (pack (suc k) n + 1) * 2 ^ count_of (suc k) over ≤ 2 ^ count_of x over) (next k n) (fits n (suc k)))
    where
      next : (k n : ℕ) → suc k + n ≡ k + suc n
      next k n = omega arith

      by : (b : Bool) → over k ≡ b → (pack (suc k) n + 1) * 2 ^ count_of (suc k) over ≤ 2 ^ count_of (k + suc n) over
          → (cond b (bit (chosen k) + pack (suc k) n * 2) (pack (suc k) n) + 1) * 2 ^ count_of k over ≤ 2 ^ count_of (k + suc n) over
      by true e later = le_trans (one_more (chosen k) (pack (suc k) n) (2 ^ count_of k over)) (rw (counts-one over k e, pow_on (count_of k over)) at later)
      by false e later = rw (counts-none over k e) at later

  -- the set with this number is the one chosen
  pub pack_chooses : (n k : ℕ) → k < n → (chosen k ≡ true → over k ≡ true) → (over k && eqb (pack 0 n / 2 ^ count_of k over % 2) 1) ≡ chosen k
  unfolding pack
  pack_chooses n k h only = by (over k) refl (subst (λ (x : ℕ). pack 0 x / 2 ^ count_of k over ≡ pack k (suc (n - suc k))) (rest k n h) (left_is k (suc (n - suc k))))
    where
      rest : (k n : ℕ) → k < n → k + suc (n - suc k) ≡ n
      rest k n h = omega arith

      by : (b : Bool) → over k ≡ b
          → pack 0 n / 2 ^ count_of k over ≡ cond b (bit (chosen k) + pack (suc k) (n - suc k) * 2) (pack (suc k) (n - suc k)) →
          (b && eqb (pack 0 n / 2 ^ count_of k over % 2) 1) ≡ chosen k
      by true e left = rw left (bit_low (chosen k) (pack (suc k) (n - suc k)))
      by false e left = by_bool (chosen k) (λ t. absurd (let z : ◌≡◌ {A = ℕ} 0 1 = clash e (only t) in omega arith)) (λ f. sym f)
        where
          clash : over k ≡ false → over k ≡ true → ◌≡◌ {A = ℕ} 0 1
          clash x y = cc

  pub pack_small : (n : ℕ) → pack 0 n < 2 ^ count_of n over
  pack_small n = small (fits n 0)
    where
      small : (pack 0 n + 1) * 2 ^ count_of 0 over ≤ 2 ^ count_of (0 + n) over → pack 0 n < 2 ^ count_of n over
      small h = let g = rw (counts_start over, zero-add n) at h in omega (arith, g)

-- ---- of overloaded constraints

module _ (g : Grid) (process : Process) (cs : List Contract) where
  abbrev K : ℕ
  K = g.factors.constraints

  abbrev over : ℕ → Bool
  over = overloaded g process cs

  pub set-list : (m : ℕ) → PriceList K (set_prices g process cs m)
  unfolding set_prices
  set-list m = highest_list K (in_set g process cs m)

  -- set 0 is empty
  pub set-none : shortfall g process cs (set_prices g process cs 0) ≡ pos 0
  unfolding set_prices in_set
  set-none = none-shortfall g process cs (in_set g process cs 0) (λ j h. ap (λ (x : ℕ). over j && eqb (x % 2) 1) (zero-div (2 ^ count_of j over)) ∙ and_false (over j))
    where
      and_false : (b : Bool) → (b && false) ≡ false
      and_false true = refl
      and_false false = refl

  -- any set of overloaded constraints is one of those tried
  pub tried : (chosen : ℕ → Bool) → ((j : ℕ) → j < K → chosen j ≡ true → over j ≡ true) → highest_where K chosen ≡ set_prices g process cs (pack over chosen 0 K)
  unfolding set_prices in_set
  tried chosen only = highest_cong K chosen (in_set g process cs (pack over chosen 0 K)) (λ j h. sym (pack_chooses over chosen K j h (only j h)))

  pub sets-worst : IsWorst g process cs (shortfall g process cs (set_prices g process cs (worst_set g process cs)))
  unfolding worst_set overload_count
  sets-worst =
      record {
        prices = set_prices g process cs (worst_set g process cs);
        is-list = set-list (worst_set g process cs);
        reached = refl;
        most = λ p l. no_more (corner_costs_most g process cs p l);
      }
    where
      f : ℕ → ℤ
      f m = shortfall g process cs (set_prices g process cs m)

      no_more : {p : List ℕ} → CostsMost g process cs p → shortfall g process cs p ≤ℤ shortfall g process cs (set_prices g process cs (worst_set g process cs))
      no_more c =
          ≤ℤ-trans c.no_less
          (≤ℤ-trans (≤ℤ-of_≡ (ap (shortfall g process cs) (tried c.chosen c.only_over)))
          (largest_most (2 ^ count_of K over) f (pack over c.chosen 0 K) (pack_small over c.chosen K)))
