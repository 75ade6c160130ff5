-- Every shortfall is at most the excesses at their prices, and as much where no option loads one overloaded constraint and relieves another.
use mathlib.Core.Path.{◌≡◌, refl, sym, ap, ap₂, ◌∙◌}
use mathlib.Core.Logic.{inl, inr}
use mathlib.Core.Bool.{Bool, true, false, cond}
use mathlib.Core.List.{List}
use Prim.Native.Nat.{ℕ, ◌<◌}
use lib.IntN.{ℤ, pos, ◌-ℤ◌, ◌*ℤ◌, zero-*ℤ, *ℤ-zero}
use lib.Signed.{◌≤ℤ◌, ◌<ℤ◌, lt_z_yes, lt_z_no}
use Rattle.integers.specs.Sums.{max0, sum_to}
use native.Mathlib.Omega.{arith}
use Rattle.integers.proofs.Linear.{⊖of, ⊖s, ≤ℤ-trans, ≤ℤ-of_≡, *pos_mono, minus≤0}
use Rattle.integers.proofs.Sums.{sum_to_cong, sum_to_zero, sum_to_mono, sum_over-mono}
use Rattle.lists.specs.Lists.{Each}
use Rattle.tariff.specs.declared.contracts.Kind.{Kind}
use Rattle.tariff.specs.declared.contracts.Kind.TheVariants.{Obligation, Option}
use Rattle.tariff.specs.declared.contracts.Contract.{Contract}
use Rattle.tariff.specs.declared.processes.Process.{Process}
use Rattle.tariff.specs.Units.{Factors, Grid, factor, price, max_price}
use Rattle.tariff.specs.ContractRules.{counted}
use Rattle.tariff.specs.Settlement.{congestion, mcc, amount, exact_total}
use Rattle.tariff.specs.Feasibility.{flow, total_flow, released, excess, overloaded}
use Rattle.tariff.specs.Shortfall.{PriceList, net_payment, rent, shortfall}
use Rattle.tariff.proofs.Worst.{linear, amount≤, by_constraint}
use Rattle.exposure_rules.specs.Exposure.{all_excesses, all_prices}
use Rattle.exposure_rules.specs.Theorems.{spread, OneWay}
use Rattle.exposure_rules.proofs.Plain.{lt_le, minus-mono, max0-same, max0-none, max0-nonneg, at-highest, sum-minus, sum_nonneg, sum-nonpos, sum_to_times, sum_over-each}
use Rattle.exposure_rules.proofs.Scaling.{highest_at}

-- ---- an option's products, all of one sign where they are priced

pub by_bool : {A : Type 0} (b : Bool) → (b ≡ true → A) → (b ≡ false → A) → A
by_bool true t f = t refl
by_bool false t f = f refl

module _ (n : ℕ) (x : ℕ → ℤ) (b : ℕ → Bool) (w : ℕ → ℕ) (off : (k : ℕ) → k < n → b k ≡ false → w k ≡ 0) where
  unpriced : (k : ℕ) → k < n → b k ≡ false → (z : ℤ) → z *ℤ pos (w k) ≡ pos 0
  unpriced k h e z = ap (λ (m : ℕ). z *ℤ pos m) (off k h e) ∙ *ℤ-zero z

  loads : ((k : ℕ) → k < n → b k ≡ true → pos 0 ≤ℤ x k) → max0 (sum_to n (λ k. x k *ℤ pos (w k))) ≡ sum_to n (λ k. max0 (x k) *ℤ pos (w k))
  loads up = ap max0 same ∙ max0-same (sum_to n (λ k. max0 (x k) *ℤ pos (w k))) (sum_nonneg n (λ k. max0 (x k) *ℤ pos (w k)) nonneg)
    where
      same : sum_to n (λ k. x k *ℤ pos (w k)) ≡ sum_to n (λ k. max0 (x k) *ℤ pos (w k))
      same = sum_to_cong n (λ k h.
          by_bool (b k) (λ e. ap (λ (z : ℤ). z *ℤ pos (w k)) (sym (max0-same (x k) (up k h e)))) (λ e. unpriced k h e (x k) ∙ sym (unpriced k h e (max0 (x k)))))

      nonneg : (k : ℕ) → k < n → pos 0 ≤ℤ (max0 (x k) *ℤ pos (w k))
      nonneg k h = ≤ℤ-trans (≤ℤ-of_≡ (sym (zero-*ℤ (pos (w k))))) (*pos_mono (w k) (max0-nonneg (x k)))

  relieves : ((k : ℕ) → k < n → b k ≡ true → x k ≤ℤ pos 0) → max0 (sum_to n (λ k. x k *ℤ pos (w k))) ≡ sum_to n (λ k. max0 (x k) *ℤ pos (w k))
  relieves down = max0-none (sum_to n (λ k. x k *ℤ pos (w k))) (sum-nonpos n (λ k. x k *ℤ pos (w k)) nonpos) ∙ sym (sum_to_cong n none ∙ sum_to_zero n)
    where
      nonpos : (k : ℕ) → k < n → (x k *ℤ pos (w k)) ≤ℤ pos 0
      nonpos k h =
          by_bool (b k) (λ e. ≤ℤ-trans (*pos_mono (w k) (down k h e)) (≤ℤ-of_≡ (zero-*ℤ (pos (w k))))) (λ e. ≤ℤ-of_≡ (unpriced k h e (x k)))

      none : (k : ℕ) → k < n → max0 (x k) *ℤ pos (w k) ≡ pos 0
      none k h =
          by_bool (b k) (λ e. ap (λ (z : ℤ). z *ℤ pos (w k)) (max0-none (x k) (down k h e)) ∙ zero-*ℤ (pos (w k))) (λ e. unpriced k h e (max0 (x k)))

module _ (g : Grid) (process : Process) (cs : List Contract) where
  abbrev F : Factors
  F = g.factors

  abbrev K : ℕ
  K = g.factors.constraints

  abbrev over : ℕ → Bool
  over = overloaded g process cs

  abbrev e : ℕ → ℤ
  e = excess g process cs

  -- ---- overloaded exactly where the excess is above 0

  pub over-above : (k : ℕ) → over k ≡ true → pos 0 <ℤ e k
  unfolding overloaded excess
  over-above k t = less (pos (released g.limits process k)) (total_flow F cs k) (lt_z_yes (rw t tt))
    where
      less : (a b : ℤ) → a <ℤ b → pos 0 <ℤ (b -ℤ a)
      less a b = rw (⊖of a, ⊖of b) (simp ⊖s (omega arith))

  pub not_over_within : (k : ℕ) → over k ≡ false → e k ≤ℤ pos 0
  unfolding overloaded excess
  not_over_within k t = minus≤0.0 (lt_z_no {a = pos (released g.limits process k)} {b = total_flow F cs k} (rw t tt))

  -- ---- every shortfall is at most the excesses at their prices

  weighed : List ℕ → ℤ
  weighed p = sum_to K (λ k. e k *ℤ pos (price p k))

  in_excesses : (p : List ℕ) → sum_to K (λ k. total_flow F cs k *ℤ pos (price p k)) -ℤ rent g process p ≡ weighed p
  unfolding weighed rent excess
  in_excesses p = sym (sum-minus K (total_flow F cs) (λ k. pos (released g.limits process k)) (price p))

  shortfall≤ : (p : List ℕ) → shortfall g process cs p ≤ℤ weighed p
  unfolding shortfall net_payment exact_total
  shortfall≤ p =
      ≤ℤ-trans (minus-mono (rent g process p) (≤ℤ-trans (sum_over-mono cs (amount≤ g p)) (≤ℤ-of_≡ (by_constraint g cs p)))) (≤ℤ-of_≡ (in_excesses p))

  pub shortfall-at_most : (p : List ℕ) → PriceList K p → shortfall g process cs p ≤ℤ all_excesses g process cs
  unfolding all_excesses weighed
  shortfall-at_most p l =
      ≤ℤ-trans (shortfall≤ p)
      (≤ℤ-trans (sum_to_mono K (λ k h. at-highest (e k) (price p k) max_price (l.capped k h))) (≤ℤ-of_≡ (sum_to_times K (λ k. max0 (e k)) (pos max_price))))

  -- ---- where no option loads one overloaded constraint and relieves another

  abbrev flows-at : List ℕ → Contract → ℤ
  flows-at p c = sum_to K (λ k. flow F c k *ℤ pos (price p k))

  unloaded : (k : ℕ) → k < K → over k ≡ false → price (all_prices g process cs) k ≡ 0
  unfolding all_prices
  unloaded k h t = highest_at K over k h ∙ ap (λ (c : Bool). cond c max_price 0) t

  raw : Contract → ℕ → ℤ
  raw c k = spread g process cs c k *ℤ pos c.quantity.0

  raw_up : (c : Contract) (k : ℕ) → pos 0 ≤ℤ spread g process cs c k → pos 0 ≤ℤ raw c k
  unfolding raw
  raw_up c k h = ≤ℤ-trans (≤ℤ-of_≡ (sym (zero-*ℤ (pos c.quantity.0)))) (*pos_mono c.quantity.0 h)

  raw_down : (c : Contract) (k : ℕ) → spread g process cs c k ≤ℤ pos 0 → raw c k ≤ℤ pos 0
  unfolding raw
  raw_down c k h = ≤ℤ-trans (*pos_mono c.quantity.0 h) (≤ℤ-of_≡ (zero-*ℤ (pos c.quantity.0)))

  counts : (c : Contract) (d : Kind) → c.kind ≡ d → OneWay g process cs c
      → counted d (sum_to K (λ k. raw c k *ℤ pos (price (all_prices g process cs) k))) ≡ sum_to K (λ k. counted d (raw c k) *ℤ pos (price (all_prices g process cs) k))
  counts c Obligation is way = refl
  counts c Option is (inl obligation) = absurd (let z : ◌≡◌ {A = ℕ} 0 1 = cc in omega arith)
  counts c Option is (inr (inl up)) = loads K (raw c) over (price (all_prices g process cs)) unloaded (λ k h t. raw_up c k (up k h t))
  counts c Option is (inr (inr down)) = relieves K (raw c) over (price (all_prices g process cs)) unloaded (λ k h t. raw_down c k (down k h t))

  amount-is : (c : Contract) → OneWay g process cs c → amount F (all_prices g process cs) c ≡ flows-at (all_prices g process cs) c
  unfolding amount mcc congestion flow raw
  amount-is c way =
      ap (counted c.kind) (linear K (factor F c.source) (factor F c.sink) (price (all_prices g process cs)) c.quantity.0)
      ∙ counts c c.kind refl way

  -- the excess at the highest price where it is above 0, and nothing elsewhere
  term : (k : ℕ) → k < K → e k *ℤ pos (price (all_prices g process cs) k) ≡ max0 (e k) *ℤ pos max_price
  unfolding all_prices
  term k h =
      by_bool (over k) (λ t. ap₂ (λ (z : ℤ) (m : ℕ). z *ℤ pos m) (sym (max0-same (e k) (lt_le (over-above k t))))
      (highest_at K over k h ∙ ap (λ (c : Bool). cond c max_price 0) t))
      (λ t. ap (λ (m : ℕ). e k *ℤ pos m) (unloaded k h t) ∙ *ℤ-zero (e k)
      ∙ sym (ap (λ (z : ℤ). z *ℤ pos max_price) (max0-none (e k) (not_over_within k t)) ∙ zero-*ℤ (pos max_price)))

  pub one_way_reaches : Each (OneWay g process cs) cs → shortfall g process cs (all_prices g process cs) ≡ all_excesses g process cs
  unfolding shortfall net_payment exact_total all_excesses weighed
  one_way_reaches ways =
      ap (λ (z : ℤ). z -ℤ rent g process (all_prices g process cs))
      (sum_over-each (OneWay g process cs) (amount F (all_prices g process cs)) (flows-at (all_prices g process cs)) amount-is cs ways
      ∙ by_constraint g cs (all_prices g process cs))
      ∙ in_excesses (all_prices g process cs)
      ∙ sum_to_cong K term
      ∙ sum_to_times K (λ k. max0 (e k)) (pos max_price)
