-- Raised limits, and one option more.
use mathlib.Core.Path.{◌≡◌, refl, ap}
use mathlib.Core.Bool.{Bool, true, false, cond}
use mathlib.Core.List.{List, ◌∷◌}
use Prim.Native.Nat.{ℕ, ◌*◌, ◌≤◌, ◌<◌}
use native.Mathlib.Nat.{mul-le-mul_right}
use native.Mathlib.Omega.{arith}
use lib.IntN.{ℤ, pos, ◌+ℤ◌}
use lib.Signed.{◌≤ℤ◌, ◌<ℤ◌, lt_z, lt_z_yes, lt_z_no, ≤ℤ_refl, clash_ℤ}
use Rattle.integers.specs.Sums.{sum_over_of}
use Rattle.integers.proofs.Linear.{⊖of, ⊖s, ≤ℤ-trans, ≤ℤ-of_≡}
use Rattle.tariff.specs.declared.contracts.Contract.{Contract}
use Rattle.tariff.specs.declared.contracts.Period.{Period}
use Rattle.tariff.specs.declared.processes.Process.{Process}
use Rattle.tariff.specs.Units.{Factors, Grid, limit}
use Rattle.tariff.specs.ContractRules.{same_period, of_period}
use Rattle.tariff.specs.Processes.{percent}
use Rattle.tariff.specs.Feasibility.{flow, total_flow, released, Passes, overloaded}
use Rattle.tariff.proofs.Theorems.{option_never_relieves}
use Rattle.order_rules.specs.Relief.{Raised, OptionMore}
use Rattle.order_rules.proofs.Perms.{of_period-perm}
use Rattle.order_rules.proofs.Figures.{flows-perm}

-- a flow above a limit: so is a flow no smaller above a limit no larger
over-more : (a b x y : ℤ) → a ≤ℤ b → x ≤ℤ y → lt_z b x ≡ true → lt_z a y ≡ true
over-more a b x y h k e = by (lt_z a y) refl (less a b x y h k (lt_z_yes (rw e tt)))
  where
    less : (a b x y : ℤ) → a ≤ℤ b → x ≤ℤ y → b <ℤ x → a <ℤ y
    less a b x y = rw (⊖of a, ⊖of b, ⊖of x, ⊖of y) (simp ⊖s (omega arith))

    by : (c : Bool) → lt_z a y ≡ c → a <ℤ y → c ≡ true
    by true q l = refl
    by false q l = absurd (clash_ℤ {a = a} {b = y} l (lt_z_no (rw q tt)))

-- ---- limits

module _ (low high : Grid) (r : Raised low high) where
  total-same : (cs : List Contract) (k : ℕ) → total_flow high.factors cs k ≡ total_flow low.factors cs k
  total-same cs k = ap (λ (f : Factors). total_flow f cs k) r.factors-same

  scaled : (a b p : ℕ) → a ≤ b → pos (a * p * 1000) ≤ℤ pos (b * p * 1000)
  scaled a b p l = simp ⊖s (omega (arith, mul-le-mul_right p l))

  -- no released limit falls
  released-more : (process : Process) (k : ℕ) → k < low.factors.constraints → pos (released low.limits process k) ≤ℤ pos (released high.limits process k)
  unfolding released
  released-more process k b = scaled (limit low.limits k) (limit high.limits k) (percent process) (r.limits-raised k b)

  pub raised-adds_none : (process : Process) (cs : List Contract) (k : ℕ) → k < low.factors.constraints
      → overloaded high process cs k ≡ true → overloaded low process cs k ≡ true
  unfolding overloaded
  raised-adds_none process cs k b =
      over-more (pos (released low.limits process k)) (pos (released high.limits process k)) (total_flow high.factors cs k) (total_flow low.factors cs k)
      (released-more process k b) (≤ℤ-of_≡ (total-same cs k))

  pub raised-passes : (process : Process) (cs : List Contract) → Passes low process cs → Passes high process cs
  raised-passes process cs p =
      record {
        within = λ k b.
            let c : k < low.factors.constraints = rw (← r.factors-same) b in
            ≤ℤ-trans (≤ℤ-of_≡ (total-same cs k)) (≤ℤ-trans (p.within k c) (released-more process k c));
      }

-- ---- an option

module _ (t : Period) (cs more : List Contract) (o : OptionMore cs more) where
  plus_more : (x y : ℤ) → pos 0 ≤ℤ x → y ≤ℤ (x +ℤ y)
  plus_more x y = rw (⊖of x, ⊖of y) (simp ⊖s (omega arith))

  in_front : (f : Factors) (k : ℕ) → total_flow f (of_period t cs) k ≤ℤ total_flow f (of_period t (o.added ∷ cs)) k
  unfolding of_period total_flow sum_over_of
  in_front f k = by (same_period o.added.period t)
    where
      by : (b : Bool) → total_flow f (of_period t cs) k ≤ℤ total_flow f (cond b (o.added ∷ of_period t cs) (of_period t cs)) k
      by true = plus_more (flow f o.added k) (total_flow f (of_period t cs) k) (option_never_relieves f o.added o.is-option k)
      by false = ≤ℤ_refl (total_flow f (of_period t cs) k)

  pub option_flows : (f : Factors) (k : ℕ) → total_flow f (of_period t cs) k ≤ℤ total_flow f (of_period t more) k
  option_flows f k =
      rw ((flows-perm f (of_period t more) (of_period t (o.added ∷ cs)) (of_period-perm t more (o.added ∷ cs) o.anywhere)).flows-same k) (in_front f k)

  module _ (g : Grid) (process : Process) where
    pub option_overloads : (k : ℕ) → overloaded g process (of_period t cs) k ≡ true → overloaded g process (of_period t more) k ≡ true
    unfolding overloaded
    option_overloads k =
        let limit = pos (released g.limits process k) in
        over-more limit limit (total_flow g.factors (of_period t cs) k) (total_flow g.factors (of_period t more) k) (≤ℤ_refl limit) (option_flows g.factors k)

    pub option_passes : Passes g process (of_period t more) → Passes g process (of_period t cs)
    option_passes p = record { within = λ k b. ≤ℤ-trans (option_flows g.factors k) (p.within k b) }
