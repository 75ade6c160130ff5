-- An obligation and the equal one with source and sink exchanged add nothing, to flows or to payments, in either period.
use mathlib.Core.Path.{◌≡◌, refl, ap}
use mathlib.Core.Bool.{Bool, true, false, cond}
use mathlib.Core.List.{List, [], ◌∷◌, ◌++◌}
use Prim.Native.Nat.{ℕ}
use native.Mathlib.Omega.{arith}
use lib.IntN.{ℤ, pos, ◌+ℤ◌, ◌-ℤ◌, ◌*ℤ◌, +ℤ_idr}
use Rattle.integers.specs.Sums.{sum_over_of}
use Rattle.integers.proofs.Linear.{⊖of, ⊖s}
use Rattle.integers.proofs.Sums.{sum_over-append}
use Rattle.tariff.specs.declared.contracts.Contract.{Contract}
use Rattle.tariff.specs.declared.contracts.Kind.TheVariants.{Obligation}
use Rattle.tariff.specs.declared.contracts.Period.{Period}
use Rattle.tariff.specs.Units.{Factors, factor}
use Rattle.tariff.specs.ContractRules.{same_period, of_period}
use Rattle.tariff.specs.Settlement.{mcc, amount, exact_total}
use Rattle.tariff.specs.Feasibility.{flow, total_flow}
use Rattle.tariff.proofs.Periods.{of_period-append}
use Rattle.test_rules.proofs.Figures.{same_test}
use Rattle.migration_rules.specs.ContractRules.{gained, countered}
use Rattle.migration_rules.specs.Theorems.{Cancels, MigrationKept}

-- an obligation and the equal one with source and sink exchanged. Holders are free.
pub record Opposite (c d : Contract) : Type 0 where
  pub first-obliges : c.kind ≡ Obligation
  pub second_obliges : d.kind ≡ Obligation
  pub period-same : d.period ≡ c.period
  pub from_sink : d.source ≡ c.sink
  pub to_source : d.sink ≡ c.source
  pub quantity-same : d.quantity.0 ≡ c.quantity.0

-- a list of such pairs, each two neighbours
abbrev pub Paired : List Contract → Type 0
Paired [] = Unit
Paired (c ∷ []) = ⊥
Paired (c ∷ d ∷ cs) = Opposite c d × Paired cs

pub made : (c : Contract) (gainer q : ℕ) → Opposite (gained c gainer q) (countered c q)
made c gainer q = record { first-obliges = refl; second_obliges = refl; period-same = refl; from_sink = refl; to_source = refl; quantity-same = refl }

pub paired_append : (xs ys : List Contract) → Paired xs → Paired ys → Paired (xs ++ ys)
paired_append [] ys h k = k
paired_append (c ∷ []) ys h k = absurd h
paired_append (c ∷ d ∷ xs) ys h k = (h.0, paired_append xs ys h.1 k)

turned : (a b q : ℤ) → (a -ℤ b) *ℤ q +ℤ (b -ℤ a) *ℤ q ≡ pos 0
turned a b q = rw (⊖of a, ⊖of b, ⊖of q) (simp ⊖s (omega arith))

module _ (c d : Contract) (o : Opposite c d) where
  cancels_flow : (f : Factors) (k : ℕ) → flow f c k +ℤ flow f d k ≡ pos 0
  unfolding flow
  cancels_flow f k = rw (o.first-obliges, o.second_obliges, o.from_sink, o.to_source, o.quantity-same) (turned (factor f c.source k) (factor f c.sink k) (pos c.quantity.0))

  cancels_amount : (f : Factors) (p : List ℕ) → amount f p c +ℤ amount f p d ≡ pos 0
  unfolding amount
  cancels_amount f p = rw (o.first-obliges, o.second_obliges, o.from_sink, o.to_source, o.quantity-same) (turned (mcc f p c.sink) (mcc f p c.source) (pos c.quantity.0))

pub cancels : (c d : Contract) → Opposite c d → Cancels c d
cancels c d o = record { no_flow = cancels_flow c d o; no_payment = cancels_amount c d o }

-- ---- sums over a period's contracts, for a weight that cancels on each pair

module _ (w : Contract → ℤ) (cancel : (c d : Contract) → Opposite c d → w c +ℤ w d ≡ pos 0) (t : Period) where
  two : (a b s : ℤ) → a +ℤ b ≡ pos 0 → s ≡ pos 0 → a +ℤ (b +ℤ s) ≡ pos 0
  two a b s = rw (⊖of a, ⊖of b, ⊖of s) (simp ⊖s (omega arith))

  none : (new : List Contract) → Paired new → sum_over_of (of_period t new) w ≡ pos 0
  unfolding of_period sum_over_of
  none [] h = refl
  none (c ∷ []) h = absurd h
  none (c ∷ d ∷ cs) h = by (same_period c.period t) (same_period d.period t) (ap (λ (u : Period). same_period u t) h.0.period-same) (none cs h.1)
    where
      by : (x y : Bool) → y ≡ x → sum_over_of (of_period t cs) w ≡ pos 0
          → sum_over_of (cond x (c ∷ cond y (d ∷ of_period t cs) (of_period t cs)) (cond y (d ∷ of_period t cs) (of_period t cs))) w ≡ pos 0
      by true true q e = two (w c) (w d) (sum_over_of (of_period t cs) w) (cancel c d h.0) e
      by true false q e = cc
      by false true q e = cc
      by false false q e = e

  sum_kept : (old new : List Contract) → Paired new → sum_over_of (of_period t (old ++ new)) w ≡ sum_over_of (of_period t old) w
  sum_kept old new h = rw (of_period-append t old new, sum_over-append (of_period t old) (of_period t new) w, none new h) (+ℤ_idr (sum_over_of (of_period t old) w))

module _ (old new : List Contract) (h : Paired new) where
  flow-kept : (f : Factors) (u : Period) (k : ℕ) → total_flow f (of_period u (old ++ new)) k ≡ total_flow f (of_period u old) k
  unfolding total_flow
  flow-kept f u k = sum_kept (λ (c : Contract). flow f c k) (λ c d o. cancels_flow c d o f k) u old new h

  amount-kept : (f : Factors) (p : List ℕ) (u : Period) → exact_total f p (of_period u (old ++ new)) ≡ exact_total f p (of_period u old)
  unfolding exact_total
  amount-kept f p u = sum_kept (amount f p) (λ c d o. cancels_amount c d o f p) u old new h

  pub pairs-keep : MigrationKept old (old ++ new)
  pairs-keep =
      record {
        flows-kept = flow-kept;
        figures-kept = λ g process u. same_test g process _ _ (flow-kept g.factors u);
        payment-kept = amount-kept;
      }
