-- Flows are additive in the quantity, for both kinds: a factor that is not negative comes out of the greater-of-0.
use mathlib.Core.Path.{◌≡◌, refl, sym, ap, ap₂, ◌∙◌}
use Prim.Native.Nat.{ℕ, zero, suc, ◌+◌, ◌*◌}
use native.Mathlib.Nat.{mul-zero, mul-suc, add-suc, zero-mul}
use lib.IntN.{ℤ, pos, negsuc, ◌+ℤ◌, ◌-ℤ◌, ◌*ℤ◌}
use Rattle.integers.specs.Sums.{max0}
use Rattle.integers.proofs.Linear.{*-+ℤ, *ℤ-pos1}
use Rattle.tariff.specs.declared.contracts.Contract.{Contract}
use Rattle.tariff.specs.declared.contracts.Kind.{Kind}
use Rattle.tariff.specs.declared.contracts.Kind.TheVariants.{Obligation, Option}
use Rattle.tariff.specs.Units.{Factors, factor}
use Rattle.tariff.specs.ContractRules.{counted}
use Rattle.tariff.specs.Feasibility.{flow}
use Rattle.test_flow_laws.specs.Quantities.{with_quantity}

max0-times : (x : ℤ) (n : ℕ) → max0 (x *ℤ pos n) ≡ max0 x *ℤ pos n
max0-times (pos m) n = refl
max0-times (negsuc m) zero = rw (mul-zero (suc m)) refl
max0-times (negsuc m) (suc n) = rw (mul-suc (suc m) n, add-suc (suc m * n) m) (sym (ap pos (zero-mul (suc n))))

-- what counts of n times a figure is n times what counts of it
pub counted-product : (d : Kind) (x : ℤ) (n : ℕ) → counted d (x *ℤ pos n) ≡ counted d x *ℤ pos n
counted-product Obligation x n = refl
counted-product Option x n = max0-times x n

pub counted-plus : (d : Kind) (x : ℤ) (a b : ℕ) → counted d (x *ℤ pos (a + b)) ≡ counted d (x *ℤ pos a) +ℤ counted d (x *ℤ pos b)
counted-plus d x a b = counted-product d x (a + b) ∙ *-+ℤ (counted d x) (pos a) (pos b) ∙ sym (ap₂ ◌+ℤ◌ (counted-product d x a) (counted-product d x b))

module _ (f : Factors) (c : Contract) where
  pub flow-plus : (a b k : ℕ) → flow f (with_quantity (a + b) c) k ≡ flow f (with_quantity a c) k +ℤ flow f (with_quantity b c) k
  unfolding flow
  flow-plus a b k = counted-plus c.kind (factor f c.source k -ℤ factor f c.sink k) a b

  -- so much for each thousandth
  pub flow-times : (t k : ℕ) → flow f (with_quantity t c) k ≡ flow f (with_quantity 1 c) k *ℤ pos t
  unfolding flow
  flow-times t k =
      let d = factor f c.source k -ℤ factor f c.sink k in
      counted-product c.kind d t ∙ ap (λ (z : ℤ). counted c.kind z *ℤ pos t) (sym (*ℤ-pos1 d))
