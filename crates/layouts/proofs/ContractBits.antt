-- Kinds and periods as bits, and a contract from six numbers.
use mathlib.Core.Path.{◌≡◌, refl, ◌∙◌}
use Prim.Native.Nat.{ℕ, zero, suc, ◌<◌}
use native.Mathlib.Omega.{arith}
use Rattle.tariff.specs.declared.contracts.Kind.{Kind}
use Rattle.tariff.specs.declared.contracts.Kind.TheVariants.{Obligation, Option}
use Rattle.tariff.specs.declared.contracts.Period.{Period}
use Rattle.tariff.specs.declared.contracts.Period.TheVariants.{OffPeak, OnPeak}
use Rattle.tariff.specs.declared.contracts.Contract.{Contract}
use Rattle.tariff.specs.ContractRules.{kind_of, period_of}
use Rattle.layouts.specs.BookFile.{kind_bit_of, period_bit_of, contract}

pub kind-back : (x : Kind) → kind_of (kind_bit_of x) ≡ x
kind-back Obligation = refl
kind-back Option = refl

pub period-back : (x : Period) → period_of (period_bit_of x) ≡ x
period-back OffPeak = refl
period-back OnPeak = refl

pub kind-bit : (b : ℕ) → b < 2 → kind_bit_of (kind_of b) ≡ b
kind-bit zero h = refl
kind-bit (suc zero) h = refl
kind-bit (suc (suc b)) h = absurd (omega arith)

pub period-bit : (b : ℕ) → b < 2 → period_bit_of (period_of b) ≡ b
period-bit zero h = refl
period-bit (suc zero) h = refl
period-bit (suc (suc b)) h = absurd (omega arith)

pub kind-lt : (x : Kind) → kind_bit_of x < 2
kind-lt Obligation = omega arith
kind-lt Option = omega arith

pub period-lt : (x : Period) → period_bit_of x < 2
period-lt OffPeak = omega arith
period-lt OnPeak = omega arith

-- six numbers equal to a contract's make that contract
pub contract-is : (c : Contract) {x y h s t q : ℕ} → x ≡ kind_bit_of c.kind → y ≡ period_bit_of c.period → h ≡ c.holder → s ≡ c.source → t ≡ c.sink → q ≡ c.quantity.0 → contract x y h s t q ≡ c
contract-is c ex ey eh es et eq =
    (λ i. contract (ex i) (ey i) (eh i) (es i) (et i) (eq i))
    ∙ (λ i. record { kind = kind-back c.kind i; period = period-back c.period i; holder = c.holder; source = c.source; sink = c.sink; quantity = c.quantity })
