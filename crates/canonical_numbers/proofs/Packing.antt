-- A contract's number, which has the canonical order, from its parts.
use mathlib.Core.Path.{◌≡◌}
use Prim.Native.Nat.{ℕ, ◌+◌, ◌*◌, ◌/◌, ◌%◌, ◌^◌, ◌≤◌, ◌<◌}
use native.Mathlib.Omega.{arith}
use lib.Pow.{pow_mono}
use Rattle.tariff.specs.declared.contracts.Contract.{Contract}
use Rattle.layouts.specs.declared.forms.Form.TheVariants.{Wide}
use Rattle.layouts.specs.Inner.{contract_for}
use Rattle.book_rules.specs.Inner.{terms_number_of, contract_number_of}
use Rattle.canonical_rules.specs.Canonical.{quantity, five_of}
use Rattle.canonical_rules.specs.Inner.{row_number}

pub number_is : (c : Contract) (t s e q r : ℕ) → t ≡ terms_number_of c → s ≡ c.source → e ≡ c.sink → q ≡ quantity c → r ≡ contract_number_of Wide t s e q → r ≡ row_number c
unfolding five_of
number_is c t s e q r et es ee eq er = rw (er, ← es, ← ee, ← eq, ← et) (omega arith)

pub end-small : (w x : ℕ) → w ≤ 12 → x < 2 ^ w → x < 4096
end-small w x h l = omega (arith, pow_mono h)

pub narrow-number_is : (v t s r : ℕ) → t ≡ terms_number_of (contract_for 8 v) → s ≡ (contract_for 8 v).source → r ≡ v / 2 ^ 0 % 2 ^ 28
    → (t * 4096 + s) * 4294967296 + r ≡ row_number (contract_for 8 v)
unfolding five_of
narrow-number_is v t s r et es er = omega (arith, et, es, er)
