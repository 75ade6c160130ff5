-- A contract that fits, back from its number; and a contract's bytes from its parts.
use mathlib.Core.Path.{◌≡◌, refl, ap, ap₂, ◌∙◌}
use Prim.Native.Nat.{ℕ, ◌+◌, ◌*◌, ◌/◌, ◌%◌, ◌^◌}
use native.Mathlib.Omega.{arith}
use Rattle.tariff.specs.declared.contracts.Contract.{Contract}
use Rattle.layouts.specs.declared.forms.Form.{Form}
use Rattle.layouts.specs.declared.forms.Form.TheVariants.{Narrow, Wide}
use Rattle.layouts.specs.Forms.{end_width}
use Rattle.layouts.specs.BookFile.{kind_bit_of, period_bit_of}
use Rattle.layouts.specs.Inner.{contract_for}
use Rattle.layouts.specs.BookTable.{ContractFits}
use Rattle.layouts.proofs.ContractBits.{kind-lt, period-lt, contract-is}
use Rattle.book_rules.specs.Inner.{contract_bytes, terms_number_of, contract_number_of, bits_bytes}
use Rattle.book_rules.proofs.Bytes.{contract-number}
use Rattle.canonical_rules.specs.Canonical.{quantity, five_of}
use Rattle.canonical_rules.specs.Inner.{row_number}

pub parts-bytes : (form : Form) (c : Contract) (t s e q r : ℕ) → t ≡ terms_number_of c → s ≡ c.source → e ≡ c.sink → q ≡ quantity c → r ≡ contract_number_of form t s e q
    → contract_bytes form c ≡ bits_bytes form r
parts-bytes form c t s e q r et es ee eq er = contract-number form c t q r et eq (er ∙ ap₂ (λ (x y : ℕ). contract_number_of form t x y q) es ee)

module _ (form : Form) (c : Contract) (fits : ContractFits (end_width form) c) (v : ℕ) (e : v ≡ row_number c) where
  wide : ContractFits 12 c
  wide = widen form fits
    where
      widen : (f : Form) → ContractFits (end_width f) c → ContractFits 12 c
      widen Narrow h = record { holder-fits = h.holder-fits; source_fits = omega (arith, h.source_fits); sink-fits = omega (arith, h.sink-fits); quantity-fits = h.quantity-fits }
      widen Wide h = h

  terms_back : v / 2 ^ 44 % 2 ^ 12 ≡ terms_number_of c
  unfolding five_of
  terms_back = omega (arith, e, kind-lt c.kind, period-lt c.period, wide.holder-fits, wide.source_fits, wide.sink-fits, wide.quantity-fits)

  source-back : v / 2 ^ 32 % 2 ^ 12 ≡ c.source
  unfolding five_of
  source-back = omega (arith, e, wide.source_fits, wide.sink-fits, wide.quantity-fits)

  sink-back : v / 2 ^ 20 % 2 ^ 12 ≡ c.sink
  unfolding five_of
  sink-back = omega (arith, e, wide.sink-fits, wide.quantity-fits)

  quantity-back : v / 2 ^ 0 % 2 ^ 20 ≡ quantity c
  quantity-back = omega (arith, e, wide.quantity-fits)

  pub contract-back : contract_for 12 v ≡ c
  contract-back =
      let k = kind-lt c.kind in
      let t = period-lt c.period in
      let kind : v / 2 ^ 55 % 2 ^ 1 ≡ kind_bit_of c.kind = omega (arith, terms_back, wide.holder-fits) in
      let period : v / 2 ^ 54 % 2 ^ 1 ≡ period_bit_of c.period = omega (arith, terms_back, wide.holder-fits) in
      let holder : v / 2 ^ 44 % 2 ^ 10 ≡ c.holder = omega (arith, terms_back, wide.holder-fits) in
      contract-is c kind period holder source-back sink-back quantity-back

-- a row's bytes in either form
module _ (of : Contract) (v : ℕ) (e : v ≡ row_number of) where
  pub narrow-bytes : ContractFits 8 of → (t s r : ℕ) → t ≡ terms_number_of (contract_for 12 v) → s ≡ (contract_for 12 v).source → r ≡ v / 2 ^ 0 % 2 ^ 28
      → contract_bytes Narrow (contract_for 12 v) ≡ bits_bytes Narrow ((t * 256 + s) * 268435456 + r)
  narrow-bytes fits t s r et es er =
      let small = sink-back Narrow of fits v e in
      parts-bytes Narrow (contract_for 12 v) t s (contract_for 12 v).sink (quantity (contract_for 12 v)) _ et es refl refl (omega (arith, er, small, fits.sink-fits))

  pub wide-bytes : ContractFits 12 of → contract_bytes Wide (contract_for 12 v) ≡ bits_bytes Wide v
  unfolding five_of
  wide-bytes fits =
      ap (contract_bytes Wide) (contract-back Wide of fits v e)
      ∙ parts-bytes Wide of (terms_number_of of) of.source of.sink (quantity of) v refl refl refl refl (omega (arith, e))
