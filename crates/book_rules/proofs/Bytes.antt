-- A book's bytes: two of the header, then six or seven of each contract.
use mathlib.Core.Path.{◌≡◌, refl, sym, ap, ap₂, ◌∙◌}
use mathlib.Core.List.{List, [], ◌∷◌, ◌++◌, flat_map}
use Prim.Native.Nat.{ℕ, ◌+◌, ◌*◌, ◌/◌, ◌%◌, ◌^◌, ◌≤◌, ◌<◌}
use native.Mathlib.Nat.{mul-zero, mul-suc}
use native.Mathlib.Omega.{arith}
use lib.Pow.{high, shr-shr}
use lib.ListN.{length, set, length-append}
use Rattle.lists.specs.Lists.{Each}
use Rattle.lists.specs.Lent.{overwrite}
use Rattle.bits.specs.Bits.{digits}
use Rattle.bits.specs.Fields.{Field, bits, total_width, packed, file_of}
use Rattle.bits.specs.Inner.{Fit}
use Rattle.bits.proofs.Numbers.{digits_append, digits-high}
use Rattle.bits.proofs.Files.{total-append, packed-append, packed_lt}
use Rattle.tariff.specs.declared.contracts.Contract.{Contract}
use Rattle.layouts.specs.declared.forms.Form.{Form}
use Rattle.layouts.specs.declared.forms.Form.TheVariants.{Narrow, Wide}
use Rattle.layouts.specs.Forms.{end_width, record_bytes, spare_pattern_of}
use Rattle.layouts.specs.Inner.{contract_for}
use Rattle.layouts.specs.BookFile.{contract_bits, contract_fields, packed_book, book_bytes_of, book_file}
use Rattle.layouts.specs.BookTable.{ContractFits}
use Rattle.layouts.proofs.Records.{total-records, fit_records}
use Rattle.layouts.proofs.ContractBits.{kind-bit, period-bit}
use Rattle.layouts.proofs.BookFile.{total-contract, fit_contract, whole-bytes}
use Rattle.book_rules.specs.Inner.{header_bytes, contract_bytes, book_front, terms_number_of, contract_number_of, bits_bytes}

-- fields that fill whole bytes, behind others that do
file-append : (xs ys : List Field) (a b : ℕ) → total_width xs ≡ 8 * a → total_width ys ≡ 8 * b → Fit ys → file_of (xs ++ ys) ≡ file_of xs ++ file_of ys
unfolding file_of
file-append xs ys a b ea eb fit =
    let whole : total_width (xs ++ ys) / 8 ≡ a + b = omega (arith, total-append xs ys) in
    let na : total_width xs / 8 ≡ a = omega arith in
    let nb : total_width ys / 8 ≡ b = omega arith in
    let lt : packed ys < 2 ^ (8 * b) = rw eb at (packed_lt ys fit) in
    rw (whole, na, nb, packed-append xs ys, eb) (
    digits_append 8 a b (packed xs * 2 ^ (8 * b) + packed ys)
    ∙ ap₂ (λ (l r : List ℕ). l ++ r) (ap (digits 8 a) (high (packed xs) (8 * b) lt)) (digits-high 8 b b (packed xs) (packed ys) (omega arith))
    )

-- ---- one contract, and the header

-- a contract's bytes, from one number
pub contract-number : (f : Form) (c : Contract) (t q v : ℕ) → t ≡ terms_number_of c → q ≡ c.quantity.0 → v ≡ contract_number_of f t c.source c.sink q
    → contract_bytes f c ≡ bits_bytes f v
unfolding file_of contract_fields
contract-number Narrow c t q v et eq e = ap (digits 8 6) (rw (e, et, eq) (omega arith))
contract-number Wide c t q v et eq e = ap (digits 8 7) (rw (e, et, eq) (omega arith))

-- kind, period and holder stand side by side in the bits v, with ends of w bits
module _ (w v : ℕ) where
  abbrev upper : ℕ
  upper = v / 2 ^ (20 + (w + w))

  shifted : (k n : ℕ) → 20 + (w + w) + k ≡ n → v / 2 ^ n ≡ upper / 2 ^ k
  shifted k n e = sym (shr-shr v (20 + (w + w)) k ∙ ap (λ (x : ℕ). v / 2 ^ x) e)

  pub terms_are : v / 2 ^ (20 + (w + w)) % 2 ^ 12 ≡ terms_number_of (contract_for w v)
  terms_are =
      rw (
        kind-bit (v / 2 ^ (31 + (w + w)) % 2 ^ 1) (omega arith),
        period-bit (v / 2 ^ (30 + (w + w)) % 2 ^ 1) (omega arith),
        shifted 11 (31 + (w + w)) (omega arith),
        shifted 10 (30 + (w + w)) (omega arith),
      )
      (omega arith)

pub length-contract : (f : Form) (c : Contract) → length (contract_bytes f c) ≡ record_bytes f
unfolding file_of contract_fields
length-contract Narrow c = refl
length-contract Wide c = refl

-- two bytes of the header, from the count and the spare bits
pub header-stored : (f : Form) (file : List ℕ) (m p : ℕ) → 2 ≤ length file → m < 1024 → p ≡ spare_pattern_of f → p ≤ 63 → set (set file 0 (m / 4)) 1 (m % 4 * 64 + p) ≡ overwrite (header_bytes f m) file
unfolding file_of
header-stored f [] m p h few is most = absurd (omega arith)
header-stored f (x ∷ []) m p h few is most = absurd (omega arith)
header-stored f (x ∷ y ∷ zs) m p h few is most =
    let a : m / 4 ≡ (m * 64 + (spare_pattern_of f * 1 + 0)) / 2 ^ 8 % 2 ^ 8 = omega arith in
    let b : m % 4 * 64 + p ≡ (m * 64 + (spare_pattern_of f * 1 + 0)) / 2 ^ 0 % 2 ^ 8 = omega arith in
    λ t. a t ∷ b t ∷ zs

pub length-header : (f : Form) (m : ℕ) → length (header_bytes f m) ≡ 2
unfolding file_of
length-header f m = refl

-- ---- a book

module _ (f : Form) where
  fields : Contract → List Field
  fields = contract_fields (end_width f)

  total-contracts : (cs : List Contract) → total_width (flat_map fields cs) ≡ 8 * (record_bytes f * length cs)
  unfolding fields
  total-contracts cs = total-records (contract_fields (end_width f)) (contract_bits (end_width f)) (total-contract (end_width f)) cs ∙ rw (← whole-bytes f) (omega arith)

  fit_contracts : (cs : List Contract) → Each (ContractFits (end_width f)) cs → Fit (flat_map fields cs)
  unfolding fields
  fit_contracts = fit_records (contract_fields (end_width f)) (ContractFits (end_width f)) (fit_contract (end_width f))

  contracts-bytes : (cs : List Contract) → Each (ContractFits (end_width f)) cs → file_of (flat_map fields cs) ≡ flat_map (contract_bytes f) cs
  unfolding flat_map file_of fields
  contracts-bytes [] h = refl
  contracts-bytes (c ∷ cs) h =
      file-append (fields c) (flat_map fields cs) (record_bytes f) (record_bytes f * length cs) (total-contract (end_width f) c ∙ sym (whole-bytes f)) (total-contracts cs) (fit_contracts cs h.1)
      ∙ ap (λ (l : List ℕ). contract_bytes f c ++ l) (contracts-bytes cs h.1)

  -- a book whose contracts are all at its front is the whole file
  pub book-bytes : (cs : List Contract) → Each (ContractFits (end_width f)) cs → book_front f (length cs) cs ≡ book_file f cs
  unfolding book_file packed_book fields
  book-bytes cs h =
      sym (file-append (bits 10 (length cs) ∷ bits 6 (spare_pattern_of f) ∷ []) (flat_map fields cs) 2 (record_bytes f * length cs) refl (total-contracts cs) (fit_contracts cs h)
      ∙ ap (λ (l : List ℕ). header_bytes f (length cs) ++ l) (contracts-bytes cs h))

  length-contracts : (cs : List Contract) → length (flat_map (contract_bytes f) cs) ≡ record_bytes f * length cs
  unfolding flat_map
  length-contracts [] = sym (mul-zero (record_bytes f))
  length-contracts (c ∷ cs) = rw length-append (omega (arith, length-contract f c, length-contracts cs, mul-suc (record_bytes f) (length cs)))

  pub length_front : (m : ℕ) (cs : List Contract) → length (book_front f m cs) ≡ book_bytes_of f (length cs)
  length_front m cs = length-append (header_bytes f m) (flat_map (contract_bytes f) cs) ∙ omega (arith, length-header f m, length-contracts cs)
