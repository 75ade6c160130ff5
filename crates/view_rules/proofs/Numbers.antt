-- A contract's bytes by the number that its bits are, with its own holder or with another.
use mathlib.Core.Path.{◌≡◌, refl, ap, sym, ◌∙◌}
use Prim.Native.Nat.{ℕ, ◌+◌, ◌*◌, ◌/◌, ◌%◌, ◌^◌}
use native.Mathlib.Nat.{mod-lt, div-one}
use native.Mathlib.Omega.{arith}
use lib.Pow.{pow_pos, mod-pow-add, shr-shr, split}
use Rattle.bits.specs.Bits.{digits}
use Rattle.bits.proofs.Numbers.{digits-high}
use Rattle.tariff.specs.ContractRules.{kind_of, period_of}
use Rattle.layouts.specs.declared.forms.Form.{Form}
use Rattle.layouts.specs.declared.forms.Form.TheVariants.{Narrow, Wide}
use Rattle.layouts.specs.Forms.{end_width, record_bytes}
use Rattle.layouts.specs.BookFile.{kind_bit_of, period_bit_of}
use Rattle.layouts.specs.Inner.{contract_for}
use Rattle.layouts.proofs.ContractBits.{kind-bit, period-bit}
use Rattle.book_rules.specs.Inner.{contract_bytes, contract_number_of, bits_bytes}
use Rattle.book_rules.proofs.Bytes.{contract-number}

-- two parts of a number side by side are one
joined : (v a b c : ℕ) → v / 2 ^ a % 2 ^ (c + b) ≡ v / 2 ^ (a + b) % 2 ^ c * 2 ^ b + v / 2 ^ a % 2 ^ b
joined v a b c = mod-pow-add (v / 2 ^ a) c b ∙ ap (λ (x : ℕ). x % 2 ^ c * 2 ^ b + v / 2 ^ a % 2 ^ b) (shr-shr v a b)

-- the sum of a contract's parts in plain numbers: kind and period as one, x; the holder h; the ends and the quantity as one, z
narrow-sum : (x k p h z y s t q : ℕ) → x ≡ k * 2 + p → y ≡ t * 1048576 + q → z ≡ s * 268435456 + y
    → x * 70368744177664 + (h * 68719476736 + z) ≡ (((k * 2 + p) * 1024 + h) * 65536 + (s * 256 + t)) * 1048576 + q
narrow-sum x k p h z y s t q ex ey ez = omega arith

wide-sum : (x k p h z y s t q : ℕ) → x ≡ k * 2 + p → y ≡ t * 1048576 + q → z ≡ s * 4294967296 + y
    → x * 18014398509481984 + (h * 17592186044416 + z) ≡ (((k * 2 + p) * 1024 + h) * 16777216 + (s * 4096 + t)) * 1048576 + q
wide-sum x k p h z y s t q ex ey ez = omega arith

kept-kind : (v a : ℕ) → kind_bit_of (kind_of (v / 2 ^ a % 2 ^ 1)) ≡ v / 2 ^ a % 2 ^ 1
kept-kind v a = kind-bit (v / 2 ^ a % 2 ^ 1) (mod-lt _ (pow_pos 1))

kept-period : (v a : ℕ) → period_bit_of (period_of (v / 2 ^ a % 2 ^ 1)) ≡ v / 2 ^ a % 2 ^ 1
kept-period v a = period-bit (v / 2 ^ a % 2 ^ 1) (mod-lt _ (pow_pos 1))

-- the bits v with h in the holder's place: the two above it, h, and all below
abbrev pub with_holder : Form → ℕ → ℕ → ℕ
with_holder f v h = let e = end_width f + end_width f in v / 2 ^ (30 + e) % 2 ^ 2 * 2 ^ (30 + e) + (h * 2 ^ (20 + e) + v / 2 ^ 0 % 2 ^ (20 + e))

pub with_holder_lem : (f : Form) (v h : ℕ) → let c = contract_for (end_width f) v in
    with_holder f v h ≡ contract_number_of f ((kind_bit_of c.kind * 2 + period_bit_of c.period) * 1024 + h) c.source c.sink c.quantity.0
with_holder_lem Narrow v h =
    rw (kept-kind v 47, kept-period v 46)
    (narrow-sum _ (v / 2 ^ 47 % 2 ^ 1) (v / 2 ^ 46 % 2 ^ 1) h _ (v / 2 ^ 0 % 2 ^ 28) _ _ _ (joined v 46 1 1) (joined v 0 20 8) (joined v 0 28 8))
with_holder_lem Wide v h =
    rw (kept-kind v 55, kept-period v 54)
    (wide-sum _ (v / 2 ^ 55 % 2 ^ 1) (v / 2 ^ 54 % 2 ^ 1) h _ (v / 2 ^ 0 % 2 ^ 32) _ _ _ (joined v 54 1 1) (joined v 0 20 12) (joined v 0 32 12))

-- with its own holder it is all of the contract's bits
with_own : (f : Form) (v : ℕ) → v % 2 ^ (8 * record_bytes f) ≡ with_holder f v (contract_for (end_width f) v).holder
with_own Narrow v = ap (λ (x : ℕ). x % 2 ^ 48) (sym (div-one v)) ∙ joined v 0 46 2 ∙ ap (λ (x : ℕ). v / 2 ^ 46 % 2 ^ 2 * 2 ^ 46 + x) (joined v 0 36 10)
with_own Wide v = ap (λ (x : ℕ). x % 2 ^ 56) (sym (div-one v)) ∙ joined v 0 54 2 ∙ ap (λ (x : ℕ). v / 2 ^ 54 % 2 ^ 2 * 2 ^ 54 + x) (joined v 0 44 10)

lowest-bytes : (n v : ℕ) → digits 8 n (v % 2 ^ (8 * n)) ≡ digits 8 n v
lowest-bytes n v = sym (digits-high 8 n n (v / 2 ^ (8 * n)) (v % 2 ^ (8 * n)) (omega arith)) ∙ ap (digits 8 n) (split v (8 * n))

pub bits-bytes : (f : Form) (v : ℕ) → contract_bytes f (contract_for (end_width f) v) ≡ bits_bytes f v
bits-bytes f v =
    contract-number f (contract_for (end_width f) v) _ _ (v % 2 ^ (8 * record_bytes f)) refl refl (with_own f v ∙ with_holder_lem f v (contract_for (end_width f) v).holder)
    ∙ lowest-bytes (record_bytes f) v
