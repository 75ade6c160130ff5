-- A contract of the file from one number, over the width of its ends: its bits are B bytes, the last of the eight that the number has, from byte f on.
use mathlib.Core.Path.{◌≡◌, ap, ◌∙◌}
use mathlib.Core.List.{List}
use Prim.Native.Nat.{ℕ, ◌+◌, ◌-◌, ◌*◌, ◌/◌, ◌%◌, ◌^◌, ◌≤◌}
use native.Mathlib.Omega.{arith}
use lib.ListN.{length, take, drop}
use Rattle.bits.specs.Bits.{number, field}
use Rattle.bits.proofs.Numbers.{Below}
use Rattle.bits.proofs.Fields.{field-window}
use Rattle.layouts.specs.declared.forms.Form.{Form}
use Rattle.layouts.specs.declared.forms.Form.TheVariants.{Narrow, Wide}
use Rattle.layouts.specs.Forms.{end_width, record_bytes}
use Rattle.layouts.specs.BookFile.{contract, contract_bits, contract_from, book_bytes_of, contract_in}
use Rattle.layouts.specs.Inner.{contract_for}
use Rattle.layouts.proofs.BookFile.{whole-bytes}

module _ (w B : ℕ) (whole : 8 * B ≡ contract_bits w) (short : B ≤ 8) (s : List ℕ) (i f v : ℕ) (b : Below 8 s) (ends : f + 8 ≡ 2 + B * i + B) (le : 2 + B * i + B ≤ length s)
    (e : v ≡ number 8 (take 8 (drop f s))) where
  -- where the contract's bits begin, in bytes
  begins : contract_bits w * i ≡ 8 * (B * i)
  begins = rw (← whole) (omega arith)

  -- the field of x bits at o, a bits into the contract, with r bits of the contract behind it
  pub contract-part : (a x o r : ℕ) → a + x + r ≡ contract_bits w → o ≡ 16 + contract_bits w * i + a → field s o x ≡ v / 2 ^ r % 2 ^ x
  contract-part a x o r end at =
      rw e
      (field-window s o x f 8 b (omega (arith, begins)) (omega (arith, begins)) (omega arith)
      ∙ ap (λ (y : ℕ). number 8 (take 8 (drop f s)) / 2 ^ y % 2 ^ x) {x = 8 * (f + 8) - (o + x)} {y = r} (omega (arith, begins)))

  -- the six fields as parts of the number v
  pub contract-number : contract_from w s (16 + contract_bits w * i) ≡ contract_for w v
  unfolding contract_from
  contract-number =
      let o = 16 + contract_bits w * i in
      λ t. contract (contract-part 0 1 o (31 + (w + w)) (omega arith) (omega arith) t) (contract-part 1 1 (o + 1) (30 + (w + w)) (omega arith) (omega arith) t)
      (contract-part 2 10 (o + 1 + 1) (20 + (w + w)) (omega arith) (omega arith) t) (contract-part 12 w (o + 1 + 1 + 10) (20 + w) (omega arith) (omega arith) t)
      (contract-part (12 + w) w (o + 1 + 1 + 10 + w) 20 (omega arith) (omega arith) t) (contract-part (12 + w + w) 20 (o + 1 + 1 + 10 + w + w) 0 (omega arith) (omega arith) t)

-- in either form
pub contract-in_number : (g : Form) (s : List ℕ) (i f v : ℕ) → Below 8 s → f + 8 ≡ book_bytes_of g i + record_bytes g → book_bytes_of g i + record_bytes g ≤ length s → v ≡ number 8 (take 8 (drop f s))
    → contract_in g s i ≡ contract_for (end_width g) v
unfolding contract_in
contract-in_number Narrow = contract-number 8 6 (whole-bytes Narrow) (omega arith)
contract-in_number Wide = contract-number 12 7 (whole-bytes Wide) (omega arith)
