-- `put_signed`: below zero a sign and the size.
-- what is put, by the sign
use mathlib.Core.Path.{◌≡◌, refl, ap, ◌∙◌}
use mathlib.Core.Bool.{true, false}
use mathlib.Core.List.{List, ◌∷◌, ◌++◌}
use Prim.Native.Nat.{ℕ}
use native.Mathlib.Omega.{arith}
use lib.ListN.{length, length-append}
use lib.IntN.{ℤ, pos, nat_abs}
use lib.Signed.{lt_z}
use mir.Syntax.{w64}
use mir.Val.{SFits, to_z, of_z}
use Rattle.std.proofs.Math.Facts.{to_z-of_z}
use Rattle.text_format.specs.declared.Text.{Text}
use Rattle.text_format.specs.Inner.{Puts}
use Rattle.text_format.specs.Decimal.{decimal, decimal_z}
use Rattle.text_format.proofs.Digits.{text_negative, text_positive}
use Rattle.text_format.proofs.Putting.{puts_none, puts_same, ◌and◌}
use Rattle.text_format.proofs.Text.put_signed.Goals as goal
use Rattle.text_format.proofs.Text.put_signed.Goals.{then-z-lt0, else-z-lt0}

module _ (z : ℤ) (fits : SFits w64 z) (size : ℕ) (value : size ≡ nat_abs (to_z w64 (of_z w64 z))) where
  negative : lt_z (to_z w64 (of_z w64 z)) (pos 0) ≡ true → decimal_z z ≡ 45 ∷ decimal size
  negative e = rw (value, to_z-of_z fits) (text_negative z (rw (to_z-of_z fits) at e))

  positive : lt_z (to_z w64 (of_z w64 z)) (pos 0) ≡ false → decimal_z z ≡ decimal size
  positive e = rw (value, to_z-of_z fits) (text_positive z (rw (to_z-of_z fits) at e))

-- what stands there once the sign does, for the number's size
record Signed (old text : Text) (z : ℤ) (size : ℕ) : Type 0 where
  sign : List ℕ
  put : Puts old sign text
  whole : decimal_z z ≡ sign ++ decimal size

pub put_char-requires : goal.put_char-requires
put_char-requires c = omega (arith, c.requires, ap length (negative c.args.z c.ranges.z (nat_abs (to_z w64 (of_z w64 c.args.z))) refl c.if-z-lt0.true))

pub put_decimal-requires : goal.put_decimal-requires
put_decimal-requires c =
    let n = c.unsigned_abs in
    let s : Signed c.args.self.now c.if-z-lt0.self c.args.z n.result = elim c.if-z-lt0.branch [
      | then-z-lt0 w ↦ rw w.self-is (record { sign = _; put = w.put_char.ensures; whole = negative c.args.z c.ranges.z n.result n.ensures.value w.if-z-lt0.true })
      | else-z-lt0 w ↦ rw w.self-is (record { sign = _; put = puts_none (omega (arith, c.requires)); whole = positive c.args.z c.ranges.z n.result n.ensures.value w.if-z-lt0.false })
    ] in
    omega (arith, s.put.same_length, s.put.put.place, c.requires, ap length s.whole ∙ length-append s.sign (decimal n.result))

pub returns-clause-put : goal.returns-clause-put
returns-clause-put c =
    let n = c.unsigned_abs in
    let s : Signed c.args.self.now c.if-z-lt0.self c.args.z n.result = elim c.if-z-lt0.branch [
      | then-z-lt0 w ↦ rw w.self-is (record { sign = _; put = w.put_char.ensures; whole = negative c.args.z c.ranges.z n.result n.ensures.value w.if-z-lt0.true })
      | else-z-lt0 w ↦ rw w.self-is (record { sign = _; put = puts_none (omega (arith, c.requires)); whole = positive c.args.z c.ranges.z n.result n.ensures.value w.if-z-lt0.false })
    ] in
    puts_same s.whole (s.put and c.put_decimal.ensures.put)
