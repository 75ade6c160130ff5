-- `put_member`: the blank, if one is to stand there, and the number.
use mathlib.Core.Path.{◌≡◌}
use mathlib.Core.Bool.{cond}
use mathlib.Core.List.{List, [], ◌++◌}
use Prim.Native.Nat.{ℕ, ◌/◌, ◌%◌, ◌^◌, ◌≤◌, ◌<◌}
use native.Mathlib.Omega.{arith}
use lib.ListN.{length}
use Rattle.tariff.specs.Units.{max_constraints}
use Rattle.text_format.specs.Ascii.{ascii}
use Rattle.text_format.specs.Decimal.{decimal}
use Rattle.text_format.specs.Inner.{Puts}
use Rattle.text_format.specs.declared.Text.{Text}
use Rattle.text_format.proofs.Digits.{decimal-below}
use Rattle.text_format.proofs.Putting.{puts_none, puts_same, ◌and◌}
use Rattle.text_report_rules.specs.Inner.{in_set, member}
use Rattle.text_report_rules.proofs.Members.{first_member, next-member}
use Rattle.text_report_figures.proofs.put_member.Goals as goal
use Rattle.text_report_figures.proofs.put_member.Goals.{then-text-first, else-text-first}

two_digits : (k : ℕ) → k < max_constraints → length (decimal k) ≤ 2
two_digits k h = decimal-below 2 k (omega arith) (omega arith)

-- what stands there once the blank does
record Begun (first set k : ℕ) (old text : Text) : Type 0 where
  blank : List ℕ
  put : Puts old blank text
  short : length blank ≤ 1
  whole : cond (in_set set k) (member first old.at k) [] ≡ blank ++ decimal k

module _ (first set k : ℕ) (old text : Text) (inside : set / 2 ^ k % 2 ≡ 1) where
  later : (old.at ≡ first → ⊥) → Puts old (ascii " ") text → Begun first set k old text
  later h p = record { blank = ascii " "; put = p; short = omega arith; whole = next-member first old.at set k inside h }

  at_first : old.at ≡ first → old.at ≤ length old.buf.now → text ≡ old → Begun first set k old text
  at_first h room same = rw same (record { blank = []; put = puts_none room; short = omega arith; whole = first_member first old.at set k inside h })

pub put_decimal-requires : goal.put_decimal-requires
put_decimal-requires c =
    let a = c.args in
    let b : Begun a.first a.set a.k a.text.now c.if-text-first.text = elim c.if-text-first.branch [
      | then-text-first w ↦ later _ _ _ _ _ c.if-set-k-ne1.false w.if-text-first.true (rw w.text-is w.put_char.ensures)
      | else-text-first w ↦ at_first _ _ _ _ _ c.if-set-k-ne1.false w.if-text-first.false (omega (arith, c.requires.1)) w.text-is
    ] in
    omega (arith, b.put.same_length, b.put.put.place, b.short, two_digits a.k c.requires.0, c.requires.1)

pub returns-clause-put : goal.returns-clause-put
returns-clause-put c =
    let a = c.args in
    let b : Begun a.first a.set a.k a.text.now c.if-text-first.text = elim c.if-text-first.branch [
      | then-text-first w ↦ later _ _ _ _ _ c.if-set-k-ne1.false w.if-text-first.true (rw w.text-is w.put_char.ensures)
      | else-text-first w ↦ at_first _ _ _ _ _ c.if-set-k-ne1.false w.if-text-first.false (omega (arith, c.requires.1)) w.text-is
    ] in
    puts_same b.whole (b.put and c.put_decimal.ensures.put)

pub returns-clause-upper_bound : goal.returns-clause-upper_bound
returns-clause-upper_bound c =
    let a = c.args in
    let b : Begun a.first a.set a.k a.text.now c.if-text-first.text = elim c.if-text-first.branch [
      | then-text-first w ↦ later _ _ _ _ _ c.if-set-k-ne1.false w.if-text-first.true (rw w.text-is w.put_char.ensures)
      | else-text-first w ↦ at_first _ _ _ _ _ c.if-set-k-ne1.false w.if-text-first.false (omega (arith, c.requires.1)) w.text-is
    ] in
    omega (arith, b.put.put.place, b.short, c.put_decimal.ensures.put.put.place, two_digits a.k c.requires.0)
