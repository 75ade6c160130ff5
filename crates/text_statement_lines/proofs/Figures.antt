-- How long figures are, and a contract's line as it is put.
use mathlib.Core.Path.{◌≡◌, refl, sym, ap, ◌∙◌}
use mathlib.Core.Bool.{Bool, true, false}
use mathlib.Core.List.{List, [], ◌++◌, append_assoc}
use Prim.Native.Nat.{ℕ, ◌+◌, ◌^◌, ◌≤◌, ◌<◌}
use native.Mathlib.Numerals.{add-one}
use native.Mathlib.Omega.{arith}
use lib.Count.{ones}
use lib.ListN.{length, get_or}
use lib.IntN.{ℤ, pos, nat_abs}
use mir.Syntax.{w64}
use mir.Val.{to_z, of_z}
use Rattle.integers.proofs.Machine.{back}
use Rattle.text_format.specs.Ascii.{ascii}
use Rattle.text_format.specs.Decimal.{decimal, decimal_z}
use Rattle.text_format.proofs.Digits.{decimal-below, decimal_z-below}
use Rattle.tariff.specs.declared.contracts.Kind.{Kind}
use Rattle.tariff.specs.declared.contracts.Kind.TheVariants.{Obligation, Option}
use Rattle.tariff.specs.declared.contracts.Period.{Period}
use Rattle.tariff.specs.declared.contracts.Contract.{Contract}
use Rattle.tariff.specs.Units.{max_constraints, max_contracts, max_holder, per_cent}
use Rattle.tariff.specs.Inner.{max_cents}
use Rattle.tariff.specs.ContractRules.{same_period}
use Rattle.text_statement_lines.specs.Lines.{kind_word, contract_line, line_of}
use Rattle.text_statement_lines.specs.Inner.{max_line_total, lines_to}

-- ---- how long they are

pub number-long : (n : ℕ) → n < max_contracts → length (decimal n) ≤ 3
number-long n h = decimal-below 3 n (omega arith) (omega arith)

pub holder-long : (n : ℕ) → n ≤ max_holder → length (decimal n) ≤ 4
holder-long n h = decimal-below 4 n (omega arith) (omega arith)

pub parts-long : (n : ℕ) → n < per_cent → length (decimal n) ≤ 8
parts-long n h = decimal-below 8 n (omega arith) (omega arith)

pub size-long : (n : ℕ) → n ≤ max_constraints → length (decimal n) ≤ 2
size-long n h = decimal-below 2 n (omega arith) (omega arith)

pub kind-long : (k : Kind) → length (kind_word k ++ ascii ",") ≡ 4
kind-long Obligation = refl
kind-long Option = refl

-- a signed figure that is kept in an i64
module _ (z : ℤ) (h : nat_abs z ≤ max_line_total) where
  pub kept : to_z w64 (of_z w64 z) ≡ z
  kept = back z (omega arith)

  pub kept_small : nat_abs (to_z w64 (of_z w64 z)) < 2 ^ 63
  kept_small = rw kept (omega arith)

  pub kept-total : nat_abs (to_z w64 (of_z w64 z)) ≤ max_line_total
  kept-total = rw kept h

  pub total-long : length (decimal_z (to_z w64 (of_z w64 z))) ≤ 15
  total-long = rw kept (decimal_z-below 14 z (omega arith) (omega arith))

module _ (z : ℤ) (h : nat_abs z ≤ max_cents) where
  pub kept-cents : nat_abs (to_z w64 (of_z w64 z)) ≤ max_cents
  kept-cents = rw (kept z (omega arith)) h

  pub cents-long : length (decimal_z (to_z w64 (of_z w64 z))) ≤ 12
  cents-long = rw (kept z (omega arith)) (decimal_z-below 11 z (omega arith) (omega arith))

-- ---- a contract's line

pub contract-text : (i : ℕ) (c : Contract) (z : ℤ) (n : ℕ)
    → contract_line i c z n
    ≡ decimal i ++ ascii "," ++ (decimal c.holder ++ ascii ",") ++ (kind_word c.kind ++ ascii ",") ++ decimal_z z ++ ascii "," ++ (decimal n ++ ascii "\n")
unfolding contract_line
contract-text i c z n =
    let comma = ascii "," in
    let end = ascii "\n" in
    let number = decimal i ++ comma in
    let holder = decimal c.holder in
    let kind = kind_word c.kind in
    ap (λ (l : List ℕ). l ++ kind ++ comma ++ decimal_z z ++ comma ++ decimal n ++ end) (append_assoc number holder comma)
    ∙ ap (λ (l : List ℕ). l ++ decimal_z z ++ comma ++ decimal n ++ end) (append_assoc (number ++ (holder ++ comma)) kind comma)
    ∙ append_assoc (number ++ (holder ++ comma) ++ (kind ++ comma) ++ decimal_z z ++ comma) (decimal n) end

module _ (t : Period) (i : ℕ) (c : Contract) (z : ℤ) (n : ℕ) (b : Bool) (e : b ≡ same_period c.period t) where
  pub own_line : b ≡ true → line_of t i c z n ≡ contract_line i c z n
  unfolding line_of
  own_line h = rw (sym e) (rw h)

  pub no_line : b ≡ false → line_of t i c z n ≡ []
  unfolding line_of
  no_line h = rw (sym e) (rw h)

-- ---- one contract more

-- contract m as c, its cell of cents as x and the size of its set as n
pub lines_more : (t : Period) (f : ℕ → Contract) (cells : List ℤ) (sets : List ℕ) (m : ℕ) (c : Contract) (x : ℤ) (n : ℕ) → c ≡ f m → x ≡ get_or cells m (pos 0) → n ≡ ones (get_or sets m 0)
    → lines_to t f cells sets (m + 1) ≡ lines_to t f cells sets m ++ line_of t m c x n
unfolding lines_to
lines_more t f cells sets m c x n e q h = rw (add-one, e, q, h)
