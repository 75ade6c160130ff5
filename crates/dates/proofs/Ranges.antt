-- What the library's answers on ranges and lesser numbers are, in the tests that the definitions are written with.
use mathlib.Core.Path.{◌≡◌, refl, sym}
use mathlib.Core.Bool.{Bool, true, false, cond, ◌&&◌}
use Prim.Native.Nat.{ℕ, min}
use native.Mathlib.Omega.{arith}
use borrow.Author.Tests.{ltb-true, ltb-false, eqb-true, eqb-false, leb-true, leb-false, le-leb, lt-leb}
use lib.Dec.{leb, ltb, eqb}
use Rattle.std.specs.Ordering.{is_le, nat_cmp}
use Rattle.std.proofs.Common.{Less, Equal, Greater}
use Rattle.dates.specs.MonthLater.{cut_to}

pub order-test : (a b : ℕ) → is_le (nat_cmp a b) ≡ leb a b
order-test a b = by (ltb a b) refl (eqb a b) refl
  where
    by : (l : Bool) → ltb a b ≡ l → (e : Bool) → eqb a b ≡ e → is_le (cond l Less (cond e Equal Greater)) ≡ leb a b
    by true p e q = sym (le-leb a b (omega (arith, ltb-true a b p)))
    by false p true q = sym (le-leb a b (omega (arith, eqb-true a b q)))
    by false p false q = sym (lt-leb a b (omega (arith, ltb-false a b p, eqb-false a b q)))

pub range-test : (a b x : ℕ) → (is_le (nat_cmp a x) && is_le (nat_cmp x b)) ≡ (leb a x && leb x b)
range-test a b x = rw (order-test a x, order-test x b)

pub min-cut : (last day : ℕ) → min day last ≡ cut_to last day
min-cut last day = by (leb day last) refl
  where
    by : (t : Bool) → leb day last ≡ t → min day last ≡ cond t day last
    by true e = omega (arith, leb-true day last e)
    by false e = omega (arith, leb-false day last e)
