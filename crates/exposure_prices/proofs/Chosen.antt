-- What the library answers of a number in a range, in the tests of `chosen_in`.
use mathlib.Core.Path.{◌≡◌, refl, sym, ap₂}
use mathlib.Core.Bool.{Bool, true, false, cond, ◌&&◌}
use Prim.Native.Nat.{ℕ}
use native.Mathlib.Omega.{arith}
use borrow.Author.Tests.{ltb-true, ltb-false, eqb-true, eqb-false, le-leb, lt-leb}
use lib.Dec.{leb, ltb, eqb}
use Rattle.std.specs.Ordering.{is_le, is_lt, nat_cmp}
use Rattle.std.proofs.Common.{Less, Equal, Greater}

from-told : (a b : ℕ) → is_le (nat_cmp a b) ≡ leb a b
from-told a b = by (ltb a b) refl (eqb a b) refl
  where
    by : (l : Bool) → ltb a b ≡ l → (e : Bool) → eqb a b ≡ e → is_le (cond l Less (cond e Equal Greater)) ≡ leb a b
    by true p e q = sym (le-leb a b (omega (arith, ltb-true a b p)))
    by false p true q = sym (le-leb a b (omega (arith, eqb-true a b q)))
    by false p false q = sym (lt-leb a b (omega (arith, ltb-false a b p, eqb-false a b q)))

below-told : (a b : ℕ) → is_lt (nat_cmp a b) ≡ ltb a b
below-told a b = by (ltb a b) (eqb a b)
  where
    by : (less same : Bool) → is_lt (cond less Less (cond same Equal Greater)) ≡ less
    by true same = refl
    by false true = refl
    by false false = refl

pub chosen_told : (a b k : ℕ) → (is_le (nat_cmp a k) && is_lt (nat_cmp k b)) ≡ (leb a k && ltb k b)
chosen_told a b k = ap₂ ◌&&◌ (from-told a k) (below-told k b)
