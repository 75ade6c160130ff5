-- A slice of bytes as digits of 8 bits.
use mathlib.Core.Path.{◌≡◌, refl}
use mathlib.Core.Bool.{Bool, true, false}
use mathlib.Core.List.{List}
use Prim.Native.Nat.{ℕ, ◌^◌, ◌<◌}
use native.Mathlib.Omega.{arith}
use borrow.Author.Tests.{ltb-true, ltb-false}
use lib.Dec.{ltb}
use lib.ListN.{length, get_or, get_or-eq_default}
use Rattle.bits.proofs.Numbers.{Below}
use Rattle.bits.specs.Bits.{Bytes}

pub bytes_below : (s : List ℕ) → Bytes s → Below 8 s
bytes_below s h i = by (ltb i (length s)) refl
  where
    by : (b : Bool) → ltb i (length s) ≡ b → get_or s i 0 < 2 ^ 8
    by true t = omega (arith, h i (ltb-true i (length s) t))
    by false t = rw (get_or-eq_default s 0 {n = i} (omega (arith, ltb-false i (length s) t))) (omega arith)
