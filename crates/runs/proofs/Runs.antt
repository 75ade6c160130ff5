-- Laws of a search and a reading of a run.
use mathlib.Core.Path.{◌≡◌, refl, sym, ap, ◌∙◌}
use mathlib.Core.List.{List}
use mathlib.Core.Bool.{Bool, ◌||◌}
use Prim.Native.Nat.{ℕ, zero, suc, ◌+◌, ◌*◌, ◌≤◌, ◌<◌}
use native.Mathlib.Nat.{mul-suc}
use native.Mathlib.Omega.{arith}
use lib.ListN.{length, get_or}
use Rattle.std.specs.List.{list_any, range_with_len}
use Rattle.bits.specs.Bits.{field, fields}
use Rattle.bits.proofs.Fields.{field-of_run, fields-cons, length_fields}
use Rattle.lists.specs.Lists.{any_of}

-- a field that is read is the run's
pub run_at : (s : List ℕ) (o w n i v : ℕ) → i < n → o + w * n ≤ 8 * length s → v ≡ field s (o + w * i) w → v ≡ get_or (fields s o w n) i 0
run_at s o w n i v h le e = e ∙ sym (field-of_run s o w n i h le)

pub run_in : (s : List ℕ) (o w n i : ℕ) → i < n → i < length (fields s o w n)
run_in s o w n i h = rw length_fields h

-- a search by the fields' numbers, from field k of the run on, is one of the run
pub search_run : (bad : ℕ → Bool) (s : List ℕ) (o w k n : ℕ) → o + w * k + w * n ≤ 8 * length s
    → list_any (λ i. bad (field s (o + w * i) w)) (range_with_len k n) ≡ any_of bad (fields s (o + w * k) w n)
unfolding any_of fields
search_run bad s o w k zero le = refl
search_run bad s o w k (suc n) le =
    let next : o + w * (k + 1) ≡ o + w * k + w = omega arith in
    let rest = search_run bad s o w (k + 1) n (omega (arith, mul-suc w n)) in
    ap (λ (b : Bool). bad (field s (o + w * k) w) || b) (rw next at rest) ∙ ap (any_of bad) (sym (fields-cons s (o + w * k) w n le))
