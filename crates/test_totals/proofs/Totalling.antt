-- Cells that are totals or not, and cells with flows added.
use mathlib.Core.Path.{◌≡◌, sym, ap, ap₂, ◌∙◌}
use mathlib.Core.Bool.{◌||◌, true, false}
use mathlib.Core.List.{List}
use Prim.Native.Nat.{ℕ, ◌+◌, ◌*◌, ◌^◌, ◌≤◌, ◌<◌}
use native.Mathlib.Nat.{add-zero}
use native.Mathlib.Omega.{arith}
use borrow.Author.Tests.{lt-ltb, le-ltb, ltb-false}
use lib.Dec.{ltb}
use lib.ListN.{length, get_or, take, drop}
use lib.Seq.{get_or-take, get_or-drop, take_all}
use lib.IntN.{ℤ, pos, nat_abs, ◌+ℤ◌}
use mir.Syntax.{w64}
use mir.Val.{to_z, of_z}
use Rattle.integers.proofs.Sizes.{nat_abs_add}
use Rattle.integers.proofs.Machine.{back}
use Rattle.lists.specs.Lists.{any_of}
use Rattle.lists.proofs.Search.{neither, none-bad, any_of_bad, cell_in}
use Rattle.tariff.specs.Units.{max_flow}
use Rattle.test_totals.specs.Totals.{max_summed, beyond, no_totals_of}

-- ---- cells that are totals or not

-- the first k cells by themselves
pub cut_totals : (k count : ℕ) (flows : List ℤ) → k ≤ length flows → no_totals_of (length (take k flows)) count (take k flows) ≡ no_totals_of k count flows
unfolding no_totals_of
cut_totals k count flows long = ap (λ (l : List ℤ). ltb max_summed count || any_of (beyond count) l) (take_all (length (take k flows)) (take k flows) (omega arith))

module _ (k count : ℕ) (flows : List ℤ) where
  module _ (long : k ≤ length flows) (told : no_totals_of k count flows ≡ false) where
    parts : (ltb max_summed count ≡ false) × (any_of (beyond count) (take k flows) ≡ false)
    unfolding no_totals_of
    parts = neither (ltb max_summed count) (any_of (beyond count) (take k flows)) told

    pub count-few : count ≤ max_summed
    count-few = ltb-false max_summed count parts.0

    pub flow-few : (j : ℕ) → j < k → nat_abs (get_or flows j (pos 0)) ≤ max_flow * count
    flow-few j h =
        let none = none-bad (beyond count) (take k flows) (pos 0) parts.1 j (cell_in flows k j long h) in
        rw (get_or-take k flows j (pos 0) h) at (ltb-false (max_flow * count) (nat_abs (get_or (take k flows) j (pos 0))) none)

-- ---- a sum as the machine keeps it

pub both-kept : (x y : ℤ) → nat_abs x + nat_abs y < 2 ^ 63 → nat_abs (to_z w64 (of_z w64 x)) + nat_abs (to_z w64 (of_z w64 y)) < 2 ^ 63
both-kept x y h = rw (back x (omega arith), back y (omega arith)) h

pub sum_kept : (x y v : ℤ) → nat_abs x + nat_abs y < 2 ^ 63 → v ≡ to_z w64 (of_z w64 x) +ℤ to_z w64 (of_z w64 y) → to_z w64 (of_z w64 v) ≡ x +ℤ y
sum_kept x y v h e =
    let f : v ≡ x +ℤ y = e ∙ ap₂ ◌+ℤ◌ (back x (omega arith)) (back y (omega arith)) in
    back v (rw f (omega (arith, nat_abs_add x y))) ∙ f

-- a cell behind those done is as it was
pub cell_waits : (out out₀ : List ℤ) (k : ℕ) → drop k out ≡ drop k out₀ → get_or out k (pos 0) ≡ get_or out₀ k (pos 0)
cell_waits out out₀ k e =
    let at : (xs : List ℤ) → get_or (drop k xs) 0 (pos 0) ≡ get_or xs k (pos 0) = λ xs. get_or-drop k xs 0 (pos 0) ∙ rw add-zero in
    sym (at out) ∙ ap (λ (xs : List ℤ). get_or xs 0 (pos 0)) e ∙ at out₀
