-- The test's figures as cells: those of a pass, or the four of a fail.
use mathlib.Core.Path.{◌≡◌, refl, sym, ◌∙◌}
use mathlib.Core.Bool.{Bool, true, false, cond}
use mathlib.Core.List.{List, [], ◌∷◌}
use Prim.Native.Nat.{ℕ}
use native.Mathlib.Omega.{arith}
use borrow.Author.Tests.{eqb-false}
use lib.Dec.{eqb}
use lib.IntN.{ℤ, pos}
use Rattle.test_rules.specs.TestBook.{TestCells, pass_cells_of}

abbrev pub cells_by : ℕ → ℕ → ℕ → ℤ → TestCells
cells_by set count lowest over = record { set = set; count = count; lowest = lowest; over = over }

abbrev pub values_by : ℕ → ℕ → ℕ → ℤ → List ℤ
values_by set count lowest over = pos set ∷ pos count ∷ pos lowest ∷ over ∷ []

-- figures S, C, L, E, or none
module _ (S C L : ℕ) (E : ℤ) where
  pub pass_by : (b : Bool) → [] ≡ cond b [] (values_by S C L E) → pass_cells_of ≡ cond b pass_cells_of (cells_by S C L E)
  pass_by true e = refl
  pass_by false e = let z : ◌≡◌ {A = ℕ} 0 1 = cc in absurd (omega arith)

  module _ (set count lowest : ℕ) (over : ℤ) where
    pub fail_by : (b : Bool) → values_by set count lowest over ≡ cond b [] (values_by S C L E) → cells_by set count lowest over ≡ cond b pass_cells_of (cells_by S C L E)
    fail_by true e = let z : ◌≡◌ {A = ℕ} 0 1 = cc in absurd (omega arith)
    fail_by false e =
        let p : set ≡ S = cc in
        let q : count ≡ C = cc in
        let r : lowest ≡ L = cc in
        let s : over ≡ E = cc in
        λ t. cells_by (p t) (q t) (r t) (s t)

    pub some_by : (b : Bool) → eqb S 0 ≡ b → values_by set count lowest over ≡ cond b [] (values_by S C L E) → set ≡ 0 → ⊥
    some_by true t e h = let z : ◌≡◌ {A = ℕ} 0 1 = cc in absurd (omega arith)
    some_by false t e h = let p : set ≡ S = cc in eqb-false S 0 t (sym p ∙ h)
