-- What the machine gives of a cut's flow and of its comparison with an excess, as plain whole numbers.
use mathlib.Core.Path.{◌≡◌, refl, sym, ap, ◌∙◌, subst}
use mathlib.Core.Logic.{⊎_elim}
use mathlib.Core.Bool.{Bool, true, false, cond, true≢false}
use mathlib.Core.List.{List}
use Prim.Native.Nat.{ℕ, ◌+◌, ◌-◌, ◌*◌, ◌/◌, ◌%◌, ◌^◌, ◌<◌, ◌≤◌, min}
use native.Mathlib.Nat.{eq-or-lt_of_le}
use native.Mathlib.Omega.{arith}
use borrow.Author.Tests.{le-leb, lt-leb}
use native.Mathlib.Decide.{ℕ_discrete}
use Rattle.std.specs.Int.{div_ceil}
use Rattle.std.specs.Ordering.{is_lt, int_cmp}
use Rattle.std.proofs.Math.Nat.{div-add-mod, mod-lt}
use Rattle.std.proofs.lemmas.Nat.{div-mul-add}
use lib.Dec.{T, leb, lit<}
use lib.ListN.{get_or}
use lib.IntN.{ℤ, pos, negsuc, nat_abs, ◌-ℤ◌, ◌*ℤ◌}
use lib.Signed.{◌≤ℤ◌, ◌<ℤ◌, lt_z, le_z, non_neg, lt_z_yes, lt_z_no, le_z_yes}
use mir.Syntax.{w64}
use mir.Val.{to_z, of_z}
use Rattle.integers.proofs.Machine.{back}
use Rattle.integers.proofs.Linear.{⊖s, not_≤ℤ}
use Rattle.tariff.specs.declared.contracts.Contract.{Contract}
use Rattle.tariff.specs.declared.contracts.Kind.{Kind}
use Rattle.tariff.specs.Units.{max_factor, max_quantity, max_flow}
use Rattle.tariff.specs.ContractRules.{counted, InRange}
use Rattle.grid_tables.specs.Inner.{GoodFactors, RowOf}
use Rattle.grid_tables.proofs.Factors.{factor-cell}
use Rattle.test_flow_laws.proofs.Additive.{counted-product}
use Rattle.cut_rules.specs.Inner.{need_at}
use Rattle.cut_rules.proofs.Needs.{is_true}
use Rattle.cut_rules.proofs.Turns.{need-sizes}
use Rattle.test_rules.proofs.Flowing.{kept-sized, part_small}
use Rattle.test_rules.proofs.Judging.{less-is}
use Rattle.cut_needs.specs.Inner.{slope_from, slope_in}

-- what a cell of an i64 gives back
abbrev pub kept : ℤ → ℤ
kept x = to_z w64 (of_z w64 x)

-- the flow of the cut t, from factors x and y: so many times the slope
pub relief_of : (d : Kind) (x y z : ℤ) (t : ℕ) → nat_abs x ≤ max_factor → nat_abs y ≤ max_factor → z ≡ counted d ((kept x -ℤ kept y) *ℤ pos t) → z ≡ counted d (x -ℤ y) *ℤ pos t
relief_of d x y z t hx hy e = e ∙ rw (back x (omega arith), back y (omega arith)) (counted-product d (x -ℤ y) t)

pub relief_sized : (d : Kind) (x y z : ℤ) (t : ℕ) → nat_abs x ≤ max_factor → nat_abs y ≤ max_factor → t ≤ max_quantity → z ≡ counted d ((kept x -ℤ kept y) *ℤ pos t) → nat_abs z ≤ max_flow
relief_sized d x y z t hx hy h e = part_small z x y d t (e ∙ rw (back x (omega arith), back y (omega arith))) hx hy h

-- on constraint j, by the rows of a contract's ends
module _ (n k : ℕ) (fs : List ℤ) (good : GoodFactors n k fs) (c : Contract) (own : InRange n c) (source sink : List ℤ) (from : RowOf n k fs c.source source)
    (to : RowOf n k fs c.sink sink) (j : ℕ) (b : j < k) where
  -- the factors of both ends
  abbrev x : ℤ
  x = get_or source j (pos 0)

  abbrev y : ℤ
  y = get_or sink j (pos 0)

  spread-is : counted c.kind (x -ℤ y) ≡ slope_in k fs c j
  unfolding slope_from
  spread-is = rw (from.cell j b, to.cell j b, factor-cell n k fs good c.source j own.source-below b, factor-cell n k fs good c.sink j own.sink-below b)

  pub factors-kept : (nat_abs (kept x) ≤ max_factor) × (nat_abs (kept y) ≤ max_factor)
  factors-kept = (kept-sized x max_factor (lit< tt) (from.sized j b), kept-sized y max_factor (lit< tt) (to.sized j b))

  pub relief_is : (z : ℤ) (t : ℕ) → z ≡ counted c.kind ((kept x -ℤ kept y) *ℤ pos t) → z ≡ slope_in k fs c j *ℤ pos t
  relief_is z t e = relief_of c.kind x y z t (from.sized j b) (to.sized j b) e ∙ ap (λ (s : ℤ). s *ℤ pos t) spread-is

  pub slope-is : counted c.kind (kept x -ℤ kept y) ≡ slope_in k fs c j
  slope-is = rw (back x (omega (arith, from.sized j b)), back y (omega (arith, to.sized j b))) spread-is

  pub relief_small : (z : ℤ) (t : ℕ) → t ≤ max_quantity → z ≡ counted c.kind ((kept x -ℤ kept y) *ℤ pos t) → nat_abs z ≤ max_flow
  relief_small z t h e = relief_sized c.kind x y z t (from.sized j b) (to.sized j b) h e

-- the comparison: r is what it says of an excess x, kept as v, and a flow z
module _ (x v z p : ℤ) (same : v ≡ x) (is : z ≡ p) (r : Bool) (found : r ≡ is_lt (int_cmp z v)) where
  compared : r ≡ lt_z p x
  compared = found ∙ less-is z v ∙ rw (is, same)

  pub over-so : r ≡ true → p <ℤ x
  over-so e = lt_z_yes (rw (sym compared ∙ e) tt)

  pub within-so : r ≡ false → x ≤ℤ p
  within-so e = lt_z_no (rw (sym compared ∙ e) tt)

-- ---- the division: an overload e and a slope w, as the machine keeps them

pub is-flat : (w : ℤ) → le_z w (pos 0) ≡ true → w ≤ℤ pos 0
is-flat w e = le_z_yes (rw e tt)

pub is-steep : (w : ℤ) → le_z w (pos 0) ≡ false → pos 0 <ℤ w
is-steep w e = not_≤ℤ.0 (λ h. true≢false (sym (is_true (le_z w (pos 0)) h.le) ∙ e))

pub not_negative : (z : ℤ) → pos 0 <ℤ z → T (non_neg z)
not_negative (pos n) h = tt
not_negative (negsuc n) h = absurd h.lt

pub some_size : (z : ℤ) → pos 0 <ℤ z → 1 ≤ nat_abs z
some_size (pos n) h = let l = simp ⊖s at h in omega arith
some_size (negsuc n) h = absurd h.lt

-- a quotient rounded up
module _ (x y : ℕ) (some : 0 < y) where
  abbrev q : ℕ
  q = x / y

  abbrev r : ℕ
  r = x % y

  whole : x ≡ q * y + r
  whole = omega (arith, div-add-mod x y)

  pub rounded_up : div_ceil x y ≡ (x + (y - 1)) / y
  rounded_up = elim (ℕ_discrete r 0) [
    | yes z ↦
        let e : x + (y - 1) ≡ q * y + (y - 1) = omega (arith, whole) in
        rw (e, z, div-mul-add q y (y - 1) (omega arith)) (omega arith)
    | no ne ↦
        let e : x + (y - 1) ≡ (q + 1) * y + (r - 1) = grind (arith, whole) in
        let one : min 1 r ≡ 1 = omega arith in
        rw (e, one, div-mul-add (q + 1) y (r - 1) (omega (arith, mod-lt x some))) refl
  ]

module _ (e w : ℤ) (over : pos 0 <ℤ e) (steep : pos 0 <ℤ w) (ke : kept e ≡ e) (kw : kept w ≡ w) where
  -- what the machine divides
  module _ (n : ℕ) (divided : n ≡ div_ceil (nat_abs (kept e)) (nat_abs (kept w))) where
    divided_is : n ≡ need_at e w
    divided_is = divided ∙ rw (ke, kw) (rounded_up (nat_abs e) (nat_abs w) (some_size w steep) ∙ need-sizes e w over steep)

    pub too_much : (most : ℕ) → most < n → 0 ≡ cond (leb (need_at e w) most) (need_at e w) 0
    too_much most h = rw (lt-leb (need_at e w) most (rw divided_is at h))

    pub no_more : (most : ℕ) → n ≤ most → n ≡ cond (leb (need_at e w) most) (need_at e w) 0
    no_more most h = rw (le-leb (need_at e w) most (rw divided_is at h)) divided_is

pub nothing : (b : Bool) → ◌≡◌ {A = ℕ} 0 (cond b 0 0)
nothing true = refl
nothing false = refl

-- ---- the cut C, by the need n and whether it is enough
module _ (C n : ℕ) (fits : ℕ → Bool) (is : C ≡ cond (fits n) n 0) where
  pub none_needed : n ≡ 0 → 0 ≡ C
  none_needed z = nothing (fits n) ∙ ap (λ (x : ℕ). cond (fits n) x 0) (sym z) ∙ sym is

  pub is-enough : (b : Bool) → b ≡ fits n → b ≡ true → n ≡ C
  is-enough b f t = sym (is ∙ ap (λ (x : Bool). cond x n 0) (sym f ∙ t))

  pub is-not_enough : (b : Bool) → b ≡ fits n → b ≡ false → 0 ≡ C
  is-not_enough b f t = sym (is ∙ ap (λ (x : Bool). cond x n 0) (sym f ∙ t))

-- ---- a constraint that is not overloaded, beside those that are not

pub quiet : (x : ℤ) → nat_abs x < 2 ^ 63 → lt_z (pos 0) (kept x) ≡ false → x ≤ℤ pos 0
quiet x h e = rw (back x h) at (lt_z_no {a = pos 0} {b = kept x} (rw e tt))

pub one_more : (P : ℕ → Type 0) (k : ℕ) → ((j : ℕ) → j < k → P j) → P k → (j : ℕ) → j < k + 1 → P j
one_more P k h p j b = ⊎_elim (λ q. subst P {x = k} {y = j} (omega arith) p) (λ l. h j (omega arith)) (eq-or-lt_of_le b)

pub one_before : (P : ℕ → Type 0) (k n : ℕ) → 0 < k → ((j : ℕ) → k ≤ j → j < n → P j) → P (k - 1) → (j : ℕ) → k - 1 ≤ j → j < n → P j
one_before P k n some h p j a b = ⊎_elim (λ q. subst P q p) (λ l. h j (omega arith) b) (eq-or-lt_of_le a)
