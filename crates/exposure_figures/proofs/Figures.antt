-- Figures as whole cents and parts: one less another, a sum of rents, and that a figure has one such pair.
use mathlib.Core.Path.{◌≡◌, refl, sym, ap, ap₂, ◌∙◌}
use mathlib.Core.Bool.{Bool, true, false, cond}
use mathlib.Core.List.{List}
use lib.ListN.{length, take, get_or}
use lib.Seq.{get_or-take}
use Rattle.std.proofs.lemmas.List.{length-take}
use Rattle.std.specs.Prelude.{Some}
use Rattle.std.proofs.Common.{Less, Equal, Greater}
use Rattle.std.specs.Ordering.{is_some_and, is_lt, partial_ordering_then, int_cmp, nat_cmp}
use Rattle.grid_tables.specs.Inner.{GoodCells}
use Prim.Native.Nat.{ℕ, ◌+◌, ◌*◌, ◌-◌, ◌≤◌, ◌<◌}
use native.Mathlib.Nat.{mul-le-mul}
use native.Mathlib.Numerals.{add-one}
use native.Mathlib.Omega.{arith}
use borrow.Author.Tests.{ltb-true, ltb-false}
use lib.Dec.{T, ltb, eqb}
use lib.IntN.{ℤ, pos, ◌+ℤ◌, ◌-ℤ◌, ◌*ℤ◌}
use lib.Signed.{lt_z, ◌<ℤ◌, ◌≤ℤ◌, lt_z_yes, lt_z_no, clash_ℤ}
use Rattle.integers.specs.Sums.{sum_to}
use Rattle.integers.proofs.Linear.{⊖of, ⊖s, ≤ℤ-antisym}
use Rattle.integers.proofs.Division.{floor_unique}
use Rattle.tariff.specs.Units.{max_limit, max_price, per_cent}
use Rattle.tariff.specs.Inner.{max_released}
use Rattle.tariff.specs.Settlement.{whole_cents, parts}
use Rattle.exposure_figures.specs.declared.Exact.{Exact}
use Rattle.exposure_figures.specs.Inner.{Exactly, exact_of}

abbrev pub cents : ℤ → ℕ → ℤ
cents a p = a *ℤ pos per_cent +ℤ pos p

-- ---- less a rent of W whole cents and P parts

pub less_parts : (w : ℤ) (p W P : ℕ) → P ≤ p → cents (w -ℤ pos W) (p - P) ≡ cents w p -ℤ pos (W * per_cent + P)
less_parts w p W P h = rw (⊖of w) (simp ⊖s (omega arith))

pub less_borrow : (w : ℤ) (p W P : ℕ) → p < P → P < per_cent → cents (w -ℤ pos W -ℤ pos 1) (per_cent - P + p) ≡ cents w p -ℤ pos (W * per_cent + P)
less_borrow w p W P h s = rw (⊖of w) (simp ⊖s (omega arith))

pub as_exact : (W P : ℕ) → cents (pos W) P ≡ pos (W * per_cent + P)
as_exact W P = simp ⊖s (omega arith)

-- ---- the rent on a constraint

pub released-most : (limit share : ℕ) → limit ≤ max_limit → share ≤ 100 → limit * share * 1000 ≤ max_released
released-most limit share l s = omega (arith, mul-le-mul l s)

pub rent-most : (limit share price : ℕ) → limit ≤ max_limit → share ≤ 100 → price ≤ max_price → limit * share * 1000 * price ≤ max_released * max_price
rent-most limit share price l s p = mul-le-mul (released-most limit share l s) p

-- limit x and price y, of constraint i by the first k of the tables
module _ (k : ℕ) (limits prices : List ℕ) (good-limits : GoodCells max_limit k limits) (good-prices : GoodCells max_price k prices) (i x y : ℕ)
    (turn : (i < length (take k limits)) × (i < length (take k prices)) × ((d : ℕ) → x ≡ get_or (take k limits) i d) × ((d : ℕ) → y ≡ get_or (take k prices) i d)) where
  inside : i < k
  inside = omega (arith, turn.0, length-take {A = ℕ})

  pub limit_is : x ≡ get_or limits i 0
  limit_is = turn.2 0 ∙ get_or-take k limits i 0 inside

  pub price_is : y ≡ get_or prices i 0
  price_is = turn.3 0 ∙ get_or-take k prices i 0 inside

  pub pair-small : (x ≤ max_limit) × (y ≤ max_price)
  pair-small = (rw limit_is (good-limits.sized i inside), rw price_is (good-prices.sized i inside))

-- ---- a sum of rents, one more

pub sum_more : (k : ℕ) (f : ℕ → ℤ) (total more next : ℕ) → pos total ≡ sum_to k f → pos more ≡ f k → next ≡ total + more → pos next ≡ sum_to (k + 1) f
unfolding sum_to
sum_more k f total more next e m n = rw (n, add-one k) (ap₂ ◌+ℤ◌ e m)

-- ---- less, by whole cents and then by parts

lt_le : {a b : ℤ} → a <ℤ b → a ≤ℤ b
lt_le {a} {b} = rw (⊖of a, ⊖of b) (simp ⊖s (omega arith))

pub is_true : (x y : ℤ) → x <ℤ y → true ≡ lt_z x y
is_true x y h = by (lt_z x y) h.lt
  where
    by : (b : Bool) → T b → true ≡ b
    by true t = refl
    by false t = absurd t

pub is_false : (x y : ℤ) → y ≤ℤ x → false ≡ lt_z x y
is_false x y h = by (lt_z x y) refl
  where
    by : (b : Bool) → lt_z x y ≡ b → false ≡ b
    by true e = clash_ℤ {a = x} {b = y} (lt_z_yes (rw e tt)) h
    by false e = refl

told-less : (x y : ℤ) → lt_z x y ≡ true → x <ℤ y
told-less x y e = lt_z_yes (rw e tt)

told-not : (x y : ℤ) → lt_z x y ≡ false → y ≤ℤ x
told-not x y e = lt_z_no (rw e tt)

less_law : (a b : ℤ) (p q : ℕ) → p < per_cent → a <ℤ b → cents a p <ℤ cents b q
less_law a b p q h = rw (⊖of a, ⊖of b) (simp ⊖s (omega arith))

parts-less : (a b : ℤ) (p q : ℕ) → a ≡ b → p < q → cents a p <ℤ cents b q
parts-less a b p q e h = rw e (law b p q h)
  where
    law : (b : ℤ) (p q : ℕ) → p < q → cents b p <ℤ cents b q
    law b p q h = rw (⊖of b) (simp ⊖s (omega arith))

parts-not : (a b : ℤ) (p q : ℕ) → a ≡ b → q ≤ p → cents b q ≤ℤ cents a p
parts-not a b p q e h = rw e (law b p q h)
  where
    law : (b : ℤ) (p q : ℕ) → q ≤ p → cents b q ≤ℤ cents b p
    law b p q h = rw (⊖of b) (simp ⊖s (omega arith))

module _ (a b : ℤ) (p q : ℕ) (hp : p < per_cent) (hq : q < per_cent) where
  pub whole_below : lt_z a b ≡ true → true ≡ lt_z (cents a p) (cents b q)
  whole_below e = is_true (cents a p) (cents b q) (less_law a b p q hp (told-less a b e))

  pub whole_above : lt_z b a ≡ true → false ≡ lt_z (cents a p) (cents b q)
  whole_above e = is_false (cents a p) (cents b q) (lt_le (less_law b a q p hq (told-less b a e)))

  pub parts-decide : lt_z a b ≡ false → lt_z b a ≡ false → ltb p q ≡ lt_z (cents a p) (cents b q)
  parts-decide ab ba = by (ltb p q) refl
    where
      same : a ≡ b
      same = ≤ℤ-antisym (told-not b a ba) (told-not a b ab)

      by : (x : Bool) → ltb p q ≡ x → x ≡ lt_z (cents a p) (cents b q)
      by true e = is_true (cents a p) (cents b q) (parts-less a b p q same (ltb-true p q e))
      by false e = is_false (cents a p) (cents b q) (parts-not a b p q same (ltb-false p q e))

-- the derived order of figures is that of what they stand for
module _ (a b : Exact) (ha : a.parts < per_cent) (hb : b.parts < per_cent) where
  pub order-is : (r : Bool) → r ≡ is_some_and is_lt (partial_ordering_then (Some (int_cmp a.whole b.whole)) (Some (nat_cmp a.parts b.parts))) → r ≡ lt_z (exact_of a) (exact_of b)
  order-is r e = e ∙ by (lt_z a.whole b.whole) (lt_z b.whole a.whole) refl refl
    where
      fewer : (x y : Bool) → is_lt (cond x Less (cond y Equal Greater)) ≡ x
      fewer true y = refl
      fewer false true = refl
      fewer false false = refl

      by : (x y : Bool) → lt_z a.whole b.whole ≡ x → lt_z b.whole a.whole ≡ y
          → is_some_and is_lt (partial_ordering_then (Some (cond x Less (cond y Greater Equal))) (Some (nat_cmp a.parts b.parts))) ≡ lt_z (exact_of a) (exact_of b)
      by true y d u = whole_below a.whole b.whole a.parts b.parts ha hb d
      by false true d u = whole_above a.whole b.whole a.parts b.parts ha hb u
      by false false d u = fewer (ltb a.parts b.parts) (eqb a.parts b.parts) ∙ parts-decide a.whole b.whole a.parts b.parts ha hb d u

-- ---- a figure's whole cents and parts are one pair

pub exactly_of : {a b : ℤ} (r : Exact) → a ≡ b → Exactly a r → Exactly b r
exactly_of r e x = record { is = x.is ∙ e; parts-small = x.parts-small; whole-sized = x.whole-sized }

pub figures : (z : ℤ) (r : Exact) → Exactly z r → (r.whole ≡ whole_cents z) × (r.parts ≡ parts z)
figures z r e =
    let u = floor_unique r.whole r.parts per_cent e.parts-small in
    (sym (ap whole_cents (sym e.is) ∙ u.0), sym (ap parts (sym e.is) ∙ u.1))
