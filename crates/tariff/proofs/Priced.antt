-- What the constraints that priced a contract say of its amount.
use mathlib.Core.Path.{◌≡◌, refl, sym, ap, ◌∙◌}
use mathlib.Core.Logic.{◌↔◌, ◌≢◌}
use mathlib.Core.Bool.{Bool, true, false, cond, ◌&&◌}
use mathlib.Core.List.{List}
use Prim.Native.Nat.{ℕ, zero, suc}
use native.Mathlib.Nat.{pos_of_ne-zero}
use native.Mathlib.Omega.{arith}
use borrow.Author.Tests.{ltb-true, lt-ltb}
use lib.Dec.{ltb}
use lib.IntN.{ℤ, pos, neg_ℤ, nat_abs, ◌+ℤ◌, ◌-ℤ◌, ◌*ℤ◌, zero-*ℤ, *ℤ_comm, +ℤ_invr}
use Rattle.lists.proofs.Sets.{set-empty}
use Rattle.lists.proofs.Search.{both}
use Rattle.integers.specs.Sums.{nonzero, sum_to}
use Rattle.integers.proofs.Linear.{⊖of, ⊖s}
use Rattle.integers.proofs.Sizes.{zero_size, sub_equal, nonzero-false, nonzero-times}
use Rattle.integers.proofs.Sums.{sum_to_cong, sum_to_zero}
use Rattle.tariff.specs.declared.contracts.Contract.{Contract}
use Rattle.tariff.specs.Units.{Factors, factor, price}
use Rattle.tariff.specs.ContractRules.{counted}
use Rattle.tariff.specs.Settlement.{congestion, mcc, amount, spread_at, priced_at, priced_set_of}
use Rattle.tariff.proofs.Worst.{counted-zero}

-- ---- one constraint

differ_true : (x y : ℤ) → (nonzero (x -ℤ y) ≡ true) ↔ (x ≢ y)
differ_true x y = (to, λ ne. lt-ltb 0 (nat_abs (x -ℤ y)) (pos_of_ne-zero (λ z. ne (sub_equal x y (zero_size (x -ℤ y) z)))))
  where
    to : nonzero (x -ℤ y) ≡ true → x ≢ y
    to e q = let h = ltb-true 0 (nat_abs (x -ℤ y)) e in absurd (omega (arith, h, ap nat_abs (ap (λ (z : ℤ). x -ℤ z) (sym q) ∙ +ℤ_invr x)))

above-true : (n : ℕ) → (ltb 0 n ≡ true) ↔ (n ≢ 0)
above-true n = (λ e z. absurd (omega (arith, ltb-true 0 n e)), λ ne. lt-ltb 0 n (pos_of_ne-zero ne))

module _ (f : Factors) (p : List ℕ) (c : Contract) where
  -- a product isn't 0 exactly where neither factor is
  pub priced-both : (k : ℕ) → priced_at f p c k ≡ (nonzero (factor f c.source k -ℤ factor f c.sink k) && ltb 0 (price p k))
  unfolding priced_at spread_at
  priced-both k = nonzero-times (price p k) (factor f c.source k -ℤ factor f c.sink k)

  pub priced-where : (k : ℕ) → (priced_at f p c k ≡ true) ↔ ((price p k ≢ 0) × (factor f c.source k ≢ factor f c.sink k))
  priced-where k =
      let d = differ_true (factor f c.source k) (factor f c.sink k) in
      let w = above-true (price p k) in (
        λ e. let h = both (nonzero (factor f c.source k -ℤ factor f c.sink k)) (ltb 0 (price p k)) (sym (priced-both k) ∙ e) in (w.0 h.1, d.0 h.0),
        λ h. priced-both k ∙ rw (d.1 h.1, w.1 h.0),
      )

-- ---- all constraints

spread-step : (A B a b : ℤ) (w : ℕ) → neg_ℤ (A +ℤ a *ℤ pos w) -ℤ neg_ℤ (B +ℤ b *ℤ pos w) ≡ neg_ℤ A -ℤ neg_ℤ B +ℤ pos w *ℤ (b -ℤ a)
spread-step A B a b w = rw (*ℤ_comm (pos w) (b -ℤ a)) (rw (⊖of A, ⊖of B, ⊖of a, ⊖of b) (simp ⊖s (omega arith)))

spread-sum : (n : ℕ) (s t : ℕ → ℤ) (w : ℕ → ℕ) → neg_ℤ (sum_to n (λ k. t k *ℤ pos (w k))) -ℤ neg_ℤ (sum_to n (λ k. s k *ℤ pos (w k))) ≡ sum_to n (λ k. pos (w k) *ℤ (s k -ℤ t k))
unfolding sum_to
spread-sum zero s t w = refl
spread-sum (suc n) s t w =
    spread-step (sum_to n (λ k. t k *ℤ pos (w k))) (sum_to n (λ k. s k *ℤ pos (w k))) (t n) (s n) (w n) ∙ ap (λ (z : ℤ). z +ℤ pos (w n) *ℤ (s n -ℤ t n)) (spread-sum n s t w)

kept : (x : ℤ) → x ≡ cond (nonzero x) x (pos 0)
kept x = by (nonzero x) refl
  where
    by : (b : Bool) → nonzero x ≡ b → x ≡ cond b x (pos 0)
    by true e = refl
    by false e = nonzero-false x e

module _ (f : Factors) (p : List ℕ) (c : Contract) where
  -- what the set leaves out moves nothing
  pub amount-is_of_the_priced : amount f p c ≡ counted c.kind (sum_to f.constraints (λ k. cond (priced_at f p c k) (spread_at f p c k) (pos 0)) *ℤ pos c.quantity.0)
  unfolding amount mcc congestion priced_at spread_at
  amount-is_of_the_priced =
      let all = spread-sum f.constraints (factor f c.source) (factor f c.sink) (price p) in
      let only = sum_to_cong f.constraints (λ k h. kept (spread_at f p c k)) in
      ap (λ (x : ℤ). counted c.kind (x *ℤ pos c.quantity.0)) (all ∙ only)

  pub unpriced_amount_zero : priced_set_of f p c ≡ 0 → amount f p c ≡ pos 0
  unfolding priced_set_of
  unpriced_amount_zero e =
      let none = sum_to_cong f.constraints (λ k h. ap (λ (b : Bool). cond b (spread_at f p c k) (pos 0)) ((set-empty f.constraints (priced_at f p c)).0 e k h)) ∙ sum_to_zero f.constraints in
      amount-is_of_the_priced ∙ ap (λ (x : ℤ). counted c.kind (x *ℤ pos c.quantity.0)) none ∙ ap (counted c.kind) (zero-*ℤ (pos c.quantity.0)) ∙ counted-zero c.kind
