-- The five of a contract as one number: its order is the paper's, and equal numbers are equal fives.
use mathlib.Core.Path.{◌≡◌, refl, sym, ap, ap₂, ◌∙◌}
use mathlib.Core.Logic.{◌⊎◌, inl, inr, ⊎_elim, ◌↔◌}
use mathlib.Core.Bool.{Bool, true, false, ◌&&◌, true≢false}
use Prim.Native.Nat.{ℕ, suc, ◌+◌, ◌*◌, ◌≤◌, ◌<◌}
use native.Mathlib.Omega.{arith}
use native.Mathlib.Nat.{eq-or-lt_of_le, mul-le-mul_right}
use borrow.Author.Tests.{eqb-true, eq-eqb, ne_eqb}
use lib.Dec.{eqb}
use Rattle.lists.proofs.Search.{both}
use Rattle.tariff.specs.declared.contracts.Kind.{Kind}
use Rattle.tariff.specs.declared.contracts.Period.{Period}
use Rattle.tariff.specs.declared.contracts.Contract.{Contract}
use Rattle.tariff.specs.ContractRules.{kind_of, period_of}
use Rattle.layouts.specs.BookFile.{kind_bit_of, period_bit_of}
use Rattle.layouts.proofs.ContractBits.{kind-back, period-back, kind-lt, period-lt}
use Rattle.test_flow_laws.specs.Quantities.{with_quantity}
use Rattle.sorting.proofs.Sorted.{le_or_lt}
use Rattle.canonical_rules.specs.Canonical.{quantity, five_of, has_five_of}
use Rattle.canonical_rules.specs.Theorems.{FiveFits, SameFive, Then, Sooner}

pub less_same_more : (x y : ℕ) → (x < y) ⊎ ((x ≡ y) ⊎ (y < x))
less_same_more x y = ⊎_elim (λ h. ⊎_elim (λ e. inr (inl e)) (λ l. inl l) (eq-or-lt_of_le h)) (λ h. inr (inr h)) (le_or_lt x y)

-- ---- two digits as one number, the last below B

module _ (B x y u v : ℕ) (hu : u < B) (hv : v < B) where
  above : x < y → x * B + u < y * B + v
  above l = let m : suc x * B ≤ y * B = mul-le-mul_right B l in omega arith

  below : y < x → y * B + v < x * B + u
  below l = let m : suc y * B ≤ x * B = mul-le-mul_right B l in omega arith

  same_head : x * B + u ≡ y * B + v → x ≡ y
  same_head e = ⊎_elim (λ l. absurd (omega (arith, above l))) (⊎_elim (λ s. s) (λ l. absurd (omega (arith, below l)))) (less_same_more x y)

  pub same_digits : x * B + u ≡ y * B + v → (x ≡ y) × (u ≡ v)
  same_digits e =
      let m : x * B ≡ y * B = ap (λ (z : ℕ). z * B) (same_head e) in
      (same_head e, omega arith)

  pub less_digits : (x * B + u < y * B + v) ↔ Then x y (u < v)
  less_digits = (
    λ h. ⊎_elim
        (λ l. inl l)
        (⊎_elim (λ e. inr (e, let m : x * B ≡ y * B = ap (λ (z : ℕ). z * B) e in omega arith)) (λ l. absurd (omega (arith, below l))))
        (less_same_more x y),
    ⊎_elim above (λ w. let m : x * B ≡ y * B = ap (λ (z : ℕ). z * B) w.0 in omega (arith, w.1)),
  )

  -- with what follows
  pub then_digits : (R : Type 0) → Then (x * B + u) (y * B + v) R ↔ Then x y (Then u v R)
  then_digits R = (
    ⊎_elim
        (λ h. ⊎_elim (λ l. inl l) (λ w. inr (w.0, inl w.1)) (less_digits.0 h))
        (λ w. inr (same_head w.0, inr ((same_digits w.0).1, w.1))),
    ⊎_elim
        (λ l. inl (above l))
        (λ w. ⊎_elim (λ l. inl (less_digits.1 (inr (w.0, l)))) (λ z. inr (ap₂ (λ (p q : ℕ). p * B + q) w.0 z.0, z.1)) w.1),
  )

module _ (a b : Contract) (fa : FiveFits a) (fb : FiveFits b) where
  abbrev terms : Contract → ℕ
  terms c = (kind_bit_of c.kind * 2 + period_bit_of c.period) * 1024 + c.holder

  abbrev kinds : Contract → ℕ
  kinds c = kind_bit_of c.kind * 2 + period_bit_of c.period

  -- ---- less exactly when the paper's order says so

  pub five_less : (five_of a < five_of b) ↔ Sooner a b
  unfolding five_of
  five_less =
      let sinks = less_digits 4096 (terms a * 4096 + a.source) (terms b * 4096 + b.source) a.sink b.sink fa.sink-fits fb.sink-fits in
      let sources = then_digits 4096 (terms a) (terms b) a.source b.source fa.source_fits fb.source_fits (a.sink < b.sink) in
      let holders = then_digits 1024 (kinds a) (kinds b) a.holder b.holder fa.holder-fits fb.holder-fits (Then a.source b.source (a.sink < b.sink)) in
      let periods = then_digits 2 (kind_bit_of a.kind) (kind_bit_of b.kind) (period_bit_of a.period) (period_bit_of b.period) (period-lt a.period) (period-lt b.period)
      (Then a.holder b.holder (Then a.source b.source (a.sink < b.sink))) in
      (λ h. periods.0 (holders.0 (sources.0 (sinks.0 h))), λ s. sinks.1 (sources.1 (holders.1 (periods.1 s))))

  -- ---- equal exactly when all five are

  pub same_five : five_of a ≡ five_of b → SameFive a b
  unfolding five_of
  same_five e =
      let p = same_digits 4096 (terms a * 4096 + a.source) (terms b * 4096 + b.source) a.sink b.sink fa.sink-fits fb.sink-fits e in
      let q = same_digits 4096 (terms a) (terms b) a.source b.source fa.source_fits fb.source_fits p.0 in
      let ka = kind-lt a.kind in
      let kb = kind-lt b.kind in
      let ta = period-lt a.period in
      let tb = period-lt b.period in
      let k : kind_bit_of a.kind ≡ kind_bit_of b.kind = omega (arith, q.0, fa.holder-fits, fb.holder-fits) in
      let t : period_bit_of a.period ≡ period_bit_of b.period = omega (arith, q.0, fa.holder-fits, fb.holder-fits) in
      record {
        kind = sym (kind-back a.kind) ∙ ap kind_of k ∙ kind-back b.kind;
        period = sym (period-back a.period) ∙ ap period_of t ∙ period-back b.period;
        holder = omega (arith, q.0, fa.holder-fits, fb.holder-fits);
        source = q.1;
        sink = p.1;
      }

pub five_of_same : (a b : Contract) → SameFive a b → five_of a ≡ five_of b
unfolding five_of
five_of_same a b s =
    λ i. (((kind_bit_of (s.kind i) * 2 + period_bit_of (s.period i)) * 1024 + s.holder i) * 4096 + s.source i) * 4096 + s.sink i

pub five_orders : (a b : Contract) → FiveFits a → FiveFits b → ((five_of a < five_of b) ↔ Sooner a b) × ((five_of a ≡ five_of b) ↔ SameFive a b)
five_orders a b fa fb = (five_less a b fa fb, (same_five a b fa fb, five_of_same a b))

-- a contract is its five and its quantity
pub same_but_quantity : (a b : Contract) → SameFive a b → with_quantity (quantity a) b ≡ a
same_but_quantity a b s =
    λ i. record {
      kind = sym s.kind i;
      period = sym s.period i;
      holder = sym s.holder i;
      source = sym s.source i;
      sink = sym s.sink i;
      quantity = a.quantity;
    }

pub same_contract : (a b : Contract) → SameFive a b → quantity a ≡ quantity b → a ≡ b
same_contract a b s e =
    λ i. record {
      kind = s.kind i;
      period = s.period i;
      holder = s.holder i;
      source = s.source i;
      sink = s.sink i;
      quantity = record { 0 = e i };
    }

-- ---- the test of five figures

-- whether c has the five of d
abbrev pub five_like : Contract → Contract → Bool
five_like d c = has_five_of d.kind d.period d.holder d.source d.sink c

pub has_five : (kind : Kind) (period : Period) (holder source sink : ℕ) (c : Contract) → has_five_of kind period holder source sink c ≡ true
    → SameFive c (record { kind = kind; period = period; holder = holder; source = source; sink = sink; quantity = c.quantity })
unfolding has_five_of
has_five kind period holder source sink c e =
    let k = eqb (kind_bit_of c.kind) (kind_bit_of kind) in
    let t = eqb (period_bit_of c.period) (period_bit_of period) in
    let h = eqb c.holder holder in
    let f = eqb c.source source in
    let p = both (k && t && h && f) (eqb c.sink sink) e in
    let q = both (k && t && h) f p.0 in
    let r = both (k && t) h q.0 in
    let s = both k t r.0 in
    record {
      kind = sym (kind-back c.kind) ∙ ap kind_of (eqb-true (kind_bit_of c.kind) (kind_bit_of kind) s.0) ∙ kind-back kind;
      period = sym (period-back c.period) ∙ ap period_of (eqb-true (period_bit_of c.period) (period_bit_of period) s.1) ∙ period-back period;
      holder = eqb-true c.holder holder r.1;
      source = eqb-true c.source source q.1;
      sink = eqb-true c.sink sink p.1;
    }

pub has_same : (c d : Contract) → SameFive c d → five_like d c ≡ true
unfolding has_five_of
has_same c d s =
    rw (
      eq-eqb (kind_bit_of c.kind) (kind_bit_of d.kind) (ap kind_bit_of s.kind),
      eq-eqb (period_bit_of c.period) (period_bit_of d.period) (ap period_bit_of s.period),
      eq-eqb c.holder d.holder s.holder,
      eq-eqb c.source d.source s.source,
      eq-eqb c.sink d.sink s.sink,
    )

-- with fives that are numbers the two tests are one
pub like_is_equal : (c d : Contract) → FiveFits c → FiveFits d → five_like d c ≡ eqb (five_of c) (five_of d)
unfolding five_of
like_is_equal c d fc fd = by (five_like d c) refl
  where
    by : (t : Bool) → five_like d c ≡ t → five_like d c ≡ eqb (five_of c) (five_of d)
    by true e = e ∙ sym (eq-eqb _ _ (five_of_same c (record { kind = d.kind; period = d.period; holder = d.holder; source = d.source; sink = d.sink; quantity = c.quantity })
        (has_five d.kind d.period d.holder d.source d.sink c e)))
    by false e = e ∙ sym (ne_eqb _ _ (λ s. true≢false (sym (has_same c d (same_five c d fc fd s)) ∙ e)))
