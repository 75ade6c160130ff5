-- One walk over rows sorted by their fives gives the canonical rows: neighbours of one five are added and cut as they come.
use mathlib.Core.Path.{◌≡◌, refl, sym, ap, ◌∙◌}
use mathlib.Core.Logic.{◌⊎◌, inl, inr, ⊎_elim}
use mathlib.Core.Bool.{Bool, true, false, cond}
use mathlib.Core.List.{List, [], ◌∷◌}
use Prim.Native.Nat.{ℕ, suc, ◌+◌, ◌-◌, ◌≤◌, ◌<◌}
use native.Mathlib.Omega.{arith}
use borrow.Author.Tests.{eqb-true, eqb-false, eq-eqb, ne_eqb, le-leb, lt-leb}
use lib.Dec.{eqb}
use lib.ListN.{length}
use Rattle.lists.specs.Lists.{Each}
use Rattle.tariff.specs.declared.contracts.Contract.{Contract}
use Rattle.tariff.specs.Units.{max_quantity}
use Rattle.test_flow_laws.specs.Quantities.{with_quantity}
use Rattle.sorting.proofs.Sorted.{le_or_lt}
use Rattle.canonical_rules.specs.Canonical.{quantity, five_of, total_where, BeforeNext, Ordered, Filled}
use Rattle.canonical_rules.specs.Inner.{walk_from}
use Rattle.canonical_rules.proofs.Merging.{five_at}

same_or_not : (x y : ℕ) → (x ≡ y) ⊎ (x ≡ y → ⊥)
same_or_not x y = by (eqb x y) refl
  where
    by : (t : Bool) → eqb x y ≡ t → (x ≡ y) ⊎ (x ≡ y → ⊥)
    by true e = inl (eqb-true x y e)
    by false e = inr (eqb-false x y e)

-- ---- one step, by its three cases

abbrev pub step_from : Contract → List Contract → List Contract
step_from = walk_from five_of quantity with_quantity

module _ (p c : Contract) (cs : List Contract) where
  abbrev sum : ℕ
  sum = quantity p + quantity c

  -- one row takes both, a full row goes out, or the pending row does
  pub step_added : five_of p ≡ five_of c → sum ≤ max_quantity → step_from p (c ∷ cs) ≡ step_from (with_quantity sum p) cs
  unfolding walk_from
  step_added e h = rw (eq-eqb (five_of p) (five_of c) e, le-leb sum max_quantity h)

  pub step-filled : five_of p ≡ five_of c → max_quantity < sum → step_from p (c ∷ cs) ≡ with_quantity max_quantity p ∷ step_from (with_quantity (sum - max_quantity) p) cs
  unfolding walk_from
  step-filled e h = rw (eq-eqb (five_of p) (five_of c) e, lt-leb sum max_quantity h)

  pub step_other : (five_of p ≡ five_of c → ⊥) → step_from p (c ∷ cs) ≡ p ∷ step_from c cs
  unfolding walk_from
  step_other e = rw (ne_eqb (five_of p) (five_of c) e)

  -- what each case gives is given
  pub step-cases : (G : List Contract → Type 0)
      → (five_of p ≡ five_of c → sum ≤ max_quantity → G (step_from (with_quantity sum p) cs))
      → (five_of p ≡ five_of c → max_quantity < sum → G (with_quantity max_quantity p ∷ step_from (with_quantity (sum - max_quantity) p) cs))
      → ((five_of p ≡ five_of c → ⊥) → G (p ∷ step_from c cs)) → G (step_from p (c ∷ cs))
  step-cases G added filled other =
      ⊎_elim
      (λ e. ⊎_elim (λ h. rw (step_added e h) (added e h)) (λ h. rw (step-filled e h) (filled e h)) (le_or_lt sum max_quantity))
      (λ e. rw (step_other e) (other e))
      (same_or_not (five_of p) (five_of c))

-- ---- the walk's rows

-- fives that rise
abbrev pub FivesRise : Contract → List Contract → Type 0
FivesRise p [] = Unit
FivesRise p (c ∷ cs) = (five_of p ≤ five_of c) × FivesRise c cs

rise_from : (p d : Contract) (cs : List Contract) → five_of d ≤ five_of p → FivesRise p cs → FivesRise d cs
rise_from p d [] h r = tt
rise_from p d (c ∷ cs) h r = (omega (arith, r.0), r.1)

-- the first row is of the pending row's five
abbrev Starts : ℕ → List Contract → Type 0
Starts f [] = Unit
Starts f (r ∷ rows) = five_of r ≡ f

starts_next : (a : Contract) (rows : List Contract) (f : ℕ) → five_of a < f → Starts f rows → BeforeNext a rows
starts_next a [] f h s = tt
starts_next a (r ∷ rows) f h s = inl (omega arith)

starts_full : (a : Contract) (rows : List Contract) (f : ℕ) → five_of a ≡ f → quantity a ≡ max_quantity → Starts f rows → BeforeNext a rows
starts_full a [] f h q s = tt
starts_full a (r ∷ rows) f h q s = inr (h ∙ sym s, q)

pub walk-starts : (p : Contract) (cs : List Contract) → Starts (five_of p) (step_from p cs)
unfolding walk_from
walk-starts p [] = refl
walk-starts p (c ∷ cs) =
    step-cases p c cs (Starts (five_of p))
    (λ e h. rw (five_at p (quantity p + quantity c)) at (walk-starts (with_quantity (quantity p + quantity c) p) cs))
    (λ e h. five_at p max_quantity)
    (λ e. refl)

pub walk-filled : (p : Contract) (cs : List Contract) → Filled p → Each Filled cs → Each Filled (step_from p cs)
unfolding walk_from
walk-filled p [] hp hs = (hp, tt)
walk-filled p (c ∷ cs) hp hs =
    step-cases p c cs (Each Filled)
    (λ e h. walk-filled (with_quantity (quantity p + quantity c) p) cs (omega (arith, hp.0), h) hs.1)
    (λ e h. ((omega arith, omega arith), walk-filled (with_quantity (quantity p + quantity c - max_quantity) p) cs (omega arith, omega (arith, hp.1, hs.0.1)) hs.1))
    (λ e. (hp, walk-filled c cs hs.0 hs.1))

pub walk-ordered : (p : Contract) (cs : List Contract) → FivesRise p cs → Ordered (step_from p cs)
unfolding walk_from
walk-ordered p [] r = (tt, tt)
walk-ordered p (c ∷ cs) r =
    let next : (q : ℕ) → five_of p ≡ five_of c → FivesRise (with_quantity q p) cs = λ q e. rise_from c (with_quantity q p) cs (rw (five_at p q) (omega arith)) r.1 in
    let rest = with_quantity (quantity p + quantity c - max_quantity) p in
    step-cases p c cs Ordered
    (λ e h. walk-ordered (with_quantity (quantity p + quantity c) p) cs (next (quantity p + quantity c) e))
    (λ e h. (
      starts_full (with_quantity max_quantity p) (step_from rest cs) (five_of rest) (five_at p max_quantity ∙ sym (five_at p (quantity p + quantity c - max_quantity))) refl (walk-starts rest cs),
      walk-ordered rest cs (next (quantity p + quantity c - max_quantity) e),
    ))
    (λ e. (starts_next p (step_from c cs) (five_of c) (omega (arith, r.0, e)) (walk-starts c cs), walk-ordered c cs r.1))

-- what holds whatever the quantity
module _ (P : Contract → Type 0) (kept : (c : Contract) (q : ℕ) → P c → P (with_quantity q c)) where
  pub walk-each : (p : Contract) (cs : List Contract) → P p → Each P cs → Each P (step_from p cs)
  unfolding walk_from
  walk-each p [] hp hs = (hp, tt)
  walk-each p (c ∷ cs) hp hs =
      step-cases p c cs (Each P)
      (λ e h. walk-each (with_quantity (quantity p + quantity c) p) cs (kept p _ hp) hs.1)
      (λ e h. (kept p max_quantity hp, walk-each (with_quantity (quantity p + quantity c - max_quantity) p) cs (kept p _ hp) hs.1))
      (λ e. (hp, walk-each c cs hs.0 hs.1))

-- no more rows than there were
pub walk-short : (p : Contract) (cs : List Contract) → length (step_from p cs) ≤ suc (length cs)
unfolding walk_from
walk-short p [] = omega arith
walk-short p (c ∷ cs) =
    step-cases p c cs (λ (l : List Contract). length l ≤ suc (suc (length cs)))
    (λ e h. omega (arith, walk-short (with_quantity (quantity p + quantity c) p) cs))
    (λ e h. omega (arith, walk-short (with_quantity (quantity p + quantity c - max_quantity) p) cs))
    (λ e. omega (arith, walk-short c cs))

-- every total of what is chosen by its five stays
module _ (chosen : Contract → Bool) (kept : (c : Contract) (q : ℕ) → chosen (with_quantity q c) ≡ chosen c)
    (like : (c d : Contract) → five_of c ≡ five_of d → chosen c ≡ chosen d) where
  pub walk-totals : (p : Contract) (cs : List Contract) → total_where chosen (step_from p cs) ≡ total_where chosen (p ∷ cs)
  unfolding walk_from total_where
  walk-totals p [] = refl
  walk-totals p (c ∷ cs) =
      let q = quantity p + quantity c in
      step-cases p c cs (λ (l : List Contract). total_where chosen l ≡ total_where chosen (p ∷ c ∷ cs))
      (λ e h. walk-totals (with_quantity q p) cs ∙ rw (kept p q, ← like p c e) (by (chosen p) (quantity p) (quantity c) (total_where chosen cs)))
      (λ e h. ap (λ (n : ℕ). cond (chosen (with_quantity max_quantity p)) max_quantity 0 + n) (walk-totals (with_quantity (q - max_quantity) p) cs)
      ∙ rw (kept p max_quantity, kept p (q - max_quantity), ← like p c e) (cut (chosen p) (quantity p) (quantity c) (total_where chosen cs) h))
      (λ e. ap (λ (n : ℕ). cond (chosen p) (quantity p) 0 + n) (walk-totals c cs))
    where
      by : (t : Bool) (a b n : ℕ) → cond t (a + b) 0 + n ≡ cond t a 0 + (cond t b 0 + n)
      by true a b n = omega arith
      by false a b n = omega arith

      cut : (t : Bool) (a b n : ℕ) → max_quantity < a + b → cond t max_quantity 0 + (cond t (a + b - max_quantity) 0 + n) ≡ cond t a 0 + (cond t b 0 + n)
      cut true a b n h = omega arith
      cut false a b n h = omega arith
