-- The flow of a lowered book is that of the book less that of the cut.
use mathlib.Core.Path.{◌≡◌, refl, sym, ap, ◌∙◌}
use mathlib.Core.Bool.{Bool, true, false, cond}
use mathlib.Core.List.{List, [], ◌∷◌}
use Prim.Native.Nat.{ℕ, zero, suc, ◌+◌, ◌-◌, ◌≤◌}
use native.Mathlib.Omega.{arith}
use borrow.Author.Tests.{ltb-false}
use lib.Dec.{ltb}
use lib.IntN.{ℤ, pos, ◌+ℤ◌, ◌-ℤ◌, ◌*ℤ◌, *ℤ-zero, zero-*ℤ, +ℤ_idl}
use Rattle.integers.specs.Sums.{sum_over_of}
use Rattle.integers.proofs.Linear.{⊖of, ⊖s}
use Rattle.tariff.specs.declared.contracts.Contract.{Contract}
use Rattle.tariff.specs.declared.contracts.Period.{Period}
use Rattle.tariff.specs.Units.{Factors}
use Rattle.tariff.specs.ContractRules.{same_period, of_period}
use Rattle.tariff.specs.Feasibility.{flow, total_flow}
use Rattle.test_flow_laws.specs.Quantities.{with_quantity}
use Rattle.test_flow_laws.proofs.Additive.{flow-plus, flow-times}
use Rattle.cut_rules.specs.Cuts.{no_contract, nth_contract, quantity_of, lowered}
use Rattle.cut_rules.specs.Inner.{cut_flow, slope}

-- ---- the steps of the induction, over plain whole numbers
keep : (x s s' c : ℤ) → s' ≡ s -ℤ c → x +ℤ s' ≡ x +ℤ s -ℤ c
keep x s s' c = rw (⊖of x, ⊖of s, ⊖of s', ⊖of c) (simp ⊖s (omega arith))

lower : (q a b s : ℤ) → q ≡ a +ℤ b → a +ℤ s ≡ q +ℤ s -ℤ b
lower q a b s = rw (⊖of q, ⊖of a, ⊖of b, ⊖of s) (simp ⊖s (omega arith))

remove : (b s : ℤ) → s ≡ b +ℤ s -ℤ b
remove b s = rw (⊖of b, ⊖of s) (simp ⊖s (omega arith))

pub same : (s c : ℤ) → c ≡ pos 0 → s ≡ s -ℤ c
same s c = rw (⊖of s, ⊖of c) (simp ⊖s (omega arith))

module _ (f : Factors) where
  module _ (period : Period) where
    -- a contract of the other period counts with nothing
    pub cut_out : (c : Contract) (t k : ℕ) → same_period c.period period ≡ false → cut_flow f period c t k ≡ pos 0
    unfolding cut_flow
    cut_out c t k s = rw s

    cut-plus : (c : Contract) (a b k : ℕ) → cut_flow f period c (a + b) k ≡ cut_flow f period c a k +ℤ cut_flow f period c b k
    unfolding cut_flow
    cut-plus c a b k = by (same_period c.period period)
      where
        by : (s : Bool) → cond s (flow f (with_quantity (a + b) c) k) (pos 0) ≡ cond s (flow f (with_quantity a c) k) (pos 0) +ℤ cond s (flow f (with_quantity b c) k) (pos 0)
        by true = flow-plus f c a b k
        by false = refl

    pub cut-times : (c : Contract) (t k : ℕ) → cut_flow f period c t k ≡ slope f period c k *ℤ pos t
    unfolding cut_flow
    cut-times c t k = by (same_period c.period period)
      where
        by : (s : Bool) → cond s (flow f (with_quantity t c) k) (pos 0) ≡ cond s (flow f (with_quantity 1 c) k) (pos 0) *ℤ pos t
        by true = flow-times f c t k
        by false = sym (zero-*ℤ (pos t))

    pub cut-none : (c : Contract) (k : ℕ) → cut_flow f period c 0 k ≡ pos 0
    cut-none c k = cut-times c 0 k ∙ *ℤ-zero (slope f period c k)

    -- the total of a book's contracts of the period
    abbrev total : List Contract → ℕ → ℤ
    total cs k = total_flow f (of_period period cs) k

    -- a contract adds the flow of its quantity
    total-cons : (c : Contract) (cs : List Contract) (k : ℕ) → total (c ∷ cs) k ≡ cut_flow f period c c.quantity.0 k +ℤ total cs k
    unfolding total_flow sum_over_of of_period cut_flow flow
    total-cons c cs k = by (same_period c.period period)
      where
        by : (s : Bool) → total_flow f (cond s (c ∷ of_period period cs) (of_period period cs)) k ≡ cond s (flow f (with_quantity c.quantity.0 c) k) (pos 0) +ℤ total cs k
        by true = refl
        by false = sym (+ℤ_idl (total cs k))

    -- THE FLOW OF A LOWERED BOOK, for every cut up to the contract's quantity, of either period
    pub lowered-flow : (i t : ℕ) (cs : List Contract) (k : ℕ) → t ≤ quantity_of cs i
        → total_flow f (of_period period (lowered i t cs)) k ≡ total_flow f (of_period period cs) k -ℤ cut_flow f period (nth_contract cs i) t k
    unfolding lowered cut_flow
    lowered-flow i t [] k h =
        same (total [] k) (cut_flow f period no_contract t k) (ap (λ (x : ℕ). cut_flow f period no_contract x k) {x = t} {y = 0} (omega arith) ∙ cut-none no_contract k)
    lowered-flow zero t (c ∷ cs) k h = rw (total-cons c cs k) (by (ltb t c.quantity.0) refl)
      where
        by : (b : Bool) → ltb t c.quantity.0 ≡ b
            → total_flow f (of_period period (cond b (with_quantity (c.quantity.0 - t) c ∷ cs) cs)) k ≡ cut_flow f period c c.quantity.0 k +ℤ total cs k -ℤ cut_flow f period c t k
        by true e =
            let left = cut_flow f period c (c.quantity.0 - t) k in
            let cut = cut_flow f period c t k in
            let whole : cut_flow f period c c.quantity.0 k ≡ left +ℤ cut =
            ap (λ (x : ℕ). cut_flow f period c x k) {y = c.quantity.0 - t + t} (omega arith) ∙ cut-plus c (c.quantity.0 - t) t k in
            total-cons (with_quantity (c.quantity.0 - t) c) cs k ∙ lower (cut_flow f period c c.quantity.0 k) left cut (total cs k) whole
        by false e =
            let l : c.quantity.0 ≤ t = ltb-false t c.quantity.0 e in
            let cut = cut_flow f period c t k in
            remove cut (total cs k) ∙ ap (λ (x : ℕ). cut_flow f period c x k +ℤ total cs k -ℤ cut) {y = c.quantity.0} (omega arith)
    lowered-flow (suc i) t (c ∷ cs) k h =
        let cut = cut_flow f period (nth_contract cs i) t k in
        total-cons c (lowered i t cs) k
        ∙ keep (cut_flow f period c c.quantity.0 k) (total cs k) (total (lowered i t cs) k) cut (lowered-flow i t cs k h)
        ∙ ap (λ (z : ℤ). z -ℤ cut) (sym (total-cons c cs k))
