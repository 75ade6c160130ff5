-- Laws of a period's contracts: nothing of the other period is among them, and they are taken in the book's order.
use mathlib.Core.Path.{◌≡◌, refl, ap, ◌∙◌}
use mathlib.Core.Bool.{Bool, true, false, cond}
use mathlib.Core.List.{List, [], ◌∷◌, ◌++◌}
use lib.IntN.{ℤ, ◌+ℤ◌, +ℤ_idr}
use Rattle.integers.specs.Sums.{sum_over_of}
use Rattle.integers.proofs.Sums.{sum_over-append}
use Rattle.lists.specs.Lists.{Each}
use Rattle.tariff.specs.declared.contracts.Contract.{Contract}
use Rattle.tariff.specs.declared.contracts.Period.{Period}
use Rattle.tariff.specs.declared.contracts.Period.TheVariants.{OffPeak, OnPeak}
use Rattle.tariff.specs.ContractRules.{same_period, of_period}

pub same_is : (a b : Period) → same_period a b ≡ true → a ≡ b
same_is OffPeak OffPeak e = refl
same_is OffPeak OnPeak e = cc
same_is OnPeak OffPeak e = cc
same_is OnPeak OnPeak e = refl

-- each is of the period
pub tested_are_of_the_period : (t : Period) (cs : List Contract) → Each (λ (c : Contract). c.period ≡ t) (of_period t cs)
unfolding of_period
tested_are_of_the_period t [] = tt
tested_are_of_the_period t (c ∷ cs) = by (same_period c.period t) refl (tested_are_of_the_period t cs)
  where
    by : (b : Bool) → same_period c.period t ≡ b → Each (λ (c : Contract). c.period ≡ t) (of_period t cs) → Each (λ (c : Contract). c.period ≡ t) (cond b (c ∷ of_period t cs) (of_period t cs))
    by true e r = (same_is c.period t e, r)
    by false e r = r

pub of_period-append : (t : Period) (xs ys : List Contract) → of_period t (xs ++ ys) ≡ of_period t xs ++ of_period t ys
unfolding of_period
of_period-append t [] ys = refl
of_period-append t (x ∷ xs) ys = by (same_period x.period t) (of_period-append t xs ys)
  where
    by : (b : Bool) → of_period t (xs ++ ys) ≡ of_period t xs ++ of_period t ys → cond b (x ∷ of_period t (xs ++ ys)) (of_period t (xs ++ ys)) ≡ cond b (x ∷ of_period t xs) (of_period t xs) ++ of_period t ys
    by true e = ap (λ (l : List Contract). x ∷ l) e
    by false e = e

-- one contract more, of the period or of the other
pub of_period-same : (t : Period) (cs : List Contract) (c : Contract) → same_period c.period t ≡ true → of_period t (cs ++ c ∷ []) ≡ of_period t cs ++ c ∷ []
unfolding of_period
of_period-same t cs c e = of_period-append t cs (c ∷ []) ∙ rw e

pub of_period-other : (t : Period) (cs : List Contract) (c : Contract) → same_period c.period t ≡ false → of_period t (cs ++ c ∷ []) ≡ of_period t cs
unfolding of_period
of_period-other t cs c e = of_period-append t cs (c ∷ []) ∙ rw e (nil (of_period t cs))
  where
    nil : (xs : List Contract) → xs ++ [] ≡ xs
    nil [] = refl
    nil (x ∷ xs) = ap (λ (l : List Contract). x ∷ l) (nil xs)

-- a sum over one contract more
pub sum_over-more : {A : Type 0} (xs : List A) (x : A) (g : A → ℤ) → sum_over_of (xs ++ x ∷ []) g ≡ sum_over_of xs g +ℤ g x
unfolding sum_over_of
sum_over-more xs x g = sum_over-append xs (x ∷ []) g ∙ ap (λ (z : ℤ). sum_over_of xs g +ℤ z) (+ℤ_idr (g x))

-- a contract of the period is tested, at its place in the book's order
same_self : (t : Period) → same_period t t ≡ true
same_self OffPeak = refl
same_self OnPeak = refl

pub of-the_period_is_tested : (t : Period) (earlier later : List Contract) (c : Contract) → c.period ≡ t
    → of_period t (earlier ++ c ∷ later) ≡ of_period t earlier ++ c ∷ of_period t later
unfolding of_period
of-the_period_is_tested t earlier later c e =
    let same : same_period c.period t ≡ true = rw e (same_self t) in
    of_period-append t earlier (c ∷ later) ∙ rw same
