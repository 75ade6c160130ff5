-- One contract of a book: what a cut clears, the least cut, and its closed form.
use mathlib.Core.Path.{◌≡◌, sym, ◌∙◌}
use mathlib.Core.Logic.{◌↔◌}
use mathlib.Core.Bool.{true, false, true≢false}
use mathlib.Core.List.{List}
use Prim.Native.Nat.{ℕ, suc, ◌<◌, ◌≤◌}
use native.Mathlib.Omega.{arith}
use borrow.Author.Tests.{eqb-true, eq-eqb}
use lib.IntN.{ℤ, pos, ◌-ℤ◌, ◌*ℤ◌}
use lib.Signed.{◌≤ℤ◌}
use Rattle.integers.proofs.Linear.{⊖of, ⊖s}
use Rattle.tariff.specs.declared.contracts.Contract.{Contract}
use Rattle.tariff.specs.declared.contracts.Period.{Period}
use Rattle.tariff.specs.declared.processes.Process.{Process}
use Rattle.tariff.specs.Units.{Grid}
use Rattle.tariff.specs.ContractRules.{of_period}
use Rattle.tariff.specs.Feasibility.{total_flow, released, excess, overload_set}
use Rattle.tariff.proofs.Overloads.{pass_is_empty_set}
use Rattle.cut_rules.specs.Cuts.{nth_contract, quantity_of, lowered, passing, clears, least_cut}
use Rattle.cut_rules.specs.Theorems.{BookPasses, CutPasses}
use Rattle.cut_rules.specs.Inner.{slope, closed_cut}
use Rattle.cut_rules.proofs.Lowest.{lowest-has, lowest-least}
use Rattle.cut_rules.proofs.Needs.{closed-form}
use Rattle.cut_rules.proofs.Flows.{same, lowered-flow, cut-times, cut-none}

-- a flow of x − c is within r exactly where the excess less the cut's flow is not above 0
within-less : (x r c : ℤ) → ((x -ℤ c) ≤ℤ r) ↔ ((x -ℤ r -ℤ c) ≤ℤ pos 0)
within-less x r c = rw (⊖of x, ⊖of r, ⊖of c) (simp ⊖s (omega arith))

module _ (g : Grid) (process : Process) (period : Period) where
  -- the truth value says what the test's rule says
  pub passing-is : (cs : List Contract) → (passing g process period cs ≡ true) ↔ BookPasses g process period cs
  unfolding passing
  passing-is cs =
      let own = of_period period cs in
      (λ h. (pass_is_empty_set g process own).1 (eqb-true (overload_set g process own) 0 h), λ p. eq-eqb (overload_set g process own) 0 ((pass_is_empty_set g process own).0 p))

  module _ (cs : List Contract) (i : ℕ) where
    -- the period's contracts with contract i cut by t
    abbrev cut_book : ℕ → List Contract
    cut_book t = of_period period (lowered i t cs)

    abbrev e : ℕ → ℤ
    e = excess g process (of_period period cs)

    abbrev w : ℕ → ℤ
    w = slope g.factors period (nth_contract cs i)

    abbrev K : ℕ
    K = g.factors.constraints

    -- clearing is passing
    pub clears-passes : (t : ℕ) → (clears g process period cs i t ≡ true) ↔ CutPasses g process period cs i t
    unfolding clears
    clears-passes t = passing-is (lowered i t cs)

    -- the cut book's flow is within the released limit exactly where excess − slope × t is not above 0
    within-is : (t k : ℕ) → t ≤ quantity_of cs i → (total_flow g.factors (cut_book t) k ≤ℤ pos (released g.limits process k)) ↔ ((e k -ℤ w k *ℤ pos t) ≤ℤ pos 0)
    unfolding excess
    within-is t k h =
        rw (lowered-flow g.factors period i t cs k h, cut-times g.factors period (nth_contract cs i) t k)
        (within-less (total_flow g.factors (of_period period cs) k) (pos (released g.limits process k)) (w k *ℤ pos t))

    -- CLEARS-IS
    pub clears-is : (t : ℕ) → t ≤ quantity_of cs i → (clears g process period cs i t ≡ true) ↔ ((k : ℕ) → k < K → (e k -ℤ w k *ℤ pos t) ≤ℤ pos 0)
    clears-is t h = (λ c k b. (within-is t k h).0 (((clears-passes t).0 c).within k b), λ a. (clears-passes t).1 (record { within = λ k b. (within-is t k h).1 (a k b) }))

    -- THE CLOSED FORM
    pub least-is_closed : least_cut g process period cs i ≡ closed_cut g process period cs i
    unfolding least_cut closed_cut
    least-is_closed = closed-form e w K (quantity_of cs i) (clears g process period cs i) clears-is

    -- ---- the least cut clears the book where it is no more than the quantity, and none smaller does
    fails : (t : ℕ) → clears g process period cs i t ≡ false → CutPasses g process period cs i t → ⊥
    fails t c p = true≢false (sym ((clears-passes t).1 p) ∙ c)

    pub least-clears : least_cut g process period cs i ≤ quantity_of cs i → CutPasses g process period cs i (least_cut g process period cs i)
    unfolding least_cut
    least-clears b = (clears-passes _).0 (lowest-has (suc (quantity_of cs i)) (clears g process period cs i) (omega arith))

    pub smaller_fails : (t : ℕ) → t < least_cut g process period cs i → CutPasses g process period cs i t → ⊥
    unfolding least_cut
    smaller_fails t l = fails t (lowest-least (suc (quantity_of cs i)) (clears g process period cs i) t l)

    -- none is missing: where some cut clears the book, the least is no greater
    pub least-most : (t : ℕ) → CutPasses g process period cs i t → least_cut g process period cs i ≤ t
    least-most t p = let out : ¬ (t < least_cut g process period cs i) = λ l. smaller_fails t l p in omega arith

    -- a cut with no flow changes nothing
    pub idle : (t : ℕ) → t ≤ quantity_of cs i → ((k : ℕ) → w k *ℤ pos t ≡ pos 0) → CutPasses g process period cs i t → BookPasses g process period cs
    idle t b z p = record { within = λ k h. rw (alike k) at (p.within k h) }
      where
        alike : (k : ℕ) → total_flow g.factors (cut_book t) k ≡ total_flow g.factors (of_period period cs) k
        alike k =
            lowered-flow g.factors period i t cs k b
            ∙ sym (same (total_flow g.factors (of_period period cs) k) _ (cut-times g.factors period (nth_contract cs i) t k ∙ z k))

    -- where the book fails, the least cut is at least 1
    pub least-positive : (BookPasses g process period cs → ⊥) → 0 < least_cut g process period cs i
    least-positive out = let above : ¬ (least_cut g process period cs i ≤ 0) = zero_out in omega arith
      where
        zero_out : least_cut g process period cs i ≤ 0 → ⊥
        zero_out l =
            let z : least_cut g process period cs i ≡ 0 = omega arith in
            out (idle 0 (omega arith) (λ k. sym (cut-times g.factors period (nth_contract cs i) 0 k) ∙ cut-none g.factors period (nth_contract cs i) k) (rw z at (least-clears (omega arith))))
