-- What adding an award's flows gives, and what the cells say of 21 on a state.
use mathlib.Core.Path.{◌≡◌, refl, sym, ap, ap₂, ◌∙◌, subst}
use mathlib.Core.Bool.{Bool, true, false, cond}
use mathlib.Core.List.{List, [], ◌∷◌, ◌++◌}
use Prim.Native.Nat.{ℕ, suc, ◌+◌, ◌*◌, ◌≤◌, ◌<◌}
use native.Mathlib.Nat.{pos_of_ne-zero}
use native.Mathlib.Omega.{arith}
use borrow.Author.Tests.{lt-ltb, le-ltb}
use lib.Dec.{ltb}
use lib.ListN.{length, get_or, set, take, length-set}
use lib.Seq.{get_or-take, length-take-le, get_or-set_other}
use lib.IntN.{ℤ, pos, nat_abs, ◌+ℤ◌}
use lib.Signed.{lt_z}
use Rattle.lists.specs.Lists.{Each, list_to, any_of}
use Rattle.lists.specs.Lent.{overwrite}
use Rattle.lists.specs.Sets.{set_of}
use Rattle.lists.proofs.Sets.{set-cong}
use Rattle.tariff.specs.declared.contracts.Contract.{Contract}
use Rattle.tariff.specs.declared.contracts.Period.{Period}
use Rattle.tariff.specs.declared.processes.Process.{Process}
use Rattle.tariff.specs.Units.{Factors, factors_of, grid_of, max_flow}
use Rattle.tariff.specs.ContractRules.{same_period, of_period, InRange}
use Rattle.tariff.specs.Feasibility.{flow, total_flow, released, overloaded, overload_set}
use Rattle.tariff.specs.Inner.{FactorsInRange}
use Rattle.tariff.proofs.Sizes.{total_flow-sized, of_period-in_range}
use Rattle.tariff.proofs.Periods.{of_period-same, sum_over-more}
use Rattle.tariff.specs.Processes.{percent}
use Rattle.test_rules.specs.declared.Flows.{Flows}
use Rattle.book_rules.proofs.Accepted.{contract-in_range}
use Rattle.tier_rules.specs.Tiers.{Tiers, Award, Reached}
use Rattle.tier_rules.specs.Cells.{held_in, counted_in, flow_with, state_cells, HoldsTiers}
use Rattle.tier_rules.proofs.States.{other_period_never_21}
use Rattle.tier_running_rules.specs.AddAward.{no_state_of, exceeds_with, cells_over}
use Rattle.tier_running_rules.specs.Inner.{FlowsWith, AddsFlows}
use Rattle.tier_running_rules.proofs.Flowing.{beyond, none_found}

-- ---- what is added

-- 21 comes where the set of flows above their released limits is not empty
pub exceeds_is : (limits : List ℕ) (process : Process) (f : Factors) (c : Contract) (flows : List ℤ)
    → exceeds_with limits process f c flows ≡ ltb 0 (set_of f.constraints (λ j. lt_z (pos (released limits process j)) (flow_with f c flows j)))
unfolding exceeds_with
exceeds_is limits process f c flows = refl

module _ (own : Bool) (limits : List ℕ) (process : Process) (f : Factors) (c : Contract) (numbers : List ℕ) (flows : List ℤ) where
  pub adds-other : own ≡ false → AddsFlows own limits process f c numbers flows false numbers flows
  unfolding cells_over
  adds-other e = record { over-is = rw e; numbers-are = rw e; flows-are = rw e }

  module _ (mine : own ≡ true) where
    pub adds-odd : no_state_of f.constraints numbers flows ≡ true → AddsFlows own limits process f c numbers flows true numbers flows
    unfolding cells_over
    adds-odd e = record { over-is = rw (mine, e); numbers-are = refl; flows-are = refl }

    module _ (even : no_state_of f.constraints numbers flows ≡ false) (n : ℕ) (is : n ≡ set_of f.constraints (λ j. lt_z (pos (released limits process j)) (flow_with f c flows j))) where
      pub adds-over : (n ≡ 0 → ⊥) → AddsFlows own limits process f c numbers flows true numbers flows
      unfolding cells_over
      adds-over ne = record { over-is = rw (mine, even, exceeds_is limits process f c flows, ← is) (sym (lt-ltb 0 n (pos_of_ne-zero ne))); numbers-are = refl; flows-are = refl }

      pub adds-held : n ≡ 0 → (numbers' : List ℕ) (flows' : List ℤ) → numbers' ≡ set numbers 1 (counted_in numbers + 1) → flows' ≡ overwrite (list_to f.constraints (flow_with f c flows)) flows
          → AddsFlows own limits process f c numbers flows false numbers' flows'
      unfolding cells_over
      adds-held z numbers' flows' en ef =
          record { over-is = rw (mine, even, exceeds_is limits process f c flows, ← is) (sym (le-ltb 0 n (omega arith))); numbers-are = rw mine en; flows-are = rw mine ef }

-- the same of equal values
pub adds-as : (own own' : Bool) (limits : List ℕ) (p p' : Process) (f : Factors) (c c' : Contract) (numbers : List ℕ) (flows : List ℤ) (over : Bool) (numbers' : List ℕ) (flows' : List ℤ)
    → own ≡ own' → p ≡ p' → c ≡ c' → AddsFlows own limits p f c numbers flows over numbers' flows' → AddsFlows own' limits p' f c' numbers flows over numbers' flows'
adds-as own own' limits p p' f c c' numbers flows over numbers' flows' eo ep ec h =
    subst (λ (o : Bool). AddsFlows o limits p' f c' numbers flows over numbers' flows') eo
    (subst (λ (x : Process). AddsFlows own limits x f c' numbers flows over numbers' flows') ep
    (subst (λ (x : Contract). AddsFlows own limits p f x numbers flows over numbers' flows') ec h))

-- the numbers before the award is stored
pub counts-kept : (own : Bool) (numbers : List ℕ) (v : ℕ) → (length (cond own (set numbers 1 v) numbers) ≡ length numbers) × (held_in (cond own (set numbers 1 v) numbers) ≡ held_in numbers)
counts-kept true numbers v = (length-set numbers 1 v, get_or-set_other numbers 1 0 v 0 (λ e. omega arith))
counts-kept false numbers v = (refl, refl)

-- the overload set of flows that were tried
pub tried_set : (n k : ℕ) (limits : List ℕ) (process : Process) (table : List ℤ) (c : Contract) (flows : List ℤ) (tried : Flows) → FlowsWith (factors_of n k table) c flows tried → (x : ℕ)
    → x ≡ set_of k (λ j. lt_z (pos (get_or limits j 0 * percent process * 1000)) (get_or tried.flows j (pos 0)))
    → x ≡ set_of k (λ j. lt_z (pos (released limits process j)) (flow_with (factors_of n k table) c flows j))
unfolding released
tried_set n k limits process table c flows tried w x e = e ∙ set-cong k _ _ (λ j l. ap (lt_z (pos (get_or limits j 0 * percent process * 1000))) (w.flows-are j l))

-- ---- what the cells of a state say of 21

each_in : (n : ℕ) (cs : List Contract) → Each (Award n) cs → Each (InRange n) cs
each_in n [] e = tt
each_in n (c ∷ cs) e = (contract-in_range n c e.0.checks_pass, each_in n cs e.1)

all-good : {A : Type 0} (bad : A → Bool) (xs : List A) (d : A) → ((i : ℕ) → i < length xs → bad (get_or xs i d) ≡ false) → any_of bad xs ≡ false
unfolding any_of
all-good bad [] d h = refl
all-good bad (x ∷ xs) d h = rw (h 0 (omega arith)) (all-good bad xs d (λ i l. h (suc i) (omega arith)))

module _ (n k : ℕ) (limits : List ℕ) (factors : List ℤ) (process : Process) (t : Period) (s : Tiers) (awards numbers : List ℕ) (flows : List ℤ)
    (r : Reached (grid_of n k limits factors) process t s) (h : HoldsTiers (grid_of n k limits factors) t s (state_cells awards numbers flows))
    (in_range : FactorsInRange (factors_of n k factors)) (long : k ≤ length flows) where
  abbrev F : Factors
  F = factors_of n k factors

  period-in : Each (InRange n) (of_period t s.awards) × (length (of_period t s.awards) ≤ length s.awards)
  period-in = of_period-in_range n t s.awards (each_in n s.awards r.each)

  flow-is : (j : ℕ) → j < k → get_or flows j (pos 0) ≡ total_flow F (of_period t s.awards) j
  flow-is j l = let z : 0 + j ≡ j = omega arith in rw z at (h.block.flows-are j l)

  no_odd : no_state_of k numbers flows ≡ false
  no_odd =
      sym (none_found k numbers flows (omega (arith, h.counted_is, h.held_is, period-in.1))
      (all-good (beyond (counted_in numbers)) (take k flows) (pos 0) (λ j l.
      let b : j < k = omega (arith, length-take-le k flows long) in
      le-ltb (max_flow * counted_in numbers) (nat_abs (get_or (take k flows) j (pos 0)))
      (rw (get_or-take k flows j (pos 0) b, flow-is j b, h.counted_is) (total_flow-sized F in_range (of_period t s.awards) j period-in.0 b)))))

  more : (c : Contract) → same_period c.period t ≡ true → (j : ℕ) → j < k → flow_with F c flows j ≡ total_flow F (of_period t (s.awards ++ c ∷ [])) j
  unfolding total_flow
  more c e j l =
      ap (λ (x : ℤ). x +ℤ flow F c j) (flow-is j l) ∙ sym (sum_over-more (of_period t s.awards) c (λ x. flow F x j))
      ∙ ap (λ (cs : List Contract). total_flow F cs j) (sym (of_period-same t s.awards c e))

  limit_is : (j : ℕ) → j < k → released limits process j ≡ released (take k limits) process j
  unfolding released
  limit_is j l = rw (get_or-take k limits j 0 l)

  by_period : (c : Contract) (b : Bool) → same_period c.period t ≡ b
      → cells_over b limits process F c numbers flows ≡ ltb 0 (overload_set (grid_of n k limits factors) process (of_period t (s.awards ++ c ∷ [])))
  unfolding cells_over exceeds_with overload_set overloaded
  by_period c true e = rw no_odd (ap (ltb 0) (set-cong k _ _ (λ j l. ap₂ (λ (x : ℕ) (y : ℤ). lt_z (pos x) y) (limit_is j l) (more c e j l))))
  by_period c false e = sym (other_period_never_21 (grid_of n k limits factors) process t s r c e)

  pub over-told : (c : Contract) → cells_over (same_period c.period t) limits process F c numbers flows ≡ ltb 0 (overload_set (grid_of n k limits factors) process (of_period t (s.awards ++ c ∷ [])))
  over-told c = by_period c (same_period c.period t) refl
