-- Flows of cells: which are a state's, the flows with an award's, and what they say of a state.
use mathlib.Core.Path.{◌≡◌, sym, ap, ◌∙◌}
use mathlib.Core.Bool.{Bool, true, false}
use mathlib.Core.List.{List}
use Prim.Native.Nat.{ℕ, ◌*◌, ◌^◌, ◌≤◌, ◌<◌}
use native.Mathlib.Omega.{arith}
use borrow.Author.Tests.{lt-ltb, le-ltb, ltb-false}
use lib.Dec.{ltb}
use lib.ListN.{length, get_or, take}
use lib.Seq.{get_or-take}
use lib.IntN.{ℤ, pos, nat_abs, ◌+ℤ◌}
use Rattle.integers.proofs.Sizes.{nat_abs_add}
use Rattle.lists.specs.Lists.{any_of, list_to}
use Rattle.lists.proofs.Lists.{list_to-cong}
use Rattle.lists.proofs.Search.{neither, none-bad, any_of_bad, cell_in}
use Rattle.tariff.specs.declared.contracts.Contract.{Contract}
use Rattle.tariff.specs.Units.{factors_of, max_constraints, max_contracts, max_flow}
use Rattle.tariff.specs.Feasibility.{flow}
use Rattle.tariff.specs.ContractRules.{InRange}
use Rattle.tariff.proofs.Sizes.{flow-sized}
use Rattle.grid_tables.specs.Inner.{GoodFactors}
use Rattle.test_rules.specs.declared.Flows.{Flows}
use Rattle.test_rules.specs.Inner.{Adds, FlowRoom}
use Rattle.test_held.specs.Inner.{SameFlows}
use Rattle.tier_rules.specs.Cells.{held_in, counted_in, flow_with}
use Rattle.tier_running_rules.specs.AddAward.{no_state_of}
use Rattle.tier_running_rules.specs.Inner.{StateLike, FlowsWith}

-- ---- cells that are a state's or not

-- a flow larger than so many awards make
abbrev pub beyond : ℕ → ℤ → Bool
beyond counted z = ltb (max_flow * counted) (nat_abs z)

module _ (k : ℕ) (numbers : List ℕ) (flows : List ℤ) where
  pub none_found : counted_in numbers ≤ held_in numbers → any_of (beyond (counted_in numbers)) (take k flows) ≡ false → false ≡ no_state_of k numbers flows
  unfolding no_state_of
  none_found h e = sym (rw (le-ltb (held_in numbers) (counted_in numbers) h) e)

  module _ (s : StateLike k numbers flows) where
    parts : (ltb (held_in numbers) (counted_in numbers) ≡ false) × (any_of (beyond (counted_in numbers)) (take k flows) ≡ false)
    unfolding no_state_of
    parts = neither (ltb (held_in numbers) (counted_in numbers)) (any_of (beyond (counted_in numbers)) (take k flows)) s.told

    pub counted-few : counted_in numbers < max_contracts
    counted-few = omega (arith, ltb-false (held_in numbers) (counted_in numbers) parts.0, s.room)

    pub flow-few : (j : ℕ) → j < k → nat_abs (get_or flows j (pos 0)) ≤ max_flow * max_contracts
    flow-few j h =
        let none = none-bad (beyond (counted_in numbers)) (take k flows) (pos 0) parts.1 j (cell_in flows k j s.long h) in
        let small = ltb-false (max_flow * counted_in numbers) (nat_abs (get_or (take k flows) j (pos 0))) none in
        omega (arith, rw (get_or-take k flows j (pos 0) h) at small, counted-few)

-- ---- the flows with an award's

module _ (n k : ℕ) (table : List ℤ) (c : Contract) (numbers : List ℕ) (flows : List ℤ) (held : Flows) (same : SameFlows k flows held) where
  pub room_of : k ≤ max_constraints → StateLike k numbers flows → FlowRoom k held.flows
  room_of few s = record { few = few; all = same.all; flows-sized = λ j h. rw (same.flows-are j h) (flow-few k numbers flows s j h) }

  pub with_added : InRange n c → (new : List ℤ) (count : ℕ) → Adds k table c held.flows new
      → FlowsWith (factors_of n k table) c flows (record { flows = new; count = count })
  with_added own new count adds =
      record { flows-are = λ j h. adds.flows-added n own j h ∙ ap (λ (z : ℤ). z +ℤ flow (factors_of n k table) c j) (same.flows-are j h) }

-- each within what is judged
module _ (n k : ℕ) (table : List ℤ) (c : Contract) (numbers : List ℕ) (flows : List ℤ) (tried : Flows) (w : FlowsWith (factors_of n k table) c flows tried) where
  pub tried_sized : GoodFactors n k table → InRange n c → StateLike k numbers flows → (j : ℕ) → j < k → nat_abs (get_or tried.flows j (pos 0)) < 2 ^ 62
  tried_sized g own s j h =
      rw (w.flows-are j h)
      (omega (
        arith,
        nat_abs_add (get_or flows j (pos 0)) (flow (factors_of n k table) c j),
        flow-few k numbers flows s j h,
        flow-sized (factors_of n k table) g.in_range c j own h,
      ))

  pub tried_cells : list_to k (λ (j : ℕ). get_or tried.flows j (pos 0)) ≡ list_to k (flow_with (factors_of n k table) c flows)
  tried_cells = list_to-cong k _ _ w.flows-are
