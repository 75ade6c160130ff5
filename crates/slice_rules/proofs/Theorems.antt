-- THE THEOREMS of a test in slices; the statements are in specs/.
use mathlib.Core.Path.{◌≡◌, sym, ap, ap₂, subst, subst₂, ◌∙◌}
use mathlib.Core.List.{List, flat_map}
use Prim.Native.Nat.{ℕ, ◌<◌, ◌*◌}
use lib.IntN.{ℤ, pos, ◌-ℤ◌}
use lib.Signed.{◌≤ℤ◌}
use Rattle.tariff.specs.declared.contracts.Contract.{Contract}
use Rattle.tariff.specs.declared.contracts.Period.{Period}
use Rattle.tariff.specs.declared.processes.Process.{Process}
use Rattle.tariff.specs.Units.{Grid}
use Rattle.tariff.specs.ContractRules.{of_period}
use Rattle.tariff.specs.Processes.{percent}
use Rattle.tariff.specs.Feasibility.{total_flow, released, Passes, excess}
use Rattle.tariff.proofs.Theorems.{pass_is_worst_zero, excess-is_a_shortfall}
use Rattle.order_rules.proofs.Perms.{of_period-perm}
use Rattle.order_rules.proofs.Figures.{flows-perm}
use Rattle.slice_rules.specs.Slices.{Slice, Place, Sliced}
use Rattle.slice_rules.specs.Theorems.{block_flow, block_released, BlocksPass, SlicesAreTheWhole, SliceFlowIsTheWhole}
use Rattle.slice_rules.specs.Hours.{AmountIsTheWhole}
use Rattle.slice_rules.specs.Cutting.{EndsNumbered, CanBeSliced}
use Rattle.slice_rules.proofs.Flowing.{stands-flow, slices-total}
use Rattle.slice_rules.proofs.Amounts.{amount-same}
use Rattle.slice_rules.proofs.Cutting as C

pub slice_flow_is_the_whole : SliceFlowIsTheWhole
slice_flow_is_the_whole = stands-flow

pub amount-is_the_whole : AmountIsTheWhole
amount-is_the_whole = amount-same

pub ends-numbered : (nodes : List ℕ) → EndsNumbered nodes
ends-numbered = C.ends-numbered

pub can_be_sliced : (g : Grid) (book : List Contract) → CanBeSliced g book
can_be_sliced = C.can_be_sliced

module _ (g : Grid) (process : Process) (t : Period) (book : List Contract) (s : Sliced g book) where
  abbrev at : ℕ → ℕ → ℕ
  at i j = (s.cut.block i).number j

  abbrev total : ℕ → ℤ
  total k = total_flow g.factors (of_period t book) k

  flow-same : (i j : ℕ) → i < s.cut.blocks → j < (s.cut.block i).size → block_flow g process t book s i j ≡ total (at i j)
  flow-same i j hi hj =
      let all = flat_map (λ (x : Slice g.factors (s.cut.block i)). x.contracts) (s.slices i) in
      slices-total g.factors (s.cut.block i) t (s.slices i) j hj
      ∙ (flows-perm g.factors (of_period t all) (of_period t book) (of_period-perm t all book (s.all-contracts i hi))).flows-same (at i j)

  released-same : (i j : ℕ) → i < s.cut.blocks → j < (s.cut.block i).size → released (s.limits i) process j ≡ released g.limits process (at i j)
  unfolding released
  released-same i j hi hj = ap (λ (l : ℕ). l * percent process * 1000) (s.limits-same i j hi hj)

  excess-same : (i j : ℕ) → i < s.cut.blocks → j < (s.cut.block i).size
      → block_flow g process t book s i j -ℤ block_released g process t book s i j ≡ excess g process (of_period t book) (at i j)
  unfolding excess
  excess-same i j hi hj = ap₂ (λ (x : ℤ) (l : ℕ). x -ℤ pos l) (flow-same i j hi hj) (released-same i j hi hj)

  to_whole : BlocksPass g process t book s → Passes g process (of_period t book)
  to_whole p =
      record {
        within = λ k h.
            let w : Place s.cut.blocks s.cut.block k = s.cut.covers k h in
            subst (λ (k : ℕ). total k ≤ℤ pos (released g.limits process k)) w.is-there
            (subst₂ (λ (x : ℤ) (l : ℕ). x ≤ℤ pos l) (flow-same w.in_block w.at w.block-below w.at-below)
            (released-same w.in_block w.at w.block-below w.at-below)
            (p.within w.in_block w.at w.block-below w.at-below));
      }

  to_blocks : Passes g process (of_period t book) → BlocksPass g process t book s
  to_blocks p =
      record {
        within = λ i j hi hj.
            subst₂ (λ (x : ℤ) (l : ℕ). x ≤ℤ pos l) (sym (flow-same i j hi hj)) (sym (released-same i j hi hj)) (p.within (at i j) (s.cut.inside i j hi hj));
      }

  pub slices-are_the_whole : SlicesAreTheWhole g process t book s
  slices-are_the_whole =
      let worst = pass_is_worst_zero g process t book in
      record {
        flow-is = flow-same;
        passes = (to_whole, to_blocks);
        worst-zero = (λ p. worst.0 (to_whole p), λ w. to_blocks (worst.1 w));
        excess-is = excess-same;
        one_cent_list = λ i j hi hj. (excess-is_a_shortfall g process t book (at i j) (s.cut.inside i j hi hj)).0;
        one_cent_shortfall = λ i j hi hj. (excess-is_a_shortfall g process t book (at i j) (s.cut.inside i j hi hj)).1 ∙ sym (excess-same i j hi hj);
      }
