-- THE THEOREMS of grids and books of any size by calls; the statements are in specs/.
use mathlib.Core.Path.{◌≡◌, sym, ap, subst, ◌∙◌}
use mathlib.Core.List.{List}
use Prim.Native.Nat.{ℕ, ◌<◌}
use lib.IntN.{ℤ, pos}
use lib.Signed.{◌≤ℤ◌}
use Rattle.tariff.specs.declared.contracts.Contract.{Contract}
use Rattle.tariff.specs.declared.contracts.Period.{Period}
use Rattle.tariff.specs.declared.processes.Process.{Process}
use Rattle.tariff.specs.Units.{Grid}
use Rattle.tariff.specs.ContractRules.{of_period}
use Rattle.tariff.specs.Processes.{process_of}
use Rattle.tariff.specs.Feasibility.{total_flow, released, Passes, excess}
use Rattle.tariff.proofs.Theorems.{pass_is_worst_zero, excess-is_a_shortfall}
use Rattle.order_rules.specs.Reordering.{SameFlows}
use Rattle.order_rules.proofs.Perms.{of_period-perm}
use Rattle.order_rules.proofs.Figures.{flows-perm}
use Rattle.slice_rules.specs.Slices.{Place}
use Rattle.slice_rules.specs.Totals.{Totals}
use Rattle.slice_calls.specs.Calls.{IsPass, IsFail, TestedInSlices}
use Rattle.slice_calls.specs.Taking.{SlicesAreTaken, CanBeTested}
use Rattle.slice_calls.specs.Hours.{HoursInSlices}
use Rattle.slice_calls.specs.Theorems.{SummedAreTotals, AllPass, FailsAt, SlicedTestIsRight}
use Rattle.slice_calls.proofs.Judging.{BlockSaid, judged_said}
use Rattle.slice_calls.proofs.Steps.{totals-of}
use Rattle.slice_calls.proofs.Taking as T
use Rattle.slice_calls.proofs.Testing as W
use Rattle.slice_calls.proofs.Hours as H

pub slices-are_taken : SlicesAreTaken
slices-are_taken = T.slices-are_taken

pub can_be_tested : CanBeTested
can_be_tested = W.can_be_tested

pub hours_in_slices : HoursInSlices
hours_in_slices = H.hours_in_slices

pub summed-are_totals : SummedAreTotals
summed-are_totals whole b t cs flows count s = totals-of whole b t s

-- ---- a whole test

module _ (g : Grid) (process : ℕ) (t : Period) (book : List Contract) (s : TestedInSlices g process t book) where
  abbrev by : Process
  by = process_of process

  abbrev tested : List Contract
  tested = of_period t book

  -- each answer is right for the whole book
  block-said : (i : ℕ) → i < s.cut.blocks → BlockSaid g by tested (s.cut.block i) (IsPass (s.answer i)) (IsFail (s.answer i))
  block-said i h =
      let b = s.cut.block i in
      let own = totals-of g.factors b t (s.summed i h) in
      let same : SameFlows g.factors (of_period t (s.contracts i)) tested
      = flows-perm g.factors (of_period t (s.contracts i)) tested (of_period-perm t (s.contracts i) book (s.all-contracts i h)) in
      let totals : Totals g.factors b tested (s.flows i) (s.count i)
      = record { flows-are = λ j l. own.flows-are j l ∙ same.flows-same (b.number j); count-is = own.count-is ∙ same.counted_same } in
      judged_said g b (s.limits i) (λ j l. s.limits-same i j h l) process tested (s.flows i) (s.count i) totals (s.none-refused i h) (s.answer i)

  to_whole : AllPass g process t book s → Passes g by tested
  to_whole p =
      record {
        within = λ k h.
            let w : Place s.cut.blocks s.cut.block k = s.cut.covers k h in
            subst (λ (k : ℕ). total_flow g.factors tested k ≤ℤ pos (released g.limits by k)) w.is-there
            (((block-said w.in_block w.block-below).pass_is_within.0 (p w.in_block w.block-below)).within w.at w.at-below);
      }

  to_blocks : Passes g by tested → AllPass g process t book s
  to_blocks p i h = (block-said i h).pass_is_within.1 (record { within = λ j l. p.within ((s.cut.block i).number j) (s.cut.inside i j h l) })

  module _ (k : ℕ) (over : ℤ) (f : FailsAt g process t book s k over) where
    there : k < g.factors.constraints
    there =
        rw (← f.is-named)
        (s.cut.inside f.in_block f.lowest f.block-below ((block-said f.in_block f.block-below).fail_is_inside f.lowest over f.is-fail))

    at-excess : excess g by tested k ≡ over
    at-excess =
        ap (λ (k : ℕ). excess g by tested k) (sym f.is-named)
        ∙ (block-said f.in_block f.block-below).fail_is_its_excess f.lowest over f.is-fail

  pub sliced-test_is_right : SlicedTestIsRight g process t book s
  sliced-test_is_right =
      let worst = pass_is_worst_zero g by t book in
      record {
        pass_is_whole = (to_whole, to_blocks);
        pass_is_worst_zero = (λ p. worst.0 (to_whole p), λ w. to_blocks (worst.1 w));
        fail_is_of_the_grid = there;
        fail_is_its_excess = at-excess;
        fail_is_a_list = λ k over f. (excess-is_a_shortfall g by t book k (there k over f)).0;
        fail_is_its_shortfall = λ k over f. (excess-is_a_shortfall g by t book k (there k over f)).1 ∙ at-excess k over f;
        fail_is_above_zero = λ k over f. (block-said f.in_block f.block-below).fail_is_above_zero f.lowest over f.is-fail;
      }
