-- Buffers that were long enough at the opening stay so: no operation makes one shorter.
use mathlib.Core.Path.{◌≡◌, refl}
use mathlib.Core.Bool.{Bool, true, false}
use mathlib.Core.List.{List, [], ◌∷◌, ◌++◌}
use Prim.Native.Nat.{ℕ, ◌*◌, ◌≤◌}
use native.Mathlib.Omega.{arith}
use borrow.Author.Tests.{ltb-false}
use lib.Dec.{eqb, ltb}
use lib.ListN.{length, take, replicate, length-append, length-take, length-drop, length-set}
use lib.IntN.{ℤ, pos}
use Rattle.lists.specs.Lent.{overwrite}
use Rattle.lists.specs.Lists.{list_to}
use Rattle.lists.proofs.Search.{neither}
use Rattle.tariff.specs.declared.contracts.Contract.{Contract}
use Rattle.tariff.specs.Refusals.{Checked, passed}
use Rattle.std.specs.Prelude.{Ok, Err}
use Rattle.tariff.specs.Units.{Factors}
use Rattle.tariff.specs.Checks.{node_count, constraint_count, process_number, period_number, short_table, limit_range, factor_range}
use Rattle.tariff.proofs.Checks.{passed_cons, passed_append}
use Rattle.tariff.specs.Refusals.{Check, first, cell_after}
use Rattle.layouts.specs.BookTable.{cells_of}
use Rattle.tier_rules.specs.Checks.{max_tier, running_checks, return_checks_of}
use Rattle.tier_rules.specs.Cells.{awards_cells, state_numbers, state_flows, state_cells, flow_with, with_award_row, with_award_numbers, with_award_flows}
use Rattle.tier_rules.specs.Cells.{opened_numbers, opened_flows, marked_numbers, marked_flows, returned_numbers, returned_flows}
use Rattle.tier_rules.proofs.Cells.{length-drop_marks}
use Rattle.tier_running_rules.specs.OpenRunning.{OpenRunningCall, open_running_checks, open_running_checked}
use Rattle.tier_mark_rules.specs.ReturnToTier.{ReturnToTierCall, return_listed, return_to_tier_checked}
use Rattle.tier_calls.specs.Runs.{LongEnough}

-- a buffer at exit, refused or not
pub kept : {A : Type 0} (checked : Checked) (made entry exit : List A) (n : ℕ) → exit ≡ cell_after checked made entry → n ≤ length entry
    → (checked ≡ passed → n ≤ length made) → n ≤ length exit
kept (Ok _) made entry exit n e l m = rw e (m refl)
kept (Err r) made entry exit n e l m = rw e l

-- ---- what each operation makes of a buffer

overwritten : {A : Type 0} (values entry : List A) → length entry ≤ length (overwrite values entry)
overwritten values entry = simp (length-append, length-drop) (omega arith)

pub opened-numbers : (numbers : List ℕ) → length numbers ≤ length (opened_numbers numbers)
opened-numbers numbers = overwritten (replicate state_numbers 0) numbers

pub opened-flows : (flows : List ℤ) → length flows ≤ length (opened_flows flows)
opened-flows flows = overwritten (replicate state_flows (pos 0)) flows

pub added-row : (held : ℕ) (c : Contract) (awards : List ℕ) → length awards ≤ length (with_award_row held c awards)
unfolding cells_of
added-row held c awards = simp (length-append, length-take, length-drop) (omega arith)

pub added-numbers : (own : Bool) (numbers : List ℕ) → length numbers ≤ length (with_award_numbers own numbers)
added-numbers true numbers = simp length-set (omega arith)
added-numbers false numbers = simp length-set (omega arith)

pub added-flows : (own : Bool) (f : Factors) (c : Contract) (flows : List ℤ) → length flows ≤ length (with_award_flows own f c flows)
added-flows true f c flows = overwritten (list_to f.constraints (flow_with f c flows)) flows
added-flows false f c flows = omega arith

pub marked-numbers : (i : ℕ) (numbers : List ℕ) → length numbers ≤ length (marked_numbers i numbers)
marked-numbers i numbers = simp length-set (omega arith)

pub marked-flows : (i : ℕ) (flows : List ℤ) → length flows ≤ length (marked_flows i flows)
marked-flows i flows = simp (length-append, length-take, length-drop) (omega arith)

pub returned-numbers : (i : ℕ) (numbers : List ℕ) → length numbers ≤ length (returned_numbers i numbers)
returned-numbers i numbers = simp (length-set, length-drop_marks) (omega arith)

pub returned-flows : (i : ℕ) (flows : List ℤ) → i ≤ max_tier → state_flows ≤ length flows → state_flows ≤ length (returned_flows i flows)
returned-flows i flows few long = simp (length-append, length-take, length-drop) (omega arith)

-- ---- what the checks tell

pub tier-told : (q : ReturnToTierCall) → return_to_tier_checked q ≡ passed → q.tier ≤ max_tier
unfolding return_listed return_checks_of
tier-told q ok =
    let tier = (passed_cons _ _ (passed_cons _ _ (passed_cons _ _ ok).1).1).0 in
    ltb-false max_tier q.tier (neither (eqb q.tier 0) (ltb max_tier q.tier) tier).1

-- an opening's checks: counts and lengths, the buffers, then what is in the tables
module _ (q : OpenRunningCall) where
  abbrev pub counts_asked : List Check
  counts_asked =
      node_count q.nodes ∷ constraint_count q.constraints ∷ process_number q.process ∷ period_number q.period
      ∷ short_table (length q.limits) q.constraints ∷ short_table (length q.factors) (q.nodes * q.constraints) ∷ []

  abbrev buffers_lent : List Check
  buffers_lent = short_table (length q.awards) awards_cells ∷ short_table (length q.numbers) state_numbers ∷ short_table (length q.flows) state_flows ∷ []

  abbrev pub ranges_kept : List Check
  ranges_kept = limit_range (take q.constraints q.limits) ∷ factor_range (take (q.nodes * q.constraints) q.factors) ∷ []

  pub opening_parts : open_running_checked q ≡ passed → (first counts_asked ≡ passed) × (first buffers_lent ≡ passed) × (first ranges_kept ≡ passed)
  unfolding open_running_checks running_checks
  opening_parts ok =
      let p = passed_append counts_asked (buffers_lent ++ ranges_kept) ok in
      let b = passed_append buffers_lent ranges_kept p.1 in
      (p.0, b.0, b.1)

pub opening_long : (q : OpenRunningCall) → open_running_checked q ≡ passed → LongEnough (state_cells q.awards q.numbers q.flows)
opening_long q ok =
    let one = passed_cons _ _ (opening_parts q ok).1 in
    let two = passed_cons _ _ one.1 in
    record {
      awards-long = ltb-false (length q.awards) awards_cells one.0;
      numbers-long = ltb-false (length q.numbers) state_numbers two.0;
      flows_long = ltb-false (length q.flows) state_flows (passed_cons _ _ two.1).0;
    }
