-- Each call's promise goes on from the state before, and from buffers that are long enough.
use mathlib.Core.Path.{◌≡◌, refl}
use mathlib.Core.List.{List, []}
use Prim.Native.Nat.{ℕ, ◌≤◌}
use native.Mathlib.Omega.{arith}
use lib.ListN.{length}
use lib.IntN.{ℤ}
use Rattle.tariff.specs.Units.{Grid, grid_of}
use Rattle.tariff.specs.declared.processes.Process.{Process}
use Rattle.tariff.specs.declared.contracts.Period.{Period}
use Rattle.tariff.specs.Refusals.{Checked, passed}
use Rattle.std.specs.Prelude.{Ok}
use Rattle.tariff.specs.ContractRules.{period_of}
use Rattle.tariff.specs.Processes.{process_of}
use Rattle.tariff.specs.Refusals.{cell_after}
use Rattle.tariff.proofs.Answers.{none-refused, number-told}
use Rattle.tier_rules.specs.Tiers.{Tiers}
use Rattle.tier_rules.specs.Cells.{awards_cells, state_numbers, state_flows, held_in, StateCells, state_cells}
use Rattle.tier_running_rules.specs.OpenRunning.{OpenRunningCall, open_running_checked, numbers_opened, flows_opened}
use Rattle.tier_running_rules.specs.AddAward.{AddAwardCall, add_factors, awarded, own_period, add_award_checked, awards_added, numbers_added, flows_added}
use Rattle.tier_mark_rules.specs.MarkTier.{mark_tier_checked, numbers_marked, flows_marked}
use Rattle.tier_mark_rules.specs.ReturnToTier.{return_to_tier_checked, numbers_returned, flows_returned}
use Rattle.tier_calls.specs.Runs.{CellRun, opens, adds, marks, returns, crr_opens, crr_adds}
use Rattle.tier_calls.specs.Runs.{crr_marks, crr_returns, add_on, mark_on, return_on, RunningIn, LongEnough, EveryRun}
use Rattle.tier_calls.proofs.Room.{kept, opened-numbers, opened-flows, added-row, added-numbers}
use Rattle.tier_calls.proofs.Room.{added-flows, marked-numbers, marked-flows, returned-numbers, returned-flows}
use Rattle.tier_calls.proofs.Room.{tier-told, opening_long}

module _ (q : OpenRunningCall) where
  abbrev g : Grid
  g = grid_of q.nodes q.constraints q.limits q.factors

  abbrev p : Process
  p = process_of q.process

  abbrev t : Period
  t = period_of q.period

  run : (s : Tiers) (c : StateCells) → CellRun q s c → RunningIn q s c
  run _ _ (opens answer numbers flows h ok) = record { opened = ok; running = h.running ok }
  run _ _ (adds s c exit before award answer h) =
      let r = run s c before in
      record { opened = r.opened; running = h.running.runs_on s r.running.reached r.running.holds }
  run _ _ (marks s c before tier answer numbers flows h) =
      let r = run s c before in
      record { opened = r.opened; running = (h.running g p t c.awards).runs_on s r.running.reached r.running.holds }
  run _ _ (returns s c before tier answer numbers flows h) =
      let r = run s c before in
      record { opened = r.opened; running = (h.running g p t c.awards).runs_on s r.running.reached r.running.holds }
  run _ _ (crr_opens numbers flows h) =
      let ok = none-refused (open_running_checked q) (number-told (open_running_checked q) [] _ h.promised.answer-given 0 h.refusal-number) in
      record { opened = ok; running = h.promised.running ok }
  run _ _ (crr_adds s c exit before award number h) =
      let r = run s c before in
      record { opened = r.opened; running = h.promised.running.runs_on s r.running.reached r.running.holds }
  run _ _ (crr_marks s c before tier number numbers flows h) =
      let r = run s c before in
      record { opened = r.opened; running = (h.promised.running g p t c.awards).runs_on s r.running.reached r.running.holds }
  run _ _ (crr_returns s c before tier number numbers flows h) =
      let r = run s c before in
      record { opened = r.opened; running = (h.promised.running g p t c.awards).runs_on s r.running.reached r.running.holds }

-- what a call that follows makes of buffers that are long enough
module _ (c : StateCells) (l : LongEnough c) where
  added : (q : AddAwardCall) → q.awards ≡ c.awards → q.numbers ≡ c.numbers → q.flows ≡ c.flows → (exit : StateCells)
      → exit.awards ≡ awards_added q → exit.numbers ≡ numbers_added q → exit.flows ≡ flows_added q → LongEnough exit
  added q ea en ef exit a b d =
      let checked = add_award_checked q in
      let x : awards_cells ≤ length q.awards = rw ea l.awards-long in
      let y : state_numbers ≤ length q.numbers = rw en l.numbers-long in
      let z : state_flows ≤ length q.flows = rw ef l.flows_long in
      record {
        awards-long = kept checked _ q.awards exit.awards awards_cells a x (λ ok. omega (arith, added-row (held_in q.numbers) (awarded q) q.awards));
        numbers-long = kept checked _ q.numbers exit.numbers state_numbers b y (λ ok. omega (arith, added-numbers (own_period q) q.numbers));
        flows_long = kept checked _ q.flows exit.flows state_flows d z (λ ok. omega (arith, added-flows (own_period q) (add_factors q) (awarded q) q.flows));
      }

  -- marking and returning leave the awards' buffer as it is
  module _ (checked : Checked) (numbers made : List ℕ) (flows left : List ℤ)
      (a : numbers ≡ cell_after checked made c.numbers) (b : flows ≡ cell_after checked left c.flows) where
    changed : (checked ≡ passed → state_numbers ≤ length made) → (checked ≡ passed → state_flows ≤ length left) → LongEnough (state_cells c.awards numbers flows)
    changed n f =
        record {
          awards-long = l.awards-long;
          numbers-long = kept checked made c.numbers numbers state_numbers a l.numbers-long n;
          flows_long = kept checked left c.flows flows state_flows b l.flows_long f;
        }

  marked : (tier : ℕ) (numbers : List ℕ) (flows : List ℤ) → numbers ≡ numbers_marked (mark_on tier c) → flows ≡ flows_marked (mark_on tier c)
      → LongEnough (state_cells c.awards numbers flows)
  marked tier numbers flows a b =
      changed (mark_tier_checked (mark_on tier c)) numbers _ flows _ a b (λ ok. omega (arith, marked-numbers tier c.numbers, l.numbers-long))
      (λ ok. omega (arith, marked-flows tier c.flows, l.flows_long))

  returned : (tier : ℕ) (numbers : List ℕ) (flows : List ℤ) → numbers ≡ numbers_returned (return_on tier c) → flows ≡ flows_returned (return_on tier c)
      → LongEnough (state_cells c.awards numbers flows)
  returned tier numbers flows a b =
      changed (return_to_tier_checked (return_on tier c)) numbers _ flows _ a b (λ ok. omega (arith, returned-numbers tier c.numbers, l.numbers-long))
      (λ ok. returned-flows tier c.flows (tier-told (return_on tier c) ok) l.flows_long)

opened-long : (q : OpenRunningCall) → open_running_checked q ≡ passed → (numbers : List ℕ) (flows : List ℤ) → numbers ≡ numbers_opened q → flows ≡ flows_opened q
    → LongEnough (state_cells q.awards numbers flows)
opened-long q ok numbers flows a b =
    let l = opening_long q ok in
    record {
      awards-long = l.awards-long;
      numbers-long =
          kept (open_running_checked q) _ q.numbers numbers state_numbers a l.numbers-long (λ e. omega (arith, opened-numbers q.numbers, l.numbers-long));
      flows_long = kept (open_running_checked q) _ q.flows flows state_flows b l.flows_long (λ e. omega (arith, opened-flows q.flows, l.flows_long));
    }

long : (q : OpenRunningCall) (s : Tiers) (c : StateCells) → CellRun q s c → LongEnough c
long q _ _ (opens answer numbers flows h ok) = opened-long q ok numbers flows h.numbers-opened h.flows-opened
long q _ _ (adds s c exit before award answer h) =
    added c (long q s c before) (add_on q award c) refl refl refl exit h.awards-added h.numbers-added h.flows-added
long q _ _ (marks s c before tier answer numbers flows h) = marked c (long q s c before) tier numbers flows h.numbers-marked h.flows-marked
long q _ _ (returns s c before tier answer numbers flows h) = returned c (long q s c before) tier numbers flows h.numbers-returned h.flows-returned
long q _ _ (crr_opens numbers flows h) =
    opened-long q (none-refused (open_running_checked q) (number-told (open_running_checked q) [] _ h.promised.answer-given 0 h.refusal-number)) numbers flows
    h.promised.numbers-opened h.promised.flows-opened
long q _ _ (crr_adds s c exit before award number h) =
    added c (long q s c before) (add_on q award c) refl refl refl exit h.promised.awards-added h.promised.numbers-added h.promised.flows-added
long q _ _ (crr_marks s c before tier number numbers flows h) =
    marked c (long q s c before) tier numbers flows h.promised.numbers-marked h.promised.flows-marked
long q _ _ (crr_returns s c before tier number numbers flows h) =
    returned c (long q s c before) tier numbers flows h.promised.numbers-returned h.promised.flows-returned

pub every_run : EveryRun
every_run = record { every_run_runs = run; buffers_stay_long = long }
