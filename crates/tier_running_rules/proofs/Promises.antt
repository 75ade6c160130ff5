-- From what the checks found to the promises of opening and adding.
use mathlib.Core.Path.{◌≡◌, refl, sym, ap, ◌∙◌}
use mathlib.Core.Bool.{Bool, true, false}
use mathlib.Core.List.{List, [], ◌∷◌, ◌++◌}
use Prim.Native.Nat.{ℕ}
use native.Mathlib.Omega.{arith}
use lib.ListN.{length}
use lib.IntN.{ℤ}
use Rattle.tariff.specs.declared.refusals.Refusal.{Refusal}
use Rattle.tariff.specs.declared.refusals.Refusal.TheVariants.{AwardOverload}
use Rattle.tariff.specs.Refusals.{Checked, passed}
use Rattle.std.specs.Prelude.{Ok, Err}
use Rattle.tariff.specs.Units.{grid_of}
use Rattle.tariff.specs.ContractRules.{period_of}
use Rattle.tariff.specs.Processes.{process_of}
use Rattle.tariff.specs.Refusals.{first, answered, cell_after}
use Rattle.tariff.proofs.Checks.{append_refuses, append_passes, passed_append, first-refuses, last-passes}
use Rattle.tier_rules.specs.Cells.{RunningAnswer}
use Rattle.tier_rules.specs.Tiers.{Tiers, opened, with_award, Reached}
use Rattle.tier_rules.specs.Checks.{overload, award_checks, award_over}
use Rattle.tier_rules.specs.Cells.{held_in, state_cells, running_outcome, opened_numbers, opened_flows, with_award_row, with_award_numbers, with_award_flows, HoldsTiers}
use Rattle.tier_rules.proofs.States.{opened-reached}
use Rattle.tier_rules.proofs.Runs.{added-reached}
use Rattle.tier_rules.proofs.Holding.{opened-holds, added-holds}
use Rattle.tier_rules.proofs.Going.{running, goes_on, last-same}
use Rattle.tier_running_rules.specs.OpenRunning.{OpenRunningCall, open_running_checked, numbers_opened, flows_opened, OpenedRunning, OpensRunning}
use Rattle.tier_running_rules.specs.AddAward.{AddAwardCall, cells_over, add_grid, add_factors, add_process, add_period, awarded, own_period, add_listed, add_award_checked, add_award_checks}
use Rattle.tier_running_rules.specs.AddAward.{awards_added, numbers_added, flows_added, AddGoesOn, AddsAward}
use Rattle.tier_running_rules.specs.Inner.{up_to13}
use Rattle.tier_running_rules.proofs.Checking.{openable, tables_listed, fields, listed-parts}
use Rattle.tier_running_rules.proofs.Overs.{over-told}

-- ---- opening

open_running : (q : OpenRunningCall) (numbers : List ℕ) (flows : List ℤ) → numbers ≡ numbers_opened q → flows ≡ flows_opened q → OpenedRunning q numbers flows
open_running q numbers flows en ef e =
    let g = grid_of q.nodes q.constraints q.limits q.factors in
    let t = period_of q.period in
    let o = openable q e in
    rw (en, ef, e)
    (running g (process_of q.process) t opened (state_cells q.awards (opened_numbers q.numbers) (opened_flows q.flows)) (opened-reached g (process_of q.process) t)
    (opened-holds g t o.tables.good-factors.few q.awards q.numbers q.flows))

pub opens-running : (q : OpenRunningCall) (answer : RunningAnswer) (numbers : List ℕ) (flows : List ℤ) → running_outcome answer ≡ answered (open_running_checked q) []
    → numbers ≡ numbers_opened q → flows ≡ flows_opened q → OpensRunning q answer numbers flows
opens-running q answer numbers flows a en ef = record { answer-given = a; numbers-opened = en; flows-opened = ef; running = open_running q numbers flows en ef }

-- ---- adding

module _ (q : AddAwardCall) where
  abbrev over : Bool
  over = cells_over (own_period q) q.limits (add_process q) (add_factors q) (awarded q) q.numbers q.flows

  abbrev held : ℕ
  held = held_in q.numbers

  in_parts : (b : Bool) → first (add_listed q held (overload b)) ≡ first (up_to13 q held ++ overload b ∷ [])
  in_parts b = ap first (listed-parts q held (overload b))

  -- x is what the checks before 21 found
  module _ (x : Checked) (found : x ≡ first (up_to13 q held)) where
    pub field-refuses : (r : Refusal) → x ≡ Err r → add_award_checked q ≡ Err r
    field-refuses r told = in_parts over ∙ append_refuses (up_to13 q held) (overload over ∷ []) r (sym found ∙ told)

    pub over-refuses : x ≡ passed → over ≡ true → add_award_checked q ≡ Err AwardOverload
    over-refuses told e = in_parts over ∙ append_passes (up_to13 q held) (overload over ∷ []) (sym found ∙ told) ∙ first-refuses (overload over) [] e

    pub held_passes : x ≡ passed → over ≡ false → add_award_checked q ≡ passed
    held_passes told e = in_parts over ∙ append_passes (up_to13 q held) (overload over ∷ []) (sym found ∙ told) ∙ last-passes (overload over) e

  abbrev state : Tiers → Type 0
  state s = Reached (add_grid q) (add_process q) (add_period q) s × HoldsTiers (add_grid q) (add_period q) s (state_cells q.awards q.numbers q.flows)

  same_checks : (s : Tiers) → state s → add_award_checked q ≡ first (add_award_checks q s)
  same_checks s st =
      let n = length s.awards in
      let e : held ≡ n = st.1.held_is in
      in_parts over
      ∙ last-same (up_to13 q held) over (award_over (add_grid q) (add_process q) (add_period q) s.awards (awarded q)).fails AwardOverload (λ p.
      let f = fields q held p in
      over-told q.nodes q.constraints q.limits q.factors (add_process q) (add_period q) s q.awards q.numbers q.flows st.0 st.1
      f.before.tables.good-factors.in_range (omega (arith, f.before.flows_long, f.before.tables.good-factors.few)) (awarded q))
      ∙ sym (in_parts (award_over (add_grid q) (add_process q) (add_period q) s.awards (awarded q)).fails)
      ∙ ap (λ (m : ℕ). first (add_listed q m (award_over (add_grid q) (add_process q) (add_period q) s.awards (awarded q)))) e

  award-passes : (s : Tiers) → first (add_award_checks q s) ≡ passed
      → first (award_checks q.nodes (length s.awards) q.award (award_over (add_grid q) (add_process q) (add_period q) s.awards (awarded q))) ≡ passed
  unfolding add_listed
  award-passes s e = (passed_append (tables_listed q) _ e).1

  next-state : (s : Tiers) → state s → add_award_checked q ≡ passed → Reached (add_grid q) (add_process q) (add_period q) (with_award (awarded q) s)
      × HoldsTiers (add_grid q) (add_period q) (with_award (awarded q) s)
      (state_cells (with_award_row held (awarded q) q.awards) (with_award_numbers (own_period q) q.numbers) (with_award_flows (own_period q) (add_factors q) (awarded q) q.flows))
  next-state s st e =
      let f = fields q held (passed_append (up_to13 q held) (overload over ∷ []) (sym (in_parts over) ∙ e)).0 in (
        added-reached (add_grid q) (add_process q) (add_period q) s st.0 q.award (award-passes s (sym (same_checks s st) ∙ e)),
        added-holds (add_grid q) (add_period q) s q.awards q.numbers q.flows st.1 f.before.numbers-long f.before.flows_long (add_process q) st.0 (awarded q)
            (omega (arith, f.room, st.1.held_is)) f.before.awards-long,
      )

  add_goes_on : AddGoesOn q (state_cells (awards_added q) (numbers_added q) (flows_added q))
  add_goes_on =
      goes_on (add_grid q) (add_process q) (add_period q) (add_award_checked q) (add_award_checks q) (with_award (awarded q)) (state_cells q.awards q.numbers q.flows)
      (λ x. state_cells (cell_after x (with_award_row held (awarded q) q.awards) q.awards) (cell_after x (with_award_numbers (own_period q) q.numbers) q.numbers)
      (cell_after x (with_award_flows (own_period q) (add_factors q) (awarded q) q.flows) q.flows))
      (λ z. refl) (λ s r h. same_checks s (r, h)) (λ s r h e. next-state s (r, h) e)

  adds-award : (answer : RunningAnswer) (awards numbers : List ℕ) (flows : List ℤ) → running_outcome answer ≡ answered (add_award_checked q) []
      → awards ≡ awards_added q → numbers ≡ numbers_added q → flows ≡ flows_added q → AddsAward q answer (state_cells awards numbers flows)
  adds-award answer awards numbers flows a ea en ef =
      record { answer-given = a; awards-added = ea; numbers-added = en; flows-added = ef; running = rw (ea, en, ef) add_goes_on }

  pub adds-refused : (r : Refusal) → add_award_checked q ≡ Err r → AddsAward q (Err r) (state_cells q.awards q.numbers q.flows)
  adds-refused r e = adds-award (Err r) q.awards q.numbers q.flows (rw e) (rw e) (rw e) (rw e)

  -- 21, where the buffers that were to be written are as they were
  pub adds-21 : add_award_checked q ≡ Err AwardOverload → (numbers : List ℕ) (flows : List ℤ) → numbers ≡ q.numbers → flows ≡ q.flows
      → AddsAward q (Err AwardOverload) (state_cells q.awards numbers flows)
  adds-21 e numbers flows en ef = adds-award (Err AwardOverload) q.awards numbers flows (rw e) (rw e) (rw e en) (rw e ef)

  pub adds-passed : add_award_checked q ≡ passed → (awards numbers : List ℕ) (flows : List ℤ) → awards ≡ with_award_row held (awarded q) q.awards
      → numbers ≡ with_award_numbers (own_period q) q.numbers → flows ≡ with_award_flows (own_period q) (add_factors q) (awarded q) q.flows → AddsAward q passed (state_cells awards numbers flows)
  adds-passed e awards numbers flows ea en ef = adds-award passed awards numbers flows (rw e) (rw e ea) (rw e en) (rw e ef)
