-- The awards held as a book: what is written reads as the awards, and the opening's tables pass it.
use mathlib.Core.Path.{◌≡◌, refl, sym, ap, ◌∙◌}
use mathlib.Core.Bool.{Bool, true, false, cond}
use mathlib.Core.List.{List, [], ◌∷◌, ◌++◌}
use Prim.Native.Nat.{ℕ, ◌*◌, ◌≤◌, ◌<◌}
use native.Mathlib.Nat.{zero-add}
use borrow.Author.Tests.{le-ltb}
use lib.Dec.{eqb}
use lib.ListN.{length, get_or, take}
use lib.IntN.{ℤ, pos}
use Rattle.lists.specs.Lists.{Each}
use Rattle.lists.specs.Lent.{Lent, before, after}
use Rattle.tariff.specs.declared.contracts.Contract.{Contract}
use Rattle.tariff.specs.declared.processes.Process.{Process}
use Rattle.std.specs.Prelude.{Ok}
use Rattle.tariff.specs.Refusals.{passed}
use Rattle.tariff.specs.Units.{Grid, factors_of}
use Rattle.tariff.specs.ContractRules.{period_of, of_period}
use Rattle.tariff.specs.Refusals.{first, answered, cells_after, number_after}
use Rattle.tariff.specs.Checks.{node_count, constraint_count, process_number, period_number, short_table, limit_range, factor_range}
use Rattle.tariff.specs.Feasibility.{total_flow, overload_set}
use Rattle.tariff.proofs.Answers.{figure-is}
use Rattle.tariff.proofs.Checks.{passed_cons, passed_append, append_passes, last-passes}
use Rattle.layouts.specs.declared.forms.Form.{Form}
use Rattle.layouts.specs.Forms.{form_of}
use Rattle.layouts.specs.BookFile.{book_bytes_of, book_in}
use Rattle.layouts.proofs.Writing.{writes_passed, writes_told, written-by}
use Rattle.grid_tables.specs.TableChecks.{grid_table_checks}
use Rattle.book_rules.specs.BookChecks.{book_checks}
use Rattle.book_rules.specs.WriteBook.{WriteBookCall, write_book_call, write_book_checked, book_written, WritesBook, WritesBookForC}
use Rattle.book_rules.proofs.Passing.{writable, rows_made, length-written}
use Rattle.test_rules.specs.TestBook.{TestAnswer, pass}
use Rattle.test_rules.specs.TestBook.{test_checks, test_checked, tested_grid, tested_process, tested_contracts, test_values}
use Rattle.test_rules.specs.TestBook.{TestCells, pass_cells_of, fail_cells_of, test_cells, TestsBook, TestsBookForC}
use Rattle.test_rules.proofs.Judging.{passed_told}
use Rattle.test_loading.specs.FindFlows.{FlowsCall, find_flows_checks, find_flows_checked, counted_contracts, flow_cells}
use Rattle.test_loading.proofs.Passing.{flow-is}
use Rattle.tier_rules.specs.Tiers.{Tiers}
use Rattle.tier_rules.specs.Cells.{held_in, counted_in, StateCells}
use Rattle.tier_rules.specs.Checks.{running_checks}
use Rattle.tier_rules.specs.Theorems.{EndsFit}
use Rattle.tier_rules.proofs.Books.{wide-ends}
use Rattle.tier_running_rules.specs.OpenRunning.{OpenRunningCall, open_running_checks, open_running_checked}
use Rattle.tier_calls.specs.Runs.{RunningIn}
use Rattle.tier_calls.specs.Held.{write_held, test_by_opening, flows_by_opening, HeldBooks}
use Rattle.tier_calls.proofs.Room.{counts_asked, ranges_kept, opening_parts}
use Rattle.tier_calls.proofs.Runs.{every_run}
use Rattle.tier_calls.proofs.Rows.{rows-held, rows_taken}

-- an opening's checks are the test's of the tables, with the buffers'
tables-pass : (q : OpenRunningCall) → open_running_checked q ≡ passed
    → first (grid_table_checks q.nodes q.constraints q.process q.period q.limits q.factors) ≡ passed
unfolding grid_table_checks
tables-pass q ok =
    let p = opening_parts q ok in
    append_passes (counts_asked q) (ranges_kept q) p.0 ∙ p.2

nodes-pass : (q : OpenRunningCall) → open_running_checked q ≡ passed → (node_count q.nodes).fails ≡ false
unfolding open_running_checks running_checks
nodes-pass q ok = (passed_cons _ _ ok).0

-- no figures: an empty set
no_cells : (x : ℤ) (xs : List ℤ) (fail : TestCells) (b : Bool) → cond b [] (x ∷ xs) ≡ [] → (cond b pass_cells_of fail).set ≡ 0
no_cells x xs fail true e = refl
no_cells x xs fail false e = cc

empty_told : (g : Grid) (process : Process) (cs : List Contract) → test_values g process cs ≡ [] → (test_cells g process cs).set ≡ 0
unfolding test_values test_cells
empty_told g process cs e = no_cells _ _ (fail_cells_of g process cs) (eqb (overload_set g process cs) 0) e

module _ (q : OpenRunningCall) (s : Tiers) (cells : StateCells) (h : RunningIn q s cells) (f : Form) (place : List ℕ) where
  abbrev wq : WriteBookCall
  wq = write_held q cells f place

  module _ (ends : Each (EndsFit f q.nodes) s.awards) (room : book_bytes_of f (held_in cells.numbers) ≤ length place) where
    taken : write_book_checked wq ≡ passed
    taken =
        let r = h.running in
        ap (λ (m : ℕ). write_book_checked (write_book_call f q.nodes m cells.awards place)) r.holds.held_is
        ∙ rows_taken s.awards cells.awards r.holds.rows f q.nodes r.reached.each ends (nodes-pass q h.opened) r.reached.few place
        (rw r.holds.held_is at room)

    size : length (book_written wq) ≡ book_bytes_of f (held_in cells.numbers)
    size = length-written wq (writable wq taken)

  module _ (m : ℕ) (x : List ℕ) (w : WritesBook wq (Ok m) x) where
    told : (write_book_checked wq ≡ passed) × (take m x ≡ book_written wq)
    told = writes_told (write_book_checked wq) (book_written wq) place m x w

    reads : book_in (take m x) ≡ s.awards
    reads =
        let r = h.running in
        ap book_in told.1 ∙ (rows_made wq (writable wq told.0)).contracts ∙ rw r.holds.held_is (rows-held s.awards cells.awards r.holds.rows)

    own_accepted : first (book_checks q.nodes (take m x)) ≡ passed
    own_accepted = rw told.1 (rows_made wq (writable wq told.0)).accepted

    accepted : test_checked (test_by_opening q (take m x)) ≡ passed
    unfolding test_checks
    accepted =
        append_passes (grid_table_checks q.nodes q.constraints q.process q.period q.limits q.factors) (book_checks q.nodes (take m x))
        (tables-pass q h.opened)
        ∙ own_accepted

    no_figures : test_values (tested_grid (test_by_opening q (take m x))) (tested_process (test_by_opening q (take m x)))
        (tested_contracts (test_by_opening q (take m x))) ≡ []
    no_figures =
        ap (λ (cs : List Contract). test_values (tested_grid (test_by_opening q (take m x))) (tested_process (test_by_opening q (take m x)))
        (of_period (period_of q.period) cs)) reads
        ∙ h.running.passes

    test_passes : (b : TestAnswer) → TestsBook (test_by_opening q (take m x)) b → b ≡ pass
    test_passes b t = passed_told b (t.figures ∙ (λ i. answered (accepted i) (no_figures i)))

    pass_for_c : (number : ℕ) (set count lowest : Lent ℕ) (excess : Lent ℤ) → TestsBookForC (test_by_opening q (take m x)) number set count lowest excess
        → (number ≡ 0) × (after set ≡ 0)
    pass_for_c number set count lowest excess t = (
      t.refusal-number ∙ ap number_after accepted,
      figure-is (test_checked (test_by_opening q (take m x))) accepted _ _ _ t.set_given ∙ empty_told _ _ _ no_figures,
    )

    -- as a flow's call checks: the tables without the process, the book's own, and room
    module _ (place₂ : List ℤ) (wide : q.constraints ≤ length place₂) where
      abbrev fq : FlowsCall
      fq = flows_by_opening q (take m x) place₂

      flows-accepted : find_flows_checked fq ≡ passed
      unfolding find_flows_checks grid_table_checks
      flows-accepted =
          let n = q.nodes in
          let k = q.constraints in
          let counts = node_count n ∷ constraint_count k ∷ [] in
          let rest =
          period_number q.period ∷ short_table (length q.limits) k ∷ short_table (length q.factors) (n * k) ∷ limit_range (take k q.limits)
          ∷ factor_range (take (n * k) q.factors) ∷ [] in
          let own = book_checks n (take m x) in
          let room = short_table (length place₂) k in
          let p = passed_append counts (process_number q.process ∷ rest) (tables-pass q h.opened) in
          append_passes counts (rest ++ (own ++ room ∷ [])) p.0
          ∙ append_passes rest (own ++ room ∷ []) (passed_cons (process_number q.process) rest p.1).1
          ∙ append_passes own (room ∷ []) own_accepted
          ∙ last-passes room (le-ltb (length place₂) k wide)

      counted : length (counted_contracts fq) ≡ counted_in cells.numbers
      counted = ap (λ (cs : List Contract). length (of_period (period_of q.period) cs)) reads ∙ sym h.running.holds.counted_is

      same_flows : (y : List ℤ) → y ≡ cells_after (find_flows_checked fq) (flow_cells fq) place₂ → (k : ℕ) → k < q.constraints
          → get_or y k (pos 0) ≡ get_or cells.flows k (pos 0)
      same_flows y is k b =
          flow-is fq y flows-accepted is k b
          ∙ ap (λ (cs : List Contract). total_flow (factors_of q.nodes q.constraints q.factors) (of_period (period_of q.period) cs) k) reads
          ∙ sym (rw zero-add at (h.running.holds.block.flows-are k b))

-- 0 answered: a length was given
given-c : (q : OpenRunningCall) (cells : StateCells) (form : ℕ) (place x : List ℕ) (bytes : Lent ℕ)
    → WritesBookForC (write_held q cells (form_of form) place) 0 x bytes
    → WritesBook (write_held q cells (form_of form) place) (Ok (after bytes)) x
given-c q cells form place x bytes w =
    written-by (write_book_checked (write_held q cells (form_of form) place)) (book_written (write_held q cells (form_of form) place)) place (before bytes) x
    (after bytes) w

pub held_books : HeldBooks
held_books =
    record {
      held_written = λ q s cells r f ends place room a x w.
          let h = every_run.every_run_runs q s cells r in
          (writes_passed (write_book_checked (write_held q cells f place)) (book_written (write_held q cells f place)) place a x
          (taken q s cells h f place ends room) w).length-is
          ∙ ap Ok (size q s cells h f place ends room);
      wide-ends_fit = λ q s cells r. wide-ends q.nodes s.awards (every_run.every_run_runs q s cells r).running.reached.each;
      held_passes = λ q s cells r f place. test_passes q s cells (every_run.every_run_runs q s cells r) f place;
      held_flows = λ q s cells r f place m x w room wide b y t.
          let h = every_run.every_run_runs q s cells r in (
            t.counted-given ∙ (λ i. answered (flows-accepted q s cells h f place m x w room wide i) (pos (counted q s cells h f place m x w room wide i) ∷ [])),
            same_flows q s cells h f place m x w room wide y t.flows-found,
          );
      crr_held_written = λ q s cells r form ends place room number x bytes w.
          let h = every_run.every_run_runs q s cells r in
          let ok = taken q s cells h (form_of form) place ends room in (
            w.refusal-number ∙ ap number_after ok,
            figure-is _ ok _ _ _ w.length-given ∙ size q s cells h (form_of form) place ends room,
          );
      crr_held_passes = λ q s cells r form place x bytes w.
          pass_for_c q s cells (every_run.every_run_runs q s cells r) (form_of form) place (after bytes) x (given-c q cells form place x bytes w);
      crr_held_flows = λ q s cells r form place x bytes w room wide number y counts t.
          let h = every_run.every_run_runs q s cells r in
          let g = given-c q cells form place x bytes w in
          let ok = flows-accepted q s cells h (form_of form) place (after bytes) x g room wide in (
            t.refusal-number ∙ ap number_after ok,
            figure-is _ ok _ _ _ t.counted-given ∙ counted q s cells h (form_of form) place (after bytes) x g room wide,
            same_flows q s cells h (form_of form) place (after bytes) x g room wide y t.flows-found,
          );
    }
