-- `put_period_lines`: an answer for each process from the same flows, and its line.
use Rattle.test_rules.specs.Carried.{Carries}
use Rattle.test_rules.specs.declared.Flows.{Flows}
use Rattle.tariff.specs.declared.contracts.Period.{Period}
use mathlib.Core.List.{List}
use mathlib.Core.Path.{◌≡◌, ◌∙◌}
use Prim.Native.Nat.{ℕ}
use Rattle.tariff.specs.declared.processes.Process.{Process}
use Rattle.tariff.specs.declared.processes.Process.TheVariants.{Annual, TierLt, Monthly}
use Rattle.grid_tables.specs.declared.table.GridTable.{GridTable}
use Rattle.grid_tables.specs.Grids.{grid_by}
use Rattle.test_verdict.specs.declared.loading.Loading.{Loading}
use Rattle.tariff.specs.Units.{factors_of}
use Rattle.tariff.specs.ContractRules.{of_period}
use Rattle.tariff.specs.Refusals.{given}
use Rattle.layouts.specs.BookFile.{book_in}
use Rattle.std.specs.Prelude.{Ok}
use Rattle.test_rules.specs.declared.Verdict.{Verdict}
use Rattle.test_rules.specs.TestBook.{test_outcome}
use Rattle.test_rules.proofs.Flowing.{carried_judgeable}
use Rattle.test_verdict.specs.Judged.{judged_values}
use Rattle.test_verdict.proofs.Judging.{judges}
use Rattle.text_format.proofs.Putting.{puts_same, ◌and◌}
use Rattle.text_report_rules.specs.Report.{line, period_lines}
use Rattle.text_report_rules.specs.Inner.{answer_line}
use Rattle.text_report_rules.proofs.Answering.{line-text}
use Rattle.text_report_lines.proofs.put_period_lines.Goals as goal

-- ---- with the three verdicts

module _ (grid : GridTable) (period : Period) (book : List ℕ) (flows : Flows)
    (carried : Carries (factors_of grid.factors.nodes grid.factors.constraints grid.factors.cells.now) (of_period period (book_in book)) flows) where
  -- the verdict is the test's, so its line is
  text : (loading : Loading) → loading.constraints ≡ grid.factors.constraints → loading.limits.now ≡ grid.limits.now → loading.flows.now ≡ flows
      → (process : Process) (verdict : Verdict)
      → test_outcome (Ok verdict) ≡ given (judged_values loading.limits.now process loading.flows.now.flows loading.constraints)
      → line (grid_by grid) (book_in book) period process ≡ answer_line grid.factors.constraints period process verdict
  text loading same_constraints same_limits same_flows process verdict told =
      let g = grid.factors in
      let own : test_outcome (Ok verdict) ≡ given (judged_values grid.limits.now process flows.flows g.constraints)
      = told ∙ (λ i. given (judged_values (same_limits i) process (same_flows i).flows (same_constraints i))) in
      line-text g.nodes g.constraints grid.limits.now g.cells.now book process period verdict
      (judges g.nodes g.constraints g.good.few grid.limits.now g.cells.now process period (book_in book) flows carried (Ok verdict) own)

pub of-loading-requires : goal.of-loading-requires
of-loading-requires c =
    let g = c.args.grid in
    carried_judgeable g.factors.nodes g.factors.constraints g.limits.now g.factors.cells.now c.args.period c.args.book.now g.good g.factors.good c.requires.book_accepted _
    c.carry-flows.ensures

pub returns-clause-put : goal.returns-clause-put
unfolding period_lines
returns-clause-put c =
    let l = c.of-loading in
    let line = text c.args.grid c.args.period c.args.book.now c.carry-flows.result c.carry-flows.ensures l.result l.ensures.constraints_kept l.ensures.limits_kept l.ensures.flows_kept in
    puts_same (line Annual _ c.verdict-annual.ensures) c.put_line.ensures.put
    and puts_same (line TierLt _ c.verdict-lt.ensures) c.put_line-2.ensures.put
    and puts_same (line Monthly _ c.verdict-monthly.ensures) c.put_line-3.ensures.put
