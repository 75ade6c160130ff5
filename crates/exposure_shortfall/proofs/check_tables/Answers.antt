-- `check_tables`: the counts and numbers, then the cells.
use mathlib.Core.Path.{◌≡◌, sym, ◌∙◌}
use mathlib.Core.Bool.{false}
use borrow.Author.Tests.{lt-ltb, le-ltb}
use Rattle.tariff.specs.Checks.{node_count}
use Rattle.tariff.proofs.Checks.{first_passes, first-refuses}
use Rattle.exposure_shortfall.proofs.Checking.{Counted, then_cells}
use Rattle.exposure_shortfall.proofs.check_tables.Goals as goal

pub returns-then-nodes_bad : goal.returns-then-nodes_bad
returns-then-nodes_bad c = sym (first-refuses _ _ (sym c.nodes_bad.ensures ∙ c.if-nodes_bad.true))

pub returns-then-asked-gt-MAX_CONSTRAINTS : goal.returns-then-asked-gt-MAX_CONSTRAINTS
returns-then-asked-gt-MAX_CONSTRAINTS c =
    let pass : (node_count c.args.asked.nodes).fails ≡ false = sym c.nodes_bad.ensures ∙ c.if-nodes_bad.false in
    sym (first_passes _ _ pass ∙ first-refuses _ _ (lt-ltb _ _ c.if-asked-gt-MAX_CONSTRAINTS.true))

pub returns-then-asked-gt2 : goal.returns-then-asked-gt2
returns-then-asked-gt2 c =
    let pass : (node_count c.args.asked.nodes).fails ≡ false = sym c.nodes_bad.ensures ∙ c.if-nodes_bad.false in
    sym (first_passes _ _ pass ∙ first_passes _ _ (le-ltb _ _ c.if-asked-gt-MAX_CONSTRAINTS.false) ∙ first-refuses _ _ (lt-ltb _ _ c.if-asked-gt2.true))

pub returns-then-asked-gt1 : goal.returns-then-asked-gt1
returns-then-asked-gt1 c =
    let pass : (node_count c.args.asked.nodes).fails ≡ false = sym c.nodes_bad.ensures ∙ c.if-nodes_bad.false in
    sym (first_passes _ _ pass ∙ first_passes _ _ (le-ltb _ _ c.if-asked-gt-MAX_CONSTRAINTS.false)
    ∙ first_passes _ _ (le-ltb _ _ c.if-asked-gt2.false) ∙ first-refuses _ _ (lt-ltb _ _ c.if-asked-gt1.true))

pub returns : goal.returns
returns c =
    let a = c.args.asked in
    let pass : (node_count c.args.asked.nodes).fails ≡ false = sym c.nodes_bad.ensures ∙ c.if-nodes_bad.false in
    let counted : Counted a.nodes a.constraints a.process a.period =
    record {
      two = pass;
      three = le-ltb _ _ c.if-asked-gt-MAX_CONSTRAINTS.false;
      sixteen = le-ltb _ _ c.if-asked-gt2.false;
      seventeen = le-ltb _ _ c.if-asked-gt1.false;
    } in
    c.check_cells.ensures ∙ sym (then_cells _ _ _ _ counted _)
