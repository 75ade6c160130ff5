-- `check_hub_mcc`.
use mathlib.Core.Path.{sym, ◌∙◌}
use Rattle.std.proofs.lemmas.Result.{err_from_is_err_and}
use Rattle.tariff.proofs.Checks.{append_refuses, append_passes}
use Rattle.hub_mcc.specs.FindHubMcc.{find_hub_mcc_call}
use Rattle.hub_mcc.proofs.Passing.{all_nodes, the_hub, as_for_all, some_node}
use Rattle.hub_mcc.proofs.check_hub_mcc.Goals as goal

pub check_hub-requires : goal.check_hub-requires
check_hub-requires c =
    let a = c.args in
    let q = find_hub_mcc_call a.nodes a.constraints a.factors.now a.prices.now a.hub.now a.weights.now in
    some_node q (sym c.check_hour_tables.ensures ∙ c.in_ok-check_hour_tables.was)

pub returns-in_err-check_hour_tables : goal.returns-in_err-check_hour_tables
returns-in_err-check_hour_tables c =
    let a = c.args in
    let q = find_hub_mcc_call a.nodes a.constraints a.factors.now a.prices.now a.hub.now a.weights.now in
    let p = err_from_is_err_and c.from_residual.result c.from_residual.ensures.1 in
    rw (p.1, p.2) (sym (append_refuses (all_nodes q) (the_hub q) _ (sym c.check_hour_tables.ensures ∙ c.in_err-check_hour_tables.was)) ∙ as_for_all q)

pub returns : goal.returns
returns c =
    let a = c.args in
    let q = find_hub_mcc_call a.nodes a.constraints a.factors.now a.prices.now a.hub.now a.weights.now in
    let passed = sym c.check_hour_tables.ensures ∙ c.in_ok-check_hour_tables.was in
    c.check_hub.ensures ∙ sym (append_passes (all_nodes q) (the_hub q) passed) ∙ as_for_all q
