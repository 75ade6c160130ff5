-- `add_hub_contract`: what refuses among the first checks is the answer, and behind them the promise is that of `add_made`.
use mathlib.Core.Path.{sym, refl, ◌∙◌}
use Rattle.std.specs.Prelude.{Err}
use Rattle.std.proofs.lemmas.Result.{err_from_is_err_and}
use Rattle.tariff.proofs.Answers.{answer-refused, cells-refused}
use Rattle.hub_book.specs.AddHubContract.{hub_call, book_grown}
use Rattle.hub_book.proofs.Growing.{given-refuses}
use Rattle.hub_book.proofs.add_hub_contract.Goals as goal

pub add_made-requires : goal.add_made-requires
add_made-requires c = sym c.check_given.ensures ∙ c.in_ok-check_given.was

pub returns-in_err-check_given : goal.returns-in_err-check_given
returns-in_err-check_given c =
    let a = c.args in
    let q = hub_call a.nodes a.book.now a.kind a.period a.holder a.hub.now a.weights.now a.sink a.quantity a.file.now in
    let refused = given-refuses q _ (sym c.check_given.ensures ∙ c.in_err-check_given.was) in
    let p = err_from_is_err_and c.from_residual.result c.from_residual.ensures.1 in
    rw (p.1, p.2) (record { length-given = answer-refused (Err _) _ (sym refused) _ refl _; bytes-written = cells-refused (Err _) _ (sym refused) _ refl (book_grown q) _ })
