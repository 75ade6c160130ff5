-- `write_market_view`: where no check refuses, the book's contracts without their holders are written.
use Rattle.std.proofs.lemmas.Result.{err_from_is_err_and}
use mathlib.Core.Path.{◌≡◌, refl, sym, ◌∙◌}
use native.Mathlib.Nat.{le_of_eq}
use Rattle.tariff.specs.Refusals.{passed}
use Rattle.tariff.proofs.Answers.{answer-refused, cells-refused, answer-passed, cells-passed}
use Rattle.tariff.specs.Refusals.{first}
use Rattle.book_rules.specs.BookChecks.{own_checks}
use Rattle.book_rules.proofs.Accepted.{own_accepted, own_header}
use Rattle.view_rules.specs.Views.{market_file}
use Rattle.view_rules.specs.MarketView.{MarketViewCall, market_view_call, market_view_checked}
use Rattle.view_rules.proofs.Market.{market_rows, market_length}
use Rattle.view_market.proofs.Checking.{accepted-of, room_of}
use Rattle.view_market.proofs.write_market_view.Goals as goal

pub of-requires : goal.of-requires
of-requires c =
    let call : MarketViewCall = let a = c.args in market_view_call a.nodes a.book.now a.file.now in
    let ok : market_view_checked call ≡ passed = sym (c.check_market_view.ensures call.place refl) ∙ c.in_ok-check_market_view.was in
    let accepted = accepted-of call ok in
    (own_header call.nodes call.book accepted, le_of_eq (sym (own_accepted call.nodes call.book accepted).size))

pub write_anonymous-requires : goal.write_anonymous-requires
write_anonymous-requires c =
    let call : MarketViewCall = let a = c.args in market_view_call a.nodes a.book.now a.file.now in
    let ok : market_view_checked call ≡ passed = sym (c.check_market_view.ensures call.place refl) ∙ c.in_ok-check_market_view.was in
    let of = c.of.ensures in
    rw (of.1, of.2) (room_of call ok)

pub returns-in_err-check_market_view : goal.returns-in_err-check_market_view
returns-in_err-check_market_view c =
    let call : MarketViewCall = let a = c.args in market_view_call a.nodes a.book.now a.file.now in
    let q = call in
    let a = c.args in
    let q = market_view_call a.nodes a.book.now a.file.now in
    let found = c.check_market_view.ensures a.file.now refl in
    let told = c.in_err-check_market_view.was in
    let p = err_from_is_err_and c.from_residual.result c.from_residual.ensures.1 in
    rw (p.1, p.2) (record { length-given = answer-refused _ _ found _ told _; bytes-written = cells-refused _ _ found _ told (market_file q.book) _ })

pub returns : goal.returns
returns c =
    let call : MarketViewCall = let a = c.args in market_view_call a.nodes a.book.now a.file.now in
    let ok : market_view_checked call ≡ passed = sym (c.check_market_view.ensures call.place refl) ∙ c.in_ok-check_market_view.was in
    let q = call in
    let accepted : first (own_checks q.nodes q.book) ≡ passed = accepted-of q ok in
    let found = c.check_market_view.ensures q.place refl in
    let told = c.in_ok-check_market_view.was in
    let of = c.of.ensures in
    let stored = rw (of.0, of.1, of.2, ← market_rows q.book) at c.write_anonymous.ensures in
    record {
      length-given = rw (sym (market_length q.nodes q.book accepted)) (answer-passed _ _ found told _);
      bytes-written = cells-passed _ _ found told (market_file q.book) q.place _ stored;
    }
