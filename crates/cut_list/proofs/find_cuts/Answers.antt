-- `find_cuts`: the test's checks, then the rows' keys, then the room for them; the keys taken apart are the rows.
use mathlib.Core.Path.{◌≡◌, refl, sym, ◌∙◌}
use mathlib.Core.List.{map}
use Prim.Native.Nat.{◌≤◌}
use native.Mathlib.Omega.{arith}
use lib.ListN.{length, take}
use lib.Seq.{length-take-le, take_all}
use Rattle.std.proofs.lemmas.Result.{err_from_is_err_and}
use Rattle.layouts.specs.BookFile.{book_in}
use Rattle.book_rules.proofs.Accepted.{book-accepted}
use Rattle.test_rules.proofs.Checking.{tested}
use Rattle.test_terms.specs.Calls.{asked_test}
use Rattle.cut_rules.specs.Cuts.{least_cuts}
use Rattle.cut_rules.specs.Inner.{row_key}
use Rattle.cut_rules.specs.FindCuts.{CutsCall, listed_rows}
use Rattle.cut_rules.proofs.Entry.{test-refuses, then_room, few-listed, how_many, number-cells, cut_cells, refuses}
use Rattle.cut_list.proofs.Rows.{finds}
use Rattle.cut_list.proofs.find_cuts.Goals as goal

pub returns-in_err-check_test : goal.returns-in_err-check_test
returns-in_err-check_test c =
    let q : CutsCall = record { test = asked_test c.args.asked c.args.limits.now c.args.factors.now c.args.book.now; numbers = c.args.numbers.now; cuts = c.args.cuts.now } in
    let p = err_from_is_err_and c.from_residual.result c.from_residual.ensures.1 in
    rw (p.1, p.2) (refuses q.test _ _ _ (test-refuses q c.check_test.result c.check_test.ensures _ c.in_err-check_test.was) refl refl)

pub of-test-requires : goal.of-test-requires
of-test-requires c =
    let o = tested (asked_test c.args.asked c.args.limits.now c.args.factors.now c.args.book.now) (sym c.check_test.ensures ∙ c.in_ok-check_test.was) in
    record { tables = (o.tables.good-limits, o.tables.good-factors); others = (o.tables.process-number, o.book) }

pub returns : goal.returns
returns c =
    let test = asked_test c.args.asked c.args.limits.now c.args.factors.now c.args.book.now in
    let o = tested test (sym c.check_test.ensures ∙ c.in_ok-check_test.was) in
    let q : CutsCall = record { test = test; numbers = c.args.numbers.now; cuts = c.args.cuts.now } in
    let k = c.check_test in
    let of = c.of-test.ensures in
    let r = c.row_keys-listed in
    let enough : r.result ≤ length r.new.keys = let h = r.ensures.upper_bound in omega (arith, h.0, h.1) in
    let long : length (take r.result r.new.keys) ≡ r.result = length-take-le r.result r.new.keys enough in
    let keys : take r.result (take r.result r.new.keys) ≡ map row_key (listed_rows q)
    = take_all r.result (take r.result r.new.keys) (omega (arith, long))
    ∙ r.ensures.keys_value
    ∙ (λ i. map row_key (least_cuts (of.grid_kept i) (of.process_kept i) (of.period_kept i) (book_in (of.book_kept i)))) in
    let room : r.result ≤ length (take r.result r.new.keys) = omega (arith, long) in
    let few = few-listed q (book-accepted c.args.asked.nodes c.args.book.now o.book).few in
    let many = how_many (listed_rows q) few _ r.result room keys in
    finds _ r.result _ _ test _ (then_room q k.result k.ensures c.in_ok-check_test.was) many
    (number-cells (listed_rows q) few _ r.result room keys)
    (cut_cells (listed_rows q) few _ r.result room keys)
    (rw long at c.list_rows.ensures)
