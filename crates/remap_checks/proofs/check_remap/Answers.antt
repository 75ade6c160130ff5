-- `check_remap`: each return by the tests that led there.
use Rattle.std.proofs.lemmas.Result.{err_from_is_err_and}
use mathlib.Core.Path.{◌≡◌, sym, ap, ◌∙◌}
use native.Mathlib.Omega.{arith}
use Rattle.tariff.specs.Refusals.{passed}
use Rattle.tariff.specs.Refusals.{first}
use Rattle.tariff.proofs.Checks.{nodes-some_of}
use Rattle.layouts.specs.declared.forms.Form.{Form}
use Rattle.layouts.specs.BookFile.{book_form_in}
use Rattle.book_rules.specs.BookChecks.{own_checks}
use Rattle.book_rules.proofs.Accepted.{own_parts, own_header}
use Rattle.remap_rules.specs.Inner.{list_checks}
use Rattle.remap_rules.proofs.Checking.{book-refuses, lists-refuse, no_room, room}
use Rattle.remap_checks.proofs.check_remap.Goals as goal

pub returns-in_err-check_own : goal.returns-in_err-check_own
returns-in_err-check_own c place e = let p = err_from_is_err_and c.from_residual.result c.from_residual.ensures.1 in
    rw (p.1, p.2) (sym (book-refuses _ _ (sym c.check_own.ensures ∙ c.in_err-check_own.was)))

pub book_form-requires : goal.book_form-requires
book_form-requires c =
    let accepted : first (own_checks c.args.nodes c.args.book.now) ≡ passed = sym c.check_own.ensures ∙ c.in_ok-check_own.was in
    let a = c.args in
    own_header a.nodes a.book.now accepted

pub check_lists-requires : goal.check_lists-requires
check_lists-requires c =
    let accepted : first (own_checks c.args.nodes c.args.book.now) ≡ passed = sym c.check_own.ensures ∙ c.in_ok-check_own.was in
    nodes-some_of _ (own_parts _ _ accepted).0

pub returns-in_err-check_lists : goal.returns-in_err-check_lists
returns-in_err-check_lists c place e =
    let accepted : first (own_checks c.args.nodes c.args.book.now) ≡ passed = sym c.check_own.ensures ∙ c.in_ok-check_own.was in
    let lists-told : first (list_checks (book_form_in c.args.book.now) c.args.nodes c.args.old.now c.args.new.now) ≡ c.check_lists.result = let a = c.args in
    ap (λ (f : Form). first (list_checks f a.nodes a.old.now a.new.now)) (sym c.book_form.ensures) ∙ sym c.check_lists.ensures in
    let p = err_from_is_err_and c.from_residual-in_err-check_lists.result c.from_residual-in_err-check_lists.ensures.1 in
    rw (p.1, p.2) (sym (lists-refuse _ accepted _ (lists-told ∙ c.in_err-check_lists.was)))

pub returns-then-bytes-book : goal.returns-then-bytes-book
returns-then-bytes-book c place e =
    let accepted : first (own_checks c.args.nodes c.args.book.now) ≡ passed = sym c.check_own.ensures ∙ c.in_ok-check_own.was in
    let lists-told : first (list_checks (book_form_in c.args.book.now) c.args.nodes c.args.old.now c.args.new.now) ≡ c.check_lists.result = let a = c.args in
    ap (λ (f : Form). first (list_checks f a.nodes a.old.now a.new.now)) (sym c.book_form.ensures) ∙ sym c.check_lists.ensures in
    sym (no_room _ accepted (lists-told ∙ c.in_ok-check_lists.was) (omega arith))

pub returns : goal.returns
returns c place e =
    let accepted : first (own_checks c.args.nodes c.args.book.now) ≡ passed = sym c.check_own.ensures ∙ c.in_ok-check_own.was in
    let lists-told : first (list_checks (book_form_in c.args.book.now) c.args.nodes c.args.old.now c.args.new.now) ≡ c.check_lists.result = let a = c.args in
    ap (λ (f : Form). first (list_checks f a.nodes a.old.now a.new.now)) (sym c.book_form.ensures) ∙ sym c.check_lists.ensures in
    sym (room _ accepted (lists-told ∙ c.in_ok-check_lists.was) (omega arith))
