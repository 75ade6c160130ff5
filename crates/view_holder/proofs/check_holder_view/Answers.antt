-- `check_holder_view`: each return by the tests that led there.
use Rattle.std.proofs.lemmas.Result.{err_from_is_err_and}
use mathlib.Core.Path.{◌≡◌, sym, ◌∙◌}
use mathlib.Core.List.{List}
use Prim.Native.Nat.{ℕ}
use native.Mathlib.Nat.{le_of_eq}
use native.Mathlib.Omega.{arith}
use lib.Dec.{ltb}
use lib.ListN.{length}
use Rattle.tariff.specs.Refusals.{passed}
use Rattle.tariff.specs.Refusals.{first}
use Rattle.book_rules.specs.BookChecks.{own_checks}
use Rattle.book_rules.proofs.Accepted.{own_accepted, own_header}
use Rattle.view_rules.specs.Views.{holder_view}
use Rattle.view_holder.specs.Inner.{rows_to}
use Rattle.view_holder.proofs.Checking.{view_rows, book-refuses, no_holder, no_room, room}
use Rattle.view_holder.proofs.check_holder_view.Goals as goal

pub returns-in_err-check_own : goal.returns-in_err-check_own
returns-in_err-check_own c place e = let p = err_from_is_err_and c.from_residual.result c.from_residual.ensures.1 in
    rw (p.1, p.2) (sym (book-refuses _ _ (sym c.check_own.ensures ∙ c.in_err-check_own.was)))

pub returns-then-holder-gt-MAX_HOLDER : goal.returns-then-holder-gt-MAX_HOLDER
returns-then-holder-gt-MAX_HOLDER c place e = sym (no_holder _ (sym c.check_own.ensures ∙ c.in_ok-check_own.was) (omega arith))

pub of-requires : goal.of-requires
of-requires c =
    let accepted : first (own_checks c.args.nodes c.args.book.now) ≡ passed = sym c.check_own.ensures ∙ c.in_ok-check_own.was in
    (own_header _ _ accepted, le_of_eq (sym (own_accepted _ _ accepted).size))

pub returns-then-room_short : goal.returns-then-room_short
returns-then-room_short c place e =
    let accepted : first (own_checks c.args.nodes c.args.book.now) ≡ passed = sym c.check_own.ensures ∙ c.in_ok-check_own.was in
    let told : (place : List ℕ) → length place ≡ c.args.bytes → ltb (length place) (length (holder_view c.args.holder c.args.book.now)) ≡ c.room_short.result = λ place e. let a = c.args in
    let of = c.of.ensures in
    (λ k. ltb (e k) (length (view_rows a.holder a.book.now k)))
    ∙ sym (λ k. ltb a.bytes (length (rows_to (of.1 k) a.holder (of.0 k) (of.2 k))))
    ∙ sym c.room_short.ensures in
    sym (no_room _ accepted (omega (arith, c.if-holder-gt-MAX_HOLDER.false)) (told place e ∙ c.if-room_short.true))

pub returns : goal.returns
returns c place e =
    let accepted : first (own_checks c.args.nodes c.args.book.now) ≡ passed = sym c.check_own.ensures ∙ c.in_ok-check_own.was in
    let told : (place : List ℕ) → length place ≡ c.args.bytes → ltb (length place) (length (holder_view c.args.holder c.args.book.now)) ≡ c.room_short.result = λ place e. let a = c.args in
    let of = c.of.ensures in
    (λ k. ltb (e k) (length (view_rows a.holder a.book.now k)))
    ∙ sym (λ k. ltb a.bytes (length (rows_to (of.1 k) a.holder (of.0 k) (of.2 k))))
    ∙ sym c.room_short.ensures in
    sym (room _ accepted (omega (arith, c.if-holder-gt-MAX_HOLDER.false)) (told place e ∙ c.if-room_short.false))
