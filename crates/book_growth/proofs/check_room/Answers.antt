-- `check_room`.
use mathlib.Core.Path.{sym, ◌∙◌}
use native.Mathlib.Omega.{arith}
use borrow.Author.Tests.{lt-ltb, le-ltb}
use Rattle.tariff.specs.Units.{max_contracts}
use Rattle.layouts.specs.BookFile.{book_bytes_of}
use Rattle.tariff.proofs.Checks.{first_passes, first-refuses, last-passes}
use Rattle.book_growth.proofs.check_room.Goals as goal

pub returns-then-grown-gt-MAX_CONTRACTS : goal.returns-then-grown-gt-MAX_CONTRACTS
returns-then-grown-gt-MAX_CONTRACTS c = sym (first-refuses _ _ (lt-ltb max_contracts c.args.grown c.if-grown-gt-MAX_CONTRACTS.true))

pub returns-then-bytes-book_bytes : goal.returns-then-bytes-book_bytes
returns-then-bytes-book_bytes c =
    let e = c in
    let a = e.args in
    sym (first_passes _ _ (le-ltb max_contracts e.args.grown e.if-grown-gt-MAX_CONTRACTS.false)
    ∙ first-refuses _ _ (lt-ltb a.bytes (book_bytes_of a.form a.grown) (omega (arith, c.if-bytes-book_bytes.true, c.book_bytes.ensures))))

pub returns : goal.returns
returns c =
    let e = c in
    let a = e.args in
    sym (first_passes _ _ (le-ltb max_contracts e.args.grown e.if-grown-gt-MAX_CONTRACTS.false)
    ∙ last-passes _ (le-ltb a.bytes (book_bytes_of a.form a.grown) (omega (arith, c.if-bytes-book_bytes.false, c.book_bytes.ensures))))
