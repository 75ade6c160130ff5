-- `check_read`: the book's own checks, then the room.
-- the book's own checks, then the room
use Rattle.std.proofs.lemmas.Result.{err_from_is_err_and}
use mathlib.Core.Path.{◌≡◌, sym, ◌∙◌}
use mathlib.Core.List.{List, [], ◌∷◌, ◌++◌}
use Prim.Native.Nat.{ℕ, ◌*◌, ◌<◌, ◌≤◌}
use native.Mathlib.Omega.{arith}
use borrow.Author.Tests.{lt-ltb, le-ltb}
use lib.ListN.{length}
use Rattle.tariff.specs.Refusals.{first}
use Rattle.tariff.specs.Checks.{short_table}
use Rattle.tariff.proofs.Checks.{first-refuses, last-passes, append_refuses, append_passes}
use Rattle.layouts.specs.BookFile.{contract_count_in}
use Rattle.layouts.specs.BookTable.{contract_cells}
use Rattle.book_rules.specs.BookChecks.{own_checks}
use Rattle.book_rules.specs.ReadBook.{read_book_call, read_book_checked}
use Rattle.book_rules.proofs.Accepted.{own_accepted}
use Rattle.book_rules.proofs.Passing.{own_then_room}
use Rattle.book_reading.proofs.check_read.Goals as goal

behind : (nodes : ℕ) (file table : List ℕ)
    → read_book_checked (read_book_call nodes file table)
    ≡ first (own_checks nodes file ++ short_table (length table) (contract_cells * contract_count_in file) ∷ [])
behind nodes file table = own_then_room (read_book_call nodes file table)

pub returns-in_err-check_own : goal.returns-in_err-check_own
returns-in_err-check_own c = λ table e. let p = err_from_is_err_and c.from_residual.result c.from_residual.ensures.1 in
    rw (p.1, p.2) (sym (behind c.args.nodes c.args.file.now table ∙ append_refuses _ _ _ (sym c.check_own.ensures ∙ c.in_err-check_own.was)))

pub contract_count-requires : goal.contract_count-requires
contract_count-requires c =
    let a = c.args in
    let ok = own_accepted a.nodes a.file.now (sym c.check_own.ensures ∙ c.in_ok-check_own.was) in
    omega (arith, ok.size)

pub returns-then-cells-contract_count : goal.returns-then-cells-contract_count
returns-then-cells-contract_count c = λ table e.
    let room : length table < contract_cells * contract_count_in c.args.file.now = omega (arith, c.contract_count.ensures.0) in
    sym (behind c.args.nodes c.args.file.now table ∙ append_passes _ _ (sym c.check_own.ensures ∙ c.in_ok-check_own.was) ∙ first-refuses _ _ (lt-ltb _ _ room))

pub returns : goal.returns
returns c = λ table e.
    let room : contract_cells * contract_count_in c.args.file.now ≤ length table = omega (arith, c.contract_count.ensures.0) in
    sym (behind c.args.nodes c.args.file.now table ∙ append_passes _ _ (sym c.check_own.ensures ∙ c.in_ok-check_own.was) ∙ last-passes _ (le-ltb _ _ room))
