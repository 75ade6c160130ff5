-- `write_statement`.
use mathlib.Core.List.{List, []}
use Prim.Native.Nat.{ℕ, ◌≤◌}
use lib.ListN.{length}
use borrow.Author.Rules.{rules}
use borrow.Author.Tests.{lt-ltb, le-ltb}
use Rattle.std.specs.Prelude.{Ok}
use Rattle.text_format.specs.Inner.{Put}
use Rattle.text_format.proofs.Putting.{put_front}
use Rattle.tariff.specs.Checks.{short_table}
use Rattle.tariff.proofs.Checks.{first-refuses, last-passes}
use Rattle.text_statement_lines.specs.Lines.{longest_statement}
use Rattle.text_statement.specs.WriteStatement.{statement as statementOf, statement_checks, statement_call, WritesStatement}
use Rattle.text_statement.proofs.write_statement.Goals as goal

pub returns-then-text-lt-LONGEST_STATEMENT : goal.returns-then-text-lt-LONGEST_STATEMENT
unfolding statement_checks
returns-then-text-lt-LONGEST_STATEMENT c =
    let place = c.args.text.now in
    let told = first-refuses (short_table (length place) longest_statement) [] (lt-ltb (length place) longest_statement c.if-text-lt-LONGEST_STATEMENT.true) in
    record { length-given = rw told; bytes-written = rw told }

written : (grid_file book_file price_file place : List ℕ) → longest_statement ≤ length place → (exit : List ℕ) (bytes : ℕ)
    → Put place 0 (statementOf grid_file book_file price_file) exit bytes → WritesStatement (statement_call grid_file book_file price_file place) (Ok bytes) exit
unfolding statement_checks
written grid_file book_file price_file place room exit bytes put =
    let p = put_front put in
    let told = last-passes (short_table (length place) longest_statement) (le-ltb (length place) longest_statement room) in
    record { length-given = rw (told, p.1); bytes-written = rw told p.0 }

pub returns : goal.returns
returns c =
    let a = c.args in
    written a.grid_file.now a.book_file.now a.price_file.now a.text.now c.if-text-lt-LONGEST_STATEMENT.false _ _ (search rules)
