-- `write_report`.
use mathlib.Core.List.{List, []}
use Prim.Native.Nat.{ℕ, ◌≤◌}
use lib.ListN.{length}
use borrow.Author.Rules.{rules}
use borrow.Author.Tests.{lt-ltb, le-ltb}
use Rattle.std.specs.Prelude.{Ok}
use Rattle.text_format.specs.Inner.{Put}
use Rattle.text_format.proofs.Putting.{put_front}
use Rattle.tariff.specs.Checks.{short_table}
use Rattle.tariff.proofs.Checks.{first-refuses, last-passes}
use Rattle.text_report_rules.specs.WriteReport.{report, report_room, report_checks, report_call, WritesReport}
use Rattle.text_report.proofs.write_report.Goals as goal

pub returns-then-text-lt-REPORT_ROOM : goal.returns-then-text-lt-REPORT_ROOM
unfolding report_checks
returns-then-text-lt-REPORT_ROOM c =
    let a = c.args in
    let told = first-refuses (short_table (length a.text.now) report_room) [] (lt-ltb (length a.text.now) report_room c.if-text-lt-REPORT_ROOM.true) in
    record { length-given = rw told; bytes-written = rw told }

written : (grid_file book_file place : List ℕ) → report_room ≤ length place → (exit : List ℕ) (bytes : ℕ) → Put place 0 (report grid_file book_file) exit bytes
    → WritesReport (report_call grid_file book_file place) (Ok bytes) exit
unfolding report_checks
written grid_file book_file place room exit bytes put =
    let p = put_front put in
    let told = last-passes (short_table (length place) report_room) (le-ltb (length place) report_room room) in
    record { length-given = rw (told, p.1); bytes-written = rw told p.0 }

pub returns : goal.returns
returns c = let a = c.args in written a.grid_file.now a.book_file.now a.text.now c.if-text-lt-REPORT_ROOM.false _ _ (search rules)
