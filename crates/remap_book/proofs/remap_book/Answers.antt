-- `remap_book`: where no check refuses, the table has every end and the moved contracts fit.
use Rattle.std.proofs.lemmas.Result.{err_from_is_err_and}
use mathlib.Core.Path.{refl, sym, ◌∙◌}
use native.Mathlib.Nat.{le_of_eq}
use Rattle.tariff.proofs.Answers.{answer-refused, cells-refused, answer-passed, cells-passed}
use Rattle.book_rules.proofs.Accepted.{book-accepted, accepted-header}
use Rattle.remap_rules.specs.RemapBook.{remap_book_call, book_remapped}
use Rattle.remap_rules.proofs.Accepted.{Remappable, remappable, movable, looked_up_list, length-remade}
use Rattle.remap_book.proofs.remap_book.Goals as goal

pub moved_ends-ends-requires : goal.moved_ends-ends-requires
moved_ends-ends-requires c =
    let call = let a = c.args in remap_book_call a.nodes a.book.now a.old.now a.new.now
    a.file.now in
    let ok : Remappable call = remappable call (sym (c.check_remap.ensures call.place refl) ∙ c.in_ok-check_remap.was) in
    ok.listed

pub of-requires : goal.of-requires
of-requires c =
    let call = let a = c.args in remap_book_call a.nodes a.book.now a.old.now a.new.now
    a.file.now in
    let ok : Remappable call = remappable call (sym (c.check_remap.ensures call.place refl) ∙ c.in_ok-check_remap.was) in
    let own = book-accepted call.nodes call.book ok.accepted in
    (accepted-header call.nodes call.book own, le_of_eq (sym own.size))

pub write_moved-requires : goal.write_moved-requires
write_moved-requires c =
    let call = let a = c.args in remap_book_call a.nodes a.book.now a.old.now a.new.now
    a.file.now in
    let ok : Remappable call = remappable call (sym (c.check_remap.ensures call.place refl) ∙ c.in_ok-check_remap.was) in
    let of = c.of.ensures in
    record {
      count_in_bounds = rw (of.1, of.2) ok.room;
      by_index = rw (of.0, of.1, of.2) (movable call ok c.moved_ends-ends.result c.moved_ends-ends.ensures);
    }

pub returns-in_err-check_remap : goal.returns-in_err-check_remap
returns-in_err-check_remap c =
    let a = c.args in
    let q = remap_book_call a.nodes a.book.now a.old.now a.new.now a.file.now in
    let found = c.check_remap.ensures a.file.now refl in
    let told = c.in_err-check_remap.was in
    let p = err_from_is_err_and c.from_residual.result c.from_residual.ensures.1 in
    rw (p.1, p.2) (record { length-given = answer-refused _ _ found _ told _; bytes-written = cells-refused _ _ found _ told (book_remapped q) _ })

pub returns : goal.returns
returns c =
    let call = let a = c.args in remap_book_call a.nodes a.book.now a.old.now a.new.now
    a.file.now in
    let ok : Remappable call = remappable call (sym (c.check_remap.ensures call.place refl) ∙ c.in_ok-check_remap.was) in
    let q = call in
    let found = c.check_remap.ensures q.place refl in
    let told = c.in_ok-check_remap.was in
    let of = c.of.ensures in
    let stored = rw (of.0, of.1, of.2, looked_up_list q ok c.moved_ends-ends.result c.moved_ends-ends.ensures) at c.write_moved.ensures in
    record {
      length-given = rw (sym (length-remade q ok)) (answer-passed _ _ found told _);
      bytes-written = cells-passed _ _ found told (book_remapped q) q.place _ stored;
    }
