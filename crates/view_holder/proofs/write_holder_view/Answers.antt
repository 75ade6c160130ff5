-- `write_holder_view`: where no check refuses, the holder's rows are written.
use Rattle.std.proofs.lemmas.Result.{err_from_is_err_and}
use mathlib.Core.Path.{◌≡◌, refl, sym, ◌∙◌}
use native.Mathlib.Nat.{le_of_eq}
use Rattle.tariff.specs.Refusals.{passed}
use Rattle.tariff.proofs.Answers.{answer-refused, cells-refused, answer-passed, cells-passed}
use Rattle.book_rules.proofs.Accepted.{own_accepted, own_header}
use Rattle.view_rules.specs.Views.{holder_view}
use Rattle.view_rules.specs.HolderView.{HolderViewCall, holder_view_call, holder_view_checked}
use Rattle.view_holder.proofs.Checking.{view_rows, accepted-of, room_of}
use Rattle.view_holder.proofs.write_holder_view.Goals as goal

pub of-requires : goal.of-requires
of-requires c =
    let call : HolderViewCall = let a = c.args in holder_view_call a.nodes a.book.now a.holder a.view.now in
    let ok : holder_view_checked call ≡ passed = sym (c.check_holder_view.ensures call.place refl) ∙ c.in_ok-check_holder_view.was in
    let accepted = accepted-of call ok in
    (own_header call.nodes call.book accepted, le_of_eq (sym (own_accepted call.nodes call.book accepted).size))

pub write_held-requires : goal.write_held-requires
write_held-requires c =
    let call : HolderViewCall = let a = c.args in holder_view_call a.nodes a.book.now a.holder a.view.now in
    let ok : holder_view_checked call ≡ passed = sym (c.check_holder_view.ensures call.place refl) ∙ c.in_ok-check_holder_view.was in
    let of = c.of.ensures in
    rw (of.0, of.1, of.2, ← view_rows call.holder call.book) (room_of call ok)

pub returns-in_err-check_holder_view : goal.returns-in_err-check_holder_view
returns-in_err-check_holder_view c =
    let a = c.args in
    let q = holder_view_call a.nodes a.book.now a.holder a.view.now in
    let found = c.check_holder_view.ensures a.view.now refl in
    let told = c.in_err-check_holder_view.was in
    let p = err_from_is_err_and c.from_residual.result c.from_residual.ensures.1 in
    rw (p.1, p.2) (record { length-given = answer-refused _ _ found _ told _; bytes-written = cells-refused _ _ found _ told (holder_view q.holder q.book) _ })

pub returns : goal.returns
returns c =
    let call : HolderViewCall = let a = c.args in holder_view_call a.nodes a.book.now a.holder a.view.now in
    let q = call in
    let found = c.check_holder_view.ensures q.place refl in
    let told = c.in_ok-check_holder_view.was in
    let of = c.of.ensures in
    let stored = rw (of.0, of.1, of.2, ← view_rows q.holder q.book) at c.write_held.ensures.view_value in
    let size = rw (of.0, of.1, of.2, ← view_rows q.holder q.book) at c.write_held.ensures.value in
    record {
      length-given = rw size (answer-passed _ _ found told _);
      bytes-written = cells-passed _ _ found told (holder_view q.holder q.book) q.place _ stored;
    }
