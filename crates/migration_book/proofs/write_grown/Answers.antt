-- `write_grown`: the old contracts kept, the new ones behind them.
use mathlib.Core.Path.{ap, ◌∙◌}
use mathlib.Core.List.{List}
use Prim.Native.Nat.{◌+◌}
use native.Mathlib.Omega.{arith}
use lib.ListN.{length}
use Rattle.lists.specs.Lent.{overwrite}
use Rattle.lists.proofs.Lists.{length-list_to}
use Rattle.tariff.specs.declared.contracts.Contract.{Contract}
use Rattle.layouts.specs.BookFile.{contract_in}
use Rattle.book_rules.specs.Inner.{book_front}
use Rattle.migration_rules.specs.ContractRules.{new_book}
use Rattle.book_growth.proofs.Appending.{room-fewer}
use Rattle.migration_book.specs.Inner.{contracts_to, new_to}
use Rattle.migration_book.proofs.Growing.{contracts-of}
use Rattle.migration_book.proofs.Accepted.{book-fits, grown_written}
use Rattle.migration_book.proofs.write_grown.Goals as goal

pub keep_contracts-requires : goal.keep_contracts-requires
keep_contracts-requires c =
    let s = c in
    let a = s.args in
    let ok = s.args.migration.readable in
    let size = ok.whole.size in
    let old = length-list_to a.migration.contracts.count (contract_in a.migration.contracts.form a.migration.contracts.file.now) in
    let all = length (contracts_to a.migration.contracts.form a.migration.contracts.file.now a.migration.contracts.count)
    + length (new_to a.migration.contracts.form a.migration.contracts.file.now a.migration.period a.square a.migration.loads.now a.migration.contracts.count) in
    let room = room-fewer a.migration.contracts.form a.migration.contracts.count all _ (omega (arith, old)) s.requires.roomy.room in
    (ok.whole, omega (arith, s.requires.grown_value, s.requires.roomy.few), omega (arith, rw ok.count-is at size, room))

pub store_grown-requires : goal.store_grown-requires
store_grown-requires c =
    let w = c in
    let s = w in record { ready = s.requires.ready; roomy = record { few = s.requires.roomy.few; room = rw w.keep_contracts.auto.file s.requires.roomy.room } }

pub shape_of-file : goal.shape_of-file
shape_of-file c =
    let n = c in
    n.store_grown.auto.file ∙ n.keep_contracts.auto.file

pub returns : goal.returns
unfolding new_book
returns c =
    let n = c in
    let w = n in
    let s = w in
    let a = s.args in
    let old = contracts_to a.migration.contracts.form a.migration.contracts.file.now a.migration.contracts.count in
    let kept = w.keep_contracts.ensures
    ∙ ap (λ (cs : List Contract). overwrite (book_front a.migration.contracts.form a.grown cs) a.file.now) (contracts-of a.migration.contracts.form a.migration.contracts.count a.migration.contracts.file.now s.args.migration.readable) in
    grown_written a.migration.contracts.form a.grown a.migration.contracts.count _ old (new_to a.migration.contracts.form a.migration.contracts.file.now a.migration.period a.square a.migration.loads.now a.migration.contracts.count) a.file.now _ _
    (length-list_to a.migration.contracts.count (contract_in a.migration.contracts.form a.migration.contracts.file.now)) s.requires.grown_value
    (book-fits a.migration.contracts.form a.migration.contracts.file.now a.migration.period a.square a.migration.loads.now a.migration.contracts.count s.requires.ready)
    kept n.store_grown.ensures
