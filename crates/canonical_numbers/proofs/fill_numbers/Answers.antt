-- `fill_numbers`: the cells passed hold the numbers.
use Rattle.std.proofs.Common.{◌≡◌, refl, sym, ap, ◌∙◌, add-one, arith, length}
use Rattle.std.proofs.lemmas.List.{take_all}
use lib.Seq.{take-suc-set}
use Rattle.lists.specs.Lists.{list_to}
use Rattle.lists.proofs.Lists.{list_to-more}
use Rattle.layouts.specs.BookFile.{contract_in}
use Rattle.canonical_rules.specs.Inner.{row_number}
use Rattle.canonical_numbers.proofs.fill_numbers.Goals as goal

pub loop-i-init : goal.loop-i-init
unfolding list_to
loop-i-init c = refl

pub loop-i-preserved : goal.loop-i-preserved
loop-i-preserved c =
    let a = c.args in
    let l = c.loop-i in
    rw (list_to-more l.i (λ j. row_number (contract_in a.contracts.form a.contracts.file.now j)), add-one, take-suc-set l.cells l.i _ (omega arith), l.invariant, ← c.number_at.ensures)

pub returns : goal.returns
returns c =
    let l = c.loop-i in
    let last : l.i ≡ length c.args.cells.now = omega arith in
    sym (take_all l.i l.cells (omega (arith, last, l.auto.cells)))
    ∙ l.invariant ∙ ap (λ n. list_to n (λ j. row_number (contract_in c.args.contracts.form c.args.contracts.file.now j))) last
